-- `image_code::put_leaf` meets its contract. Assumes nothing.
use Prim.Native.Nat.{ℕ, ◌+◌, ◌^◌, ◌≤◌, ◌<◌}
use mathlib.Core.Bool.{false≢true}
use mathlib.Core.List.{List, [], ◌∷◌}
use mathlib.Core.Path.{◌≡◌, subst}
use native.Mathlib.Omega.{arith}
use lib.ListN.{length}
use mir.Facts.{to_z-of_z}
use mir.Syntax.{w32}
use types.Run.{OneOf, miss}
use denote.Enum.Declared.{tag_of, declared}
use Rattle.model.specs.declared.Operator.{Operator}
use Rattle.model.specs.contracts.Operator.{enum}
use Rattle.image_code.specs.Code.{Puts, LeafSpace}
use Rattle.image_code.specs.Shape.{lead_of}
use Rattle.image_code.proofs.Operands.{word-length, same_word}
use borrow.Author.Rules.{rules}
use borrow.Enum.Refused.{opened}
use Rattle.image_code.proofs.put_leaf.Goals as goal
use Rattle.image_code.proofs.put_leaf.Goals.{Start}

-- what is no leaf
abbrev rest : List ℕ
rest = 0 ∷ 1 ∷ 2 ∷ 5 ∷ 6 ∷ 7 ∷ []

no-leaf : (o : Operator) {at n to : ℕ} → OneOf rest (tag_of (declared enum) o) → LeafSpace o at n to → ⊥
no-leaf Operator.EndsEarly k s = false≢true s.operator
no-leaf Operator.Unknown k s = false≢true s.operator
no-leaf Operator.OutOfRange k s = false≢true s.operator
no-leaf (Operator.Constant w) k s = miss rest 3 tt k
no-leaf (Operator.Read kind x) k s = miss rest 4 tt k
no-leaf (Operator.Binary operator) k s = omega (arith, s.leaf)
no-leaf (Operator.Unary operator) k s = omega (arith, s.leaf)
no-leaf Operator.If k s = omega (arith, s.leaf)

-- the space that an operator has
space : (s : Start) (o : Operator) → s.args.operator ≡ o →
    (s.args.at + (lead_of o).width < 2 ^ 64) × (s.args.to + length (lead_of o).last ≤ length s.args.out.now)
space s o e =
    subst (λ (x : Operator). (s.args.at + (lead_of x).width < 2 ^ 64) ×
    (s.args.to + length (lead_of x).last ≤ length s.args.out.now)) e (s.requires.counted, s.requires.fits)

-- its code is written
written : (s : Start) (o : Operator) → s.args.operator ≡ o → {l : List ℕ} {next end : ℕ} →
    Puts s.args.out.now s.args.to (lead_of o).last (s.args.at + (lead_of o).width) l next end →
    Puts s.args.out.now s.args.to (lead_of s.args.operator).last (s.args.at + (lead_of s.args.operator).width) l
    next end
written s o e p = rw e p

pub overflow_add-at : goal.overflow_add-at
overflow_add-at c =
    let s = (goal.at.overflow_add-at c).Start in
    omega (arith, (space s _ c.in-Constant.is).0, c.in_expression.ensures)

pub put_push-requires : goal.put_push-requires
put_push-requires c =
    let s = (goal.at.put_push-requires c).Start in
    omega (arith, word-length c.in-Constant.w, (space s _ c.in-Constant.is).1)

pub overflow_add-at-in-Read : goal.overflow_add-at-in-Read
overflow_add-at-in-Read c =
    let s = (goal.at.overflow_add-at-in-Read c).Start in
    omega (arith, (space s _ c.in-Read.is).0, c.of_read.ensures)

pub put_access-requires : goal.put_access-requires
put_access-requires c =
    let s = (goal.at.put_access-requires c).Start in
    omega (arith, (space s _ c.in-Read.is).1)

pub returns-in-Constant : goal.returns-in-Constant
returns-in-Constant c =
    let e = c in
    let s = (goal.at.returns-in-Constant c).Start in
    written s _ e.in-Constant.is (same_word (to_z-of_z {w = w32} (search rules))
    (rw e.in_expression.ensures at c.put_push.ensures))

pub returns-in-Read : goal.returns-in-Read
returns-in-Read c =
    let e = c in
    let s = (goal.at.returns-in-Read c).Start in
    written s _ e.in-Read.is
    (rw e.of_read.ensures at c.put_access.ensures)

pub returns-in_default : goal.returns-in_default
returns-in_default c = absurd (no-leaf _ (opened c.in_default.in_default-own.keys3) c.requires)
