-- `text_program::read_leaf` meets its contract. Assumes nothing.
use Prim.Native.Nat.{ℕ, ◌+◌, ◌≤◌, ◌<◌}
use mathlib.Core.List.{List, [], ◌∷◌}
use mathlib.Core.Path.{◌≡◌, refl}
use native.Mathlib.Omega.{arith}
use lib.ListN.{length}
use types.Run.{OneOf, miss}
use denote.Enum.Declared.{tag_of, declared}
use Rattle.model.specs.Rules.Outcome.{refuse}
use Rattle.model.specs.Rules.Width.{read_width}
use Rattle.model.specs.declared.Kind.{Kind}
use Rattle.model.specs.declared.Operator.{Operator}
use Rattle.model.proofs.Texts.Legal.{read-width}
use Rattle.model.specs.contracts.Operator.{enum}
use Rattle.model.specs.declared.Sampled.{Sampled}
use Rattle.text_program.specs.Walks.{Outline, leaf_of}
use Rattle.text_program.proofs.Walks.{walks-refused, walks-over}
use Rattle.text_program.proofs.read_leaf.Goals as goal
use Rattle.text_program.proofs.read_leaf.Goals.{Start}

-- an unknown operator, and those that have operands
abbrev others : List ℕ
others = 1 ∷ 5 ∷ 6 ∷ 7 ∷ []

no-leaf : (size at : ℕ) (o : Operator) → OneOf others (tag_of (declared enum) o) → leaf_of size at o ≡ refuse 3 at
unfolding leaf_of
no-leaf size at Operator.EndsEarly h = absurd (miss others 0 tt h)
no-leaf size at Operator.Unknown h = refl
no-leaf size at Operator.OutOfRange h = absurd (miss others 2 tt h)
no-leaf size at (Operator.Constant w) h = absurd (miss others 3 tt h)
no-leaf size at (Operator.Read kind x) h = absurd (miss others 4 tt h)
no-leaf size at (Operator.Binary operator) h = refl
no-leaf size at (Operator.Unary operator) h = refl
no-leaf size at Operator.If h = refl

-- A read ends in the text, and has an entry left in the table.
read_fits : (s : Start) (kind : Kind) (x : Sampled) → s.args.operator ≡ Operator.Read kind x →
    (s.args.walk.at + read_width kind ≤ 8192) × (s.args.walk.reads < length s.args.reads.now)
read_fits s kind x e =
    let h = s.requires.read-inside kind x e in
    let room = s.requires.left in
    (omega (arith, h, room.short), omega (arith, h, read-width kind, room.table, room.few))

pub overflow_cast-reads : goal.overflow_cast-reads
overflow_cast-reads c = omega (arith, (read_fits (goal.at.overflow_cast-reads c).Start _ _ c.in-Read.is).0)

pub bounds-reads-walk : goal.bounds-reads-walk
bounds-reads-walk c = (read_fits (goal.at.bounds-reads-walk c).Start _ _ c.in-Read.is).1

pub returns-in-EndsEarly : goal.returns-in-EndsEarly
unfolding leaf_of
returns-in-EndsEarly c = walks-refused _ (rw c.in-EndsEarly.is) c.refuse.ensures

pub returns-in-OutOfRange : goal.returns-in-OutOfRange
unfolding leaf_of
returns-in-OutOfRange c = walks-refused _ (rw c.in-OutOfRange.is) c.refuse-in-OutOfRange.ensures

pub returns-in-Constant : goal.returns-in-Constant
unfolding leaf_of
returns-in-Constant c =
    let x : Outline =
    record { places = []; code = 5; lookups = 0; next = c.args.walk.at + 5 } in
    walks-over _ x (rw c.in-Constant.is refl) refl
    (record {
      goes = omega (arith, c.in_expression.ensures);
      counts = omega arith;
      codes = omega (arith, c.in_code.ensures);
      looked = omega arith;
      holds = refl;
    })

pub returns-in-Read : goal.returns-in-Read
unfolding leaf_of
returns-in-Read c =
    let at = c.args.walk.at in
    let x : Outline = record { places = at ∷ []; code = 2; lookups = 0; next = at + read_width c.in-Read.kind } in
    walks-over _ x (rw c.in-Read.is refl) refl
    (record {
      goes = omega (arith, c.of_read.ensures);
      counts = refl;
      codes = omega (arith, c.in_code-in-Read.ensures);
      looked = omega arith;
      holds = refl;
    })

pub returns-in_default : goal.returns-in_default
returns-in_default c = walks-refused _ (no-leaf _ _ _ c.in_default.in_default-own.keys5) c.refuse-in_default.ensures
