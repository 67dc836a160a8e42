-- `run_code::leaf_word` meets its contract. Assumes nothing.
use mathlib.Core.Path.{◌≡◌, ap, ◌∙◌}
use Prim.Native.Nat.{ℕ, ◌+◌, ◌≤◌, ◌<◌}
use native.Mathlib.Omega.{arith}
use lib.Dec.{eqb}
use borrow.Author.Tests.{eqb-true, eqb-false}
use lib.IntN.{pos}
use lib.ListN.{length, get_or}
use Rattle.model.specs.Rules.Machine.{code_at}
use Rattle.model.specs.Rules.Word.{byte_at, word_at}
use Rattle.model.specs.declared.Code.TheVariants as Code
use Rattle.model.proofs.Basics.Tests.{by}
use Rattle.word.proofs.Locals.{kept}
use Rattle.run_code.proofs.Commands.{within, push-leaf, load-leaf, fetch-leaf}
use borrow.Author.Rules.{rules}
use Rattle.run_code.proofs.leaf_word.Goals as goal
use Rattle.run_code.proofs.leaf_word.Goals.{Else-byte-eq80, Start, Then-byte-eq80}

abbrev start : Else-byte-eq80 → Start
start e = (goal.at.Else-byte-eq80 e).Start

-- the leaf, by its byte
at_push : (t : Then-byte-eq80) → let s = t in let code = s.args.code.now in
    (s.args.at + 5 ≤ length code) × (code_at code s.args.at ≡ Code.Push (word_at code (s.args.at + 1)))
at_push t = push-leaf _ _ _ _ t.requires.2 t.if-byte-eq80.true

-- a leaf that is no PUSH has two bytes, and names a word and a sample
module _ (e : Else-byte-eq80) where
  abbrev byte : ℕ
  byte = byte_at (start e).args.code.now (start e).args.at

  abbrev x : ℕ
  x = byte_at (start e).args.code.now ((start e).args.at + 1)

  is-fetch : (byte ≡ 0x51 → ⊥) → byte ≡ 0x52
  is-fetch h = omega (arith, (start e).requires.0, (start e).requires.1, e.if-byte-eq80.false, h)

  named : ((start e).args.at + 2 ≤ length (start e).args.code.now) × (x + 1 < length (start e).args.state.now) ×
      (x < length (start e).args.samples.now)
  named = by (eqb byte 0x51)
      (λ t. let f = load-leaf _ _ _ _ (start e).requires.2 (eqb-true byte 0x51 t) in (f.0, f.1, f.2))
      (λ t. let f = fetch-leaf _ _ _ _ (start e).requires.2 (is-fetch (eqb-false byte 0x51 t)) in (f.0, f.1, f.2))

pub returns-then-byte-eq80 : goal.returns-then-byte-eq80
returns-then-byte-eq80 c = let t = c in kept _ c.word_at.type_inv ∙ c.word_at.ensures ∙ rw (at_push (goal.at.returns-then-byte-eq80 t).Then-byte-eq80).1

pub returns-then-byte-eq81 : goal.returns-then-byte-eq81
returns-then-byte-eq81 c =
    let w = c in
    let e = c in
    kept _ c.loaded-1.given ∙
    ap (λ (i : ℕ). get_or (start (goal.at.returns-then-byte-eq81 e).Else-byte-eq80).args.state.now (i + 1) (pos 0)) w.from_byte-x.ensures.0 ∙
    rw (load-leaf _ _ _ _ (start (goal.at.returns-then-byte-eq81 e).Else-byte-eq80).requires.2 c.if-byte-eq81.true).3

pub returns-else-byte-eq81 : goal.returns-else-byte-eq81
returns-else-byte-eq81 c =
    let w = c in
    let e = c in
    kept _ c.fetched-1.given ∙ ap (λ (i : ℕ). get_or (start (goal.at.returns-else-byte-eq81 e).Else-byte-eq80).args.samples.now i (pos 0)) w.from_byte-x.ensures.0 ∙
    rw (fetch-leaf _ _ _ _ (start (goal.at.returns-else-byte-eq81 e).Else-byte-eq80).requires.2 (is-fetch (goal.at.returns-else-byte-eq81 e).Else-byte-eq80 c.if-byte-eq81.false)).3

pub bounds-code-at : goal.bounds-code-at
bounds-code-at c = within _ _ _ _ c.requires.2

pub overflow_add-at : goal.overflow_add-at
overflow_add-at c = omega (arith, (at_push c).0)

pub word_at-requires : goal.word_at-requires
word_at-requires c = omega (arith, (at_push c).0)

pub overflow_add-at-2 : goal.overflow_add-at-2
overflow_add-at-2 c = omega (arith, (named c).0)

pub bounds-code-at-2 : goal.bounds-code-at-2
bounds-code-at-2 c = omega (arith, (named (goal.at.bounds-code-at-2 c).Else-byte-eq80).0)

pub bounds-state-x : goal.bounds-state-x
bounds-state-x c = omega (arith, c.from_byte-x.ensures.0, (named (goal.at.bounds-state-x c).Else-byte-eq80).1)

pub bounds-samples-x : goal.bounds-samples-x
bounds-samples-x c = omega (arith, c.from_byte-x.ensures.0, (named (goal.at.bounds-samples-x c).Else-byte-eq80).2)
