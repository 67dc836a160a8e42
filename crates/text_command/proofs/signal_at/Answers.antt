-- `text_command::signal_at` meets its contract. Assumes nothing.
use Prim.Native.Nat.{ℕ, ◌+◌, ◌≤◌, ◌<◌}
use mathlib.Core.Bool.{true, false, cond}
use mathlib.Core.List.{List}
use mathlib.Core.Logic.{◌⊎◌, inl, inr}
use mathlib.Core.Path.{◌≡◌, sym, ◌∙◌}
use native.Mathlib.Omega.{arith}
use borrow.Author.Tests.{le-leb, lt-leb, eq-eqb, ne_eqb, not-true, not-false}
use lib.Dec.{eqb}
use lib.ListN.{length, get_or}
use Rattle.model.specs.Rules.Command.{first_judged, declaration_of, is_period}
use Rattle.model.specs.Rules.Width.{in_program}
use Rattle.model.specs.Rules.Word.{byte_at, two_at, word_at}
use Rattle.model.specs.declared.Declaration.{Declaration}
use Rattle.model.specs.declared.Declaration.TheVariants as Declaration
use Rattle.word.proofs.Locals.{kept}
use borrow.Author.Rules.{rules}
use Rattle.text_command.proofs.signal_at.Goals as goal
use Rattle.text_command.proofs.signal_at.Goals.{After-in_program, Else-left-in_program, Start}

abbrev IsSignal : ℕ → Type 0
IsSignal b = (b ≡ 0x10) ⊎ (b ≡ 0x11)

-- The declaration of either byte, once its bytes are there and its period is in its range.
abbrev standing : List ℕ → ℕ → ℕ → Declaration
standing text at b =
    cond (eqb b 0x10) (Declaration.Input (byte_at text (at + 1)) (word_at text (at + 2)))
    (Declaration.Equation (byte_at text (at + 1)) (word_at text (at + 2)) (two_at text (at + 6)))

module _ (text : List ℕ) (at b : ℕ) (is : IsSignal b) where
  as-signal : declaration_of b text at ≡
      first_judged text at 2 (in_program b) (is_period (byte_at text (at + 1))) (standing text at b)
  unfolding declaration_of
  as-signal = go is
    where
      go : IsSignal b →
          declaration_of b text at ≡
          first_judged text at 2 (in_program b) (is_period (byte_at text (at + 1))) (standing text at b)
      go (inl e) = rw e
      go (inr e) = rw e

  ends-first : length text < at + 2 → Declaration.EndsEarly ≡ declaration_of b text at
  ends-first lt = sym (as-signal ∙ rw (lt-leb (at + 2) (length text) lt))

  outside : at + 2 ≤ length text → is_period (byte_at text (at + 1)) ≡ false → Declaration.OutOfRange ≡ declaration_of b text at
  outside le e = sym (as-signal ∙ rw (le-leb (at + 2) (length text) le, e))

  module _ (le : at + 2 ≤ length text) (e : is_period (byte_at text (at + 1)) ≡ true) where
    ends : length text < at + in_program b → Declaration.EndsEarly ≡ declaration_of b text at
    ends lt = sym (as-signal ∙ rw (le-leb (at + 2) (length text) le, e, lt-leb (at + in_program b) (length text) lt))

    stands : at + in_program b ≤ length text → standing text at b ≡ declaration_of b text at
    stands all = sym (as-signal ∙ rw (le-leb (at + 2) (length text) le, e, le-leb (at + in_program b) (length text) all))

-- How far either reaches: past the initial word, and EQ past its weight.
reaches : (b : ℕ) → IsSignal b → 6 ≤ in_program b
reaches b (inl e) = rw e (omega arith)
reaches b (inr e) = rw e (omega arith)

weighs : (b : ℕ) → IsSignal b → (b ≡ 0x10 → ⊥) → 8 ≤ in_program b
weighs b (inl e) n = absurd (n e)
weighs b (inr e) n = rw e (omega arith)

pub returns-then-left-lt2 : goal.returns-then-left-lt2
returns-then-left-lt2 c = let s = c in ends-first s.args.text.now s.args.at _ s.requires.1 (omega arith)

pub returns-then-not-is_period : goal.returns-then-not-is_period
returns-then-not-is_period c =
    let s = c in
    outside s.args.text.now s.args.at _ s.requires.1 (omega arith)
    (sym c.is_period.ensures ∙ c.if-not-is_period.true)

-- what has been judged where the period is in its range
module _ (c : After-in_program) where
  abbrev start : Start
  start = (goal.at.After-in_program c).Start

  abbrev text : List ℕ
  text = start.args.text.now

  abbrev at : ℕ
  at = start.args.at

  two : at + 2 ≤ length text
  two = omega arith

  ranged : is_period (get_or text (at + 1) 0) ≡ true
  ranged = sym c.is_period.ensures ∙ c.if-not-is_period.false

pub returns-then-left-in_program : goal.returns-then-left-in_program
returns-then-left-in_program c =
    let w = c in
    ends (text (goal.at.returns-then-left-in_program w).After-in_program) (at (goal.at.returns-then-left-in_program w).After-in_program) _ (start (goal.at.returns-then-left-in_program w).After-in_program).requires.1 (two (goal.at.returns-then-left-in_program w).After-in_program) (ranged (goal.at.returns-then-left-in_program w).After-in_program) (omega (arith, w.in_program.ensures))

-- and where all its bytes are there
whole : (c : Else-left-in_program) → let w = c in standing (text (goal.at.Else-left-in_program w).After-in_program) (at (goal.at.Else-left-in_program w).After-in_program) (start (goal.at.Else-left-in_program w).After-in_program).args.byte ≡
    declaration_of (start (goal.at.Else-left-in_program w).After-in_program).args.byte (text (goal.at.Else-left-in_program w).After-in_program) (at (goal.at.Else-left-in_program w).After-in_program)
whole c =
    let w = c in
    stands (text (goal.at.Else-left-in_program w).After-in_program) (at (goal.at.Else-left-in_program w).After-in_program) _ (start (goal.at.Else-left-in_program w).After-in_program).requires.1 (two (goal.at.Else-left-in_program w).After-in_program) (ranged (goal.at.Else-left-in_program w).After-in_program) (omega (arith, w.in_program.ensures))

pub word_at-initial-requires : goal.word_at-initial-requires
word_at-initial-requires c = let w = c in omega (arith, w.in_program.ensures, reaches _ (start (goal.at.word_at-initial-requires w).After-in_program).requires.1)

pub returns-then-byte-eq16 : goal.returns-then-byte-eq16
returns-then-byte-eq16 c =
    let e = c in
    let w = c in
    rw (kept _ c.word_at-initial.type_inv, c.word_at-initial.ensures)
    (rw (eq-eqb (start (goal.at.returns-then-byte-eq16 w).After-in_program).args.byte 0x10 c.if-byte-eq16.true) at (whole (goal.at.returns-then-byte-eq16 e).Else-left-in_program))

pub two_at-weight-requires : goal.two_at-weight-requires
two_at-weight-requires c =
    let w = c in
    omega (arith, w.in_program.ensures, weighs _ (start (goal.at.two_at-weight-requires w).After-in_program).requires.1 c.if-byte-eq16.false)

pub returns : goal.returns
returns c =
    let t = c in
    let e = c in
    let w = c in
    rw (kept _ t.word_at-initial.type_inv, t.word_at-initial.ensures, c.two_at-weight.ensures)
    (rw (ne_eqb (start (goal.at.returns w).After-in_program).args.byte 0x10 t.if-byte-eq16.false) at (whole (goal.at.returns e).Else-left-in_program))
