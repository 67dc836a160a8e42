-- `text_command::row_at` meets its contract. Assumes nothing.
use mathlib.Core.Bool.{Bool, true, false, not}
use mathlib.Core.Path.{◌≡◌}
use borrow.Author.Rules.{rules, sfits_of}
use borrow.Author.Tests.{le-leb, lt-leb}
use native.Mathlib.Omega.{arith}
use lib.IntN.{ℤ}
use lib.ListN.{length}
use lib.Signed.{le_z, lt_z}
use mir.Syntax.{w32}
use mir.Val.{to_z, of_z, SFits}
use Prim.Native.Nat.{◌+◌}
use Rattle.model.specs.Rules.Command.{declaration_of}
use Rattle.model.proofs.Basics.Order.{below-not, below_fails}
use Rattle.word.proofs.Locals.{kept, test}
use Rattle.text_command.proofs.row_at.Goals as goal

-- Low and high, by the test on their bits.
order : {l h : ℤ} (a b : ℤ) (t : Bool) → a ≡ l → b ≡ h → SFits w32 a → SFits w32 b →
    lt_z (to_z w32 (of_z w32 b)) (to_z w32 (of_z w32 a)) ≡ t → le_z l h ≡ not t
order a b true e g f k t = rw (← e, ← g) (below-not b a (test {a = b} {b = a} k f t))
order a b false e g f k t = rw (← e, ← g) (below_fails b a (test {a = b} {b = a} k f t))

pub returns-then-left-lt9 : goal.returns-then-left-lt9
unfolding declaration_of
returns-then-left-lt9 c =
    let a = c.args in
    rw (lt-leb (a.at + 9) (length a.text.now) (omega arith))

pub returns-then-high-low : goal.returns-then-high-low
unfolding declaration_of
returns-then-high-low c =
    let high = c in
    let low = c in
    let a = low.args in
    let s = a.text.now in
    let h =
    order low.word_at-low.result high.word_at-high.result true low.word_at-low.ensures high.word_at-high.ensures
    (sfits_of {w = w32} low.word_at-low.type_inv) (sfits_of {w = w32} high.word_at-high.type_inv) c.if-high-low.true in
    rw (le-leb (a.at + 9) (length s) (omega arith), h)

pub returns-then-left-in_program : goal.returns-then-left-in_program
unfolding declaration_of
returns-then-left-in_program c =
    let e = c in
    let high = c in
    let low = c in
    let a = low.args in
    let s = a.text.now in
    let h =
    order low.word_at-low.result high.word_at-high.result false low.word_at-low.ensures high.word_at-high.ensures
    (sfits_of {w = w32} low.word_at-low.type_inv) (sfits_of {w = w32} high.word_at-high.type_inv) e.if-high-low.false in
    rw (le-leb (a.at + 9) (length s) (omega arith), h, lt-leb (a.at + 13) (length s) (omega arith))

pub returns : goal.returns
unfolding declaration_of
returns c =
    let e = c in
    let high = c in
    let low = c in
    let a = low.args in
    let s = a.text.now in
    let h =
    order low.word_at-low.result high.word_at-high.result false low.word_at-low.ensures high.word_at-high.ensures
    (sfits_of {w = w32} low.word_at-low.type_inv) (sfits_of {w = w32} high.word_at-high.type_inv) e.if-high-low.false in
    rw (
      le-leb (a.at + 9) (length s) (omega arith),
      h,
      le-leb (a.at + 13) (length s) (omega arith),
      kept low.word_at-low.result low.word_at-low.type_inv,
      kept high.word_at-high.result high.word_at-high.type_inv,
      kept c.word_at-result.result c.word_at-result.type_inv,
      low.word_at-low.ensures,
      high.word_at-high.ensures,
      c.word_at-result.ensures,
    )
