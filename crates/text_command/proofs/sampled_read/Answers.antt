-- `text_command::sampled_read` meets its contract. Assumes nothing.
use mathlib.Core.Path.{◌≡◌, sym, ◌∙◌}
use mathlib.Core.Bool.{true, false}
use mathlib.Core.List.{List}
use native.Mathlib.Omega.{arith}
use lib.ListN.{length, get_or}
use Prim.Native.Nat.{ℕ, ◌+◌}
use lib.Dec.{leb}
use borrow.Author.Tests.{le-leb, lt-leb}
use Rattle.model.specs.Rules.Command.{sampled_read, is_factor, is_index}
use borrow.Author.Tests.{not-true, not-false}
use borrow.Author.Rules.{rules}
use Rattle.text_command.specs.Operator.{HasFactor}
use Rattle.text_command.proofs.Shape.{sampled_at}
use Rattle.text_command.proofs.sampled_read.Goals as goal
use Rattle.text_command.proofs.sampled_read.Goals.{After-shared_slice_known-3-1, Else-not-is_index}

pub returns-then-left-in_expression : goal.returns-then-left-in_expression
unfolding sampled_read
returns-then-left-in_expression c =
    let a = c.args in
    let s = a.text.now in
    rw (lt-leb (a.at + 4) (length s) (omega arith))

pub returns-then-not-is_period : goal.returns-then-not-is_period
unfolding sampled_read
returns-then-not-is_period c =
    let a = c.args in
    let s = a.text.now in
    let n : is_factor (get_or s (a.at + 3) 0) ≡ false = sym c.is_period.ensures ∙ c.if-not-is_period.true in
    rw (le-leb (a.at + 4) (length s) (omega arith), n)

pub returns-then-not-is_index : goal.returns-then-not-is_index
unfolding sampled_read
returns-then-not-is_index c =
    let c3 = c in
    let c8 = c in
    let c10 = c in
    let a = c10.args in
    let s = a.text.now in
    let n : is_factor (get_or s (a.at + 3) 0) ≡ true = sym c3.is_period.ensures ∙
    c.if-not-is_period.false in
    let i : is_index (get_or s (a.at + 2) 0) (get_or s (a.at + 3) 0) ≡ false = sym c.is_index.ensures ∙
    c.if-not-is_index.true in
    rw (le-leb (a.at + 4) (length s) (omega arith), n, i)

-- where i and n are as they may be
module _ (c : Else-not-is_index) where
  abbrev c5 : After-shared_slice_known-3-1
  c5 = (goal.at.Else-not-is_index c).After-shared_slice_known-3-1

  abbrev text : List ℕ
  text = c5.args.text.now

  abbrev at : ℕ
  at = c5.args.at

  whole : leb (at + 4) (length text) ≡ true
  whole = le-leb (at + 4) (length text) (omega arith)

  factor : is_factor (get_or text (at + 3) 0) ≡ true
  factor = sym c.is_period.ensures ∙ c.if-not-is_period.false

  index : is_index (get_or text (at + 2) 0) (get_or text (at + 3) 0) ≡ true
  index = sym c.is_index.ensures ∙ c.if-not-is_index.false

  bounded : HasFactor c5.args.least
      c5.args.kind
  bounded = c5.requires.1

pub returns-then-factor-least : goal.returns-then-factor-least
unfolding sampled_read
returns-then-factor-least c =
    let e = c in
    rw (whole (goal.at.returns-then-factor-least e).Else-not-is_index, factor (goal.at.returns-then-factor-least e).Else-not-is_index, index (goal.at.returns-then-factor-least e).Else-not-is_index, bounded (goal.at.returns-then-factor-least e).Else-not-is_index (sampled_at (text (goal.at.returns-then-factor-least e).Else-not-is_index) (at (goal.at.returns-then-factor-least e).Else-not-is_index)) ∙ lt-leb _ _ c.if-factor-least.true)

pub returns : goal.returns
unfolding sampled_read
returns c =
    let e = c in
    let above = bounded (goal.at.returns e).Else-not-is_index (sampled_at (text (goal.at.returns e).Else-not-is_index) (at (goal.at.returns e).Else-not-is_index)) ∙ le-leb _ _ c.if-factor-least.false in
    rw (whole (goal.at.returns e).Else-not-is_index, factor (goal.at.returns e).Else-not-is_index, index (goal.at.returns e).Else-not-is_index, above, c.index_of-index.ensures)
