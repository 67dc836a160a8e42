-- `board::first_due` meets its contract. Assumes nothing.
use Rattle.std.specs.Prelude.{Some, None}
use Prim.Native.Nat.{ℕ, ◌+◌, ◌-◌, ◌≤◌, ◌<◌}
use mathlib.Core.Bool.{true, false}
use mathlib.Core.Path.{◌≡◌, sym, ◌∙◌}
use native.Mathlib.Decide.{dec_lt}
use native.Mathlib.Omega.{arith}
use Rattle.board.specs.Board.{place_at}
use Rattle.board.specs.Board.{Board}
use Rattle.board.specs.Record.{board_of}
use Rattle.model.proofs.Pairs.Decide.{first-is}
use Rattle.board.proofs.Places.{due-held}
use Rattle.board.proofs.first_due.Goals as goal
use Rattle.board.proofs.first_due.Goals.{then-from-place+else-is_due, else-from-place}

-- one place more that is not due
one_more : (b : Board) (from i : ℕ) → ((m : ℕ) → from ≤ m → m < i → (place_at b m).due ≡ false) →
    (from ≤ i → (place_at b i).due ≡ false) → (m : ℕ) → from ≤ m → m < i + 1 → (place_at b m).due ≡ false
one_more b from i h e m low high = split (dec_lt m i)
  where
    split : Dec (m < i) → (place_at b m).due ≡ false
    split (yes g) = h m low g
    split (no g) = let q : m ≡ i = omega arith in rw q (e (omega arith))

pub returns-then-is_due : goal.returns-then-is_due
returns-then-is_due c =
    let a = c.args in
    let b = board_of a.words.now in
    let due : (place_at b c.loop-place.place).due ≡ true =
    due-held a.words.now c.loop-place.place c.loop-place-test.true ∙ sym c.is_due.ensures ∙ c.if-is_due.true in
    first-is a.from (4 - a.from) (λ k. (place_at b k).due) (Some c.loop-place.place)
    (c.if-from-place.true, omega arith, due, c.loop-place.invariant)

pub loop-place-preserved : goal.loop-place-preserved
loop-place-preserved c =
    let w = c.args.words.now in
    one_more (board_of w) c.args.from c.loop-place.place c.loop-place.invariant
    (λ low. elim c.if-from-place.branch [
      | then-from-place+else-is_due e ↦ due-held w c.loop-place.place c.loop-place-test.true ∙ sym e.is_due.ensures ∙
          e.if-is_due.false
      | else-from-place e ↦ absurd (omega (arith, e.if-from-place.false))
    ])

pub returns : goal.returns
returns c =
    let a = c.args in
    first-is a.from (4 - a.from) (λ k. (place_at (board_of a.words.now) k).due) None
    (λ m low high. c.loop-place.invariant m low (omega arith))

pub loop-place-init : goal.loop-place-init
loop-place-init c = λ m low high. absurd (omega arith)
