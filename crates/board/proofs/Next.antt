-- The next due place by two searches: those after the place last taken, then all. Assumes nothing.
use Rattle.std.specs.Prelude.{Option, Some, None}
use Prim.Native.Nat.{ℕ, ◌+◌, ◌-◌, ◌%◌, ◌<◌}
use mathlib.Core.Bool.{Bool, false}
use mathlib.Core.Path.{◌≡◌, sym, ap, ◌∙◌}
use native.Mathlib.Decide.{dec_lt}
use native.Mathlib.Omega.{arith}
use Rattle.model.proofs.Pairs.Decide.{IsFirst, from_first}
use Rattle.board.specs.Board.{place_at, place_after, due_after, next_due}
use Rattle.board.specs.Board.{Board}
use Rattle.board.proofs.Due.{true≢false, next-at, next-none}
use Rattle.board.specs.Record.{first_due}

module _ (b : Board) where
  abbrev due_at : ℕ → Bool
  due_at k = (place_at b k).due

  abbrev after : ℕ
  after = b.last % 4 + 1

  found : (from : ℕ) (f : Option ℕ) → first_due b from ≡ f → IsFirst from (4 - from) due_at f
  found from f e = rw e at (from_first from (4 - from) due_at)

  -- one after the place last taken
  pub next-after : (k : ℕ) → first_due b after ≡ Some k → next_due b ≡ Some k
  next-after k e =
      let h = found after (Some k) e in
      let i = k - after in
      let here : place_after b i ≡ k = omega (arith, h.0, h.1) in
      next-at b i (omega (arith, h.0, h.1)) (ap due_at here ∙ h.2)
      (λ m lt. h.3 (place_after b m) (omega (arith, h.0, h.1)) (omega (arith, h.0, h.1))) ∙ ap Some here

  -- as none of these is due, one up to it
  pub next-again : (k : ℕ) → first_due b after ≡ None → first_due b 0 ≡ Some k → next_due b ≡ Some k
  next-again k none e =
      let here : place_after b ahead ≡ k = omega (arith, low (dec_lt k after), h.1) in
      next-at b ahead (omega (arith, low (dec_lt k after), h.1)) (ap due_at here ∙ h.2)
      (λ m lt. between m lt (dec_lt (place_after b m) after)) ∙ ap Some here
    where
      n : IsFirst after (4 - after) due_at None
      n = found after None none

      h : IsFirst 0 4 due_at (Some k)
      h = found 0 (Some k) e

      ahead : ℕ
      ahead = k + 4 - after

      low : Dec (k < after) → k < after
      low (yes l) = l
      low (no g) = absurd (true≢false (sym h.2 ∙ n k (omega arith) (omega (arith, h.1))))

      between : (m : ℕ) → m < ahead → Dec (place_after b m < after) → due_after b m ≡ false
      between m lt (yes l) = h.3 (place_after b m) (omega arith) (omega (arith, low (dec_lt k after), h.1))
      between m lt (no g) = n (place_after b m) (omega arith) (omega arith)

  pub next-nowhere : first_due b 0 ≡ None → next_due b ≡ None
  next-nowhere e = next-none b (λ m lt. found 0 None e (place_after b m) (omega arith) (omega arith))
