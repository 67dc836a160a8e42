-- Where the numbers of a place stand in the array. Assumes nothing.
use Prim.Native.Nat.{ℕ, zero, suc, ◌+◌, ◌*◌, ◌<◌}
use mathlib.Core.List.{List}
use mathlib.Core.Path.{◌≡◌, refl, ap}
use native.Mathlib.Omega.{arith}
use lib.IntN.{ℤ}
use lib.ListN.{get_or}
use Rattle.board.specs.Board.{place_at, run_in, run_of}
use Rattle.board.specs.Board.{Place}
use Rattle.board.specs.Record.{loaded_in, due_in, place_from, board_of}

module _ (w : List ℕ) where
  pub place-held : (k : ℕ) → k < 4 →
      place_at (board_of w) k ≡
      place_from (get_or w (4 * k) 0) (get_or w (4 * k + 1) 0) (get_or w (4 * k + 2) 0) (get_or w (4 * k + 3) 0)
  unfolding board_of
  place-held zero lt = refl
  place-held (suc zero) lt = refl
  place-held (suc (suc zero)) lt = refl
  place-held (suc (suc (suc zero))) lt = refl
  place-held (suc (suc (suc (suc k)))) lt = absurd (omega arith)

  -- the run of a place by its numbers
  pub run-held : (images : List ℕ) (state samples : List ℤ) (k : ℕ) → k < 4 →
      run_of (board_of w) images state samples k ≡
      run_in images (get_or w (4 * k + 1) 0) (get_or w (4 * k + 2) 0) state samples k
  unfolding run_of
  run-held images state samples k lt = ap (λ (p : Place). run_in images p.start p.size state samples k) (place-held k lt)

  pub due-held : (k : ℕ) → k < 4 → (place_at (board_of w) k).due ≡ due_in (get_or w (4 * k) 0)
  due-held k lt = ap (λ (p : Place). p.due) (place-held k lt)

  pub loaded-held : (k : ℕ) → k < 4 → (place_at (board_of w) k).loaded ≡ loaded_in (get_or w (4 * k) 0)
  loaded-held k lt = ap (λ (p : Place). p.loaded) (place-held k lt)
