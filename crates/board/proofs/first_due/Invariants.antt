-- `board::first_due` meets its contract. Assumes nothing.
use Prim.Native.Nat.{ℕ, ◌≤◌, ◌<◌}
use mathlib.Core.Bool.{false}
use mathlib.Core.Path.{◌≡◌}
use Rattle.board.specs.Board.{place_at}
use Rattle.board.specs.Record.{board_of}
use Rattle.board.proofs.first_due.Given as goal

abbrev pub invariant-loop-place : goal.invariant-loop-place
invariant-loop-place l = (m : ℕ) → l.from ≤ m → m < l.place → (place_at (board_of l.words) m).due ≡ false
