-- `board::count_up` meets its contract. Assumes nothing.
use Prim.Native.Nat.{ℕ, ◌+◌, ◌<◌, ◌^◌, min}
use mathlib.Core.Bool.{cond}
use mathlib.Core.Path.{◌≡◌, ◌∙◌}
use native.Mathlib.Decide.{dec_lt}
use native.Mathlib.Omega.{arith}
use borrow.Author.Tests.{lt-ltb, le-ltb}
use lib.Dec.{ltb}
use Rattle.board.specs.Board.{count_up}
use Rattle.board.proofs.count_up.Goals as goal

held : (n : ℕ) → n < 2 ^ 32 → min (n + 1) 4294967295 ≡ cond (ltb n 4294967295) (n + 1) n
held n fits = go (dec_lt n 4294967295)
  where
    go : Dec (n < 4294967295) → min (n + 1) 4294967295 ≡ cond (ltb n 4294967295) (n + 1) n
    go (yes h) = simp (lt-ltb n 4294967295 h) (omega arith)
    go (no h) = simp (le-ltb n 4294967295 (omega arith)) (omega arith)

pub returns : goal.returns
unfolding count_up
returns c = c.saturating_add.ensures ∙ held c.args.n (omega arith)
