-- `image_valid::greatest_byte` meets its contract. Assumes nothing.
use mathlib.Core.Path.{◌≡◌}
use Prim.Native.Nat.{ℕ, ◌≤◌, ◌<◌}
use lib.Dec.{ltb}
use lib.ListN.{length}
use Rattle.model.specs.Rules.Search.{all_below}
use Rattle.model.specs.Rules.Word.{byte_at}
use Rattle.image_valid.proofs.greatest_byte.Given as goal

abbrev pub invariant-loop-x : goal.invariant-loop-x
invariant-loop-x l = ((n : ℕ) → 0 < n → all_below l.x-index (λ k. ltb (byte_at l.list k) n) ≡ ltb l.most n) × (l.x-index ≤ length l.list)
