-- `image_write::count_runs` meets its contract. Assumes nothing.
use Prim.Native.Nat.{ℕ, ◌+◌, ◌*◌, ◌≤◌, ◌<◌}
use mathlib.Core.Path.{◌≡◌}
use lib.ListN.{length, get_or}
use Rattle.image_write.specs.Lists.{list_by}
use Rattle.image_write.proofs.Listed.{list_from}
use Rattle.image_write.proofs.count_runs.Given as goal

abbrev pub invariant-loop-i : goal.invariant-loop-i
invariant-loop-i l =
    (l.i ≤ l.n) × (length l.counts ≡ 240) × ((c : ℕ) → c < l.h → get_or l.counts c 0 ≤ l.i * 65535) ×
    ((c : ℕ) → c < l.h → get_or l.counts c 0 + length (list_from l.periods l.order l.phases l.n c l.i) ≡ length (list_by l.periods l.order l.phases l.n c))
