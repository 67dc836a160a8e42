-- Sums by cycle, raised in the cycles in which a signal runs.
use Rattle.std.specs.Prelude.{ℕ, ◌+◌, ◌≤◌, ◌<◌, cond, List, ◌≡◌, length, get_or}
use Rattle.model.specs.Rules.Reads.{Rate, due}

-- Of a table of sums, `old`, the table `new` has a signal's weight added in the cycles below h in which it is due. A weight has 2
-- bytes.
pub record Raised (a : Rate) (weight h : ℕ) (old new : List ℕ) : Type 0 where
  pub long : length new ≡ 240
  pub raised : (c : ℕ) → c < h → get_or new c 0 ≡ get_or old c 0 + cond (due a c) weight 0
  pub bounded : (c : ℕ) → c < h → get_or new c 0 ≤ get_or old c 0 + 65535
  pub beyond : (c : ℕ) → h ≤ c → get_or new c 0 ≡ get_or old c 0
