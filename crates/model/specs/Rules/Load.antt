-- Load (15): the weight of the signals run in a cycle.
use Rattle.std.specs.Prelude.{Option, Some, None, ℕ, Bool, false, cond, ltb}
use Rattle.model.specs.Rules.Outcome.{Outcome, accepted, refuse}
use Rattle.model.specs.Rules.Program.{Program, Limit, unlimited, limit, count, signal_at, weight_of}
use Rattle.model.specs.Rules.Reads.{rate_of, due}
use Rattle.model.specs.Rules.Schedule.{Schedule}
use Rattle.model.specs.Rules.Search.{first_below, sum, table}

-- The summed weight of the signals run in cycle c.
unfoldable pub load : Program → Schedule → ℕ → ℕ
load p s c = sum (table (count p) (λ x. cond (due (rate_of p s x) c) (weight_of (signal_at p x).body) 0))

abbrev pub is_over : Limit → ℕ → Bool
is_over unlimited n = false
is_over (limit m) n = ltb m n

abbrev pub loaded_of : Option ℕ → Outcome (Unit {0})
loaded_of (Some c) = refuse 15 c
loaded_of None = accepted tt

-- 15 at the lowest cycle of the hypercycle h whose load is over CAP.
unfoldable pub loaded : Program → Schedule → ℕ → Outcome (Unit {0})
loaded p s h = loaded_of (first_below h (λ c. is_over p.cap (load p s c)))
