-- `latency_rule::one_in_time` meets its contract. Assumes nothing.
use Prim.Native.Nat.{ℕ, ◌+◌, ◌-◌}
use mathlib.Core.Bool.{Bool}
use mathlib.Core.Path.{◌≡◌, sym, ap, ◌∙◌}
use native.Mathlib.Nat.{sub-zero}
use native.Mathlib.Omega.{arith}
use borrow.Author.Rules.{rules}
use Rattle.model.specs.Rules.Search.{first_below, first_from, is_found}
use Rattle.read_rule.proofs.Searches.{search-none, search-here, search-next}
use Rattle.latency_rule.specs.Back.{in_time_by, run_latency_by}
use Rattle.latency_rule.specs.declared.Route.{Route}
use Rattle.latency_rule.proofs.Hops.{one-run}
use Rattle.latency_rule.proofs.one_in_time.Given as goal

-- Whether run i of the window is within the bound.
abbrev pub kept : ℕ → Route → ℕ → ℕ → Bool
kept bound route from i = in_time_by bound (run_latency_by route (from + i))

abbrev pub invariant-loop-i : goal.invariant-loop-i
invariant-loop-i l =
    first_below l.window (kept l.bound l.route l.from) ≡ first_from l.i (l.window - l.i) (kept l.bound l.route l.from)
