-- `latency_rule::all_in_time` meets its contract. Assumes nothing.
use Prim.Native.Nat.{ℕ, ◌+◌, ◌-◌, ◌≤◌}
use mathlib.Core.Bool.{Bool, true, not}
use mathlib.Core.Path.{◌≡◌, refl, sym, ap, subst, ◌∙◌}
use native.Mathlib.Omega.{arith}
use borrow.Author.Rules.{rules}
use Rattle.model.specs.Rules.Search.{all_below}
use Rattle.model.proofs.Pairs.Decide.{all_more, all-fails}
use Rattle.latency_rule.specs.Back.{late_by, run_latency_by}
use Rattle.latency_rule.specs.declared.Route.{Route}
use Rattle.latency_rule.proofs.Hops.{one-run}
use Rattle.latency_rule.proofs.all_in_time.Given as goal

-- Whether run i of the window is within the bound.
abbrev pub kept : ℕ → Route → ℕ → ℕ → Bool
kept bound route from i = not (late_by bound (run_latency_by route (from + i)))

abbrev pub invariant-loop-i : goal.invariant-loop-i
invariant-loop-i l = (l.i ≤ l.window) × (all_below l.i (kept l.bound l.route l.from) ≡ true)
