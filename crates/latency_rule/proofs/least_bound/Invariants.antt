-- `latency_rule::least_bound` meets its contract. Assumes nothing.
use Prim.Native.Nat.{◌+◌, ◌-◌, ◌≤◌}
use mathlib.Core.Path.{◌≡◌, sym, ap, subst, ◌∙◌}
use native.Mathlib.Omega.{arith}
use borrow.Author.Rules.{rules}
use Rattle.latency_rule.specs.Back.{Passable, enough_for, LeastBound}
use Rattle.latency_rule.specs.declared.Runs.{Runs}
use Rattle.latency_rule.proofs.Bounds.{bound-none, bound-more}
use Rattle.latency_rule.proofs.Hops.{one-run}
use Rattle.latency_rule.proofs.least_bound.Given as goal

abbrev pub invariant-loop-i : goal.invariant-loop-i
invariant-loop-i l = (l.i ≤ l.runs.count) × LeastBound l.mode l.route l.runs.from l.i l.bound
