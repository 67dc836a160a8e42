-- `latency_rule::least_bound` meets its contract. Assumes nothing.
use Prim.Native.Nat.{◌+◌, ◌-◌, ◌≤◌}
use mathlib.Core.Path.{◌≡◌, sym, ap, subst, ◌∙◌}
use native.Mathlib.Omega.{arith}
use borrow.Author.Rules.{rules}
use Rattle.latency_rule.specs.Back.{Passable, enough_for, LeastBound}
use Rattle.latency_rule.specs.declared.Runs.{Runs}
use Rattle.latency_rule.proofs.Bounds.{bound-none, bound-more}
use Rattle.latency_rule.proofs.Hops.{one-run}
use Rattle.latency_rule.proofs.least_bound.Goals as goal
use Rattle.latency_rule.proofs.least_bound.Goals.{After-deciding_runs-runs, In-loop-i}

pub loop-i-init : goal.loop-i-init
loop-i-init c =
    let a = c.args in
    let from = c.deciding_runs-runs.result.from in (
      omega arith,
      subst (λ m. LeastBound a.mode a.route from 0 m) (sym c.enough_for_none-bound.ensures)
          (bound-none a.route from a.mode),
    )

module _ (c : In-loop-i) where
  abbrev decided : After-deciding_runs-runs
  decided = (goal.at.In-loop-i c).After-deciding_runs-runs

  abbrev runs : Runs
  runs = decided.deciding_runs-runs.result

  passable : Passable decided.args.route runs.from runs.count
  passable = decided.deciding_runs-runs.ensures.passable

pub overflow_add-runs : goal.overflow_add-runs
overflow_add-runs c = omega (arith, c.loop-i-test.true, (passable (goal.at.overflow_add-runs c).In-loop-i).within)

pub loop-i-preserved : goal.loop-i-preserved
loop-i-preserved c =
    let t = c in
    let l = t.loop-i in
    let a = (decided (goal.at.loop-i-preserved t).In-loop-i).args in
    let from = (runs (goal.at.loop-i-preserved t).In-loop-i).from in (
      omega (arith, t.loop-i-test.true),
      subst (λ m. LeastBound a.mode a.route from (l.i + 1) m)
          (sym (c.enough_for-bound.ensures ∙ ap (enough_for a.mode l.bound) c.run_latency-latency.ensures))
          (bound-more a.route from a.mode l.i l.bound l.invariant.1),
    )

pub returns : goal.returns
returns c =
    let l = c.loop-i in
    let d = c in
    let e : l.i ≡ d.deciding_runs-runs.result.count = omega (arith, c.loop-i-test.false, l.invariant.0) in
    λ b lt. sym (d.deciding_runs-runs.ensures.alike d.args.mode b) ∙ ((rw e at l.invariant.1) b lt)

pub run_latency-latency-requires : goal.run_latency-latency-requires
run_latency-latency-requires c = one-run (passable (goal.at.run_latency-latency-requires c).In-loop-i) _ c.loop-i-test.true
