-- `latency_rule::all_in_time` meets its contract. Assumes nothing.
use Prim.Native.Nat.{ℕ, ◌+◌, ◌-◌, ◌≤◌}
use mathlib.Core.Bool.{Bool, true, not}
use mathlib.Core.Path.{◌≡◌, refl, sym, ap, subst, ◌∙◌}
use native.Mathlib.Omega.{arith}
use borrow.Author.Rules.{rules}
use Rattle.model.specs.Rules.Search.{all_below}
use Rattle.model.proofs.Pairs.Decide.{all_more, all-fails}
use Rattle.latency_rule.specs.Back.{late_by, run_latency_by}
use Rattle.latency_rule.specs.declared.Route.{Route}
use Rattle.latency_rule.proofs.Hops.{one-run}
use Rattle.latency_rule.proofs.all_in_time.Invariants.{kept}
use Rattle.latency_rule.proofs.all_in_time.Goals as goal
use Rattle.latency_rule.proofs.all_in_time.Goals.{After-is_late, In-loop-i, Start}

module _ (c : In-loop-i) where
  abbrev i : ℕ
  i = c.loop-i.i

  abbrev start : Start
  start = (goal.at.In-loop-i c).Start

  abbrev test : ℕ → Bool
  test = kept start.args.bound start.args.route start.args.from

pub loop-i-init : goal.loop-i-init
unfolding all_below
loop-i-init c = (omega arith, refl)

pub run_latency-latency-requires : goal.run_latency-latency-requires
run_latency-latency-requires c = one-run (start c).requires _ c.loop-i-test.true

-- What the test of a run has answered.
tested : (c : After-is_late) → test (goal.at.After-is_late c).In-loop-i (i (goal.at.After-is_late c).In-loop-i) ≡ not c.is_late.result
tested c = ap not (ap (late_by _) (sym c.run_latency-latency.ensures) ∙ sym c.is_late.ensures)

pub returns-then-is_late : goal.returns-then-is_late
returns-then-is_late c =
    let l = c in
    sym (all-fails _ (test (goal.at.returns-then-is_late l).In-loop-i) (i (goal.at.returns-then-is_late l).In-loop-i) l.loop-i-test.true (tested (goal.at.returns-then-is_late c).After-is_late ∙ ap not c.if-is_late.true))

pub loop-i-preserved : goal.loop-i-preserved
loop-i-preserved c =
    let l = c in
    (omega arith, all_more (i (goal.at.loop-i-preserved l).In-loop-i) (test (goal.at.loop-i-preserved l).In-loop-i) l.loop-i.invariant.1 (tested (goal.at.loop-i-preserved c).After-is_late ∙ ap not c.if-is_late.false))

pub returns : goal.returns
returns c =
    let l = c.loop-i in
    let a = c.args in
    let e : l.i ≡ a.window = omega (arith, l.invariant.0) in
    sym (subst (λ n. all_below n (kept a.bound a.route a.from) ≡ true) e l.invariant.1)

pub overflow_add-from : goal.overflow_add-from
overflow_add-from c = omega (arith, (start c).requires.within)
