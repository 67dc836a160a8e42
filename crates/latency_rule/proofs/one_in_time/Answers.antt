-- `latency_rule::one_in_time` meets its contract. Assumes nothing.
use Prim.Native.Nat.{ℕ, ◌+◌, ◌-◌}
use mathlib.Core.Bool.{Bool}
use mathlib.Core.Path.{◌≡◌, sym, ap, ◌∙◌}
use native.Mathlib.Nat.{sub-zero}
use native.Mathlib.Omega.{arith}
use borrow.Author.Rules.{rules}
use Rattle.model.specs.Rules.Search.{first_below, first_from, is_found}
use Rattle.read_rule.proofs.Searches.{search-none, search-here, search-next}
use Rattle.latency_rule.specs.Back.{in_time_by, run_latency_by}
use Rattle.latency_rule.specs.declared.Route.{Route}
use Rattle.latency_rule.proofs.Hops.{one-run}
use Rattle.latency_rule.proofs.one_in_time.Invariants.{kept}
use Rattle.latency_rule.proofs.one_in_time.Goals as goal
use Rattle.latency_rule.proofs.one_in_time.Goals.{After-is_in_time, In-loop-i, Start}

module _ (c : In-loop-i) where
  abbrev i : ℕ
  i = c.loop-i.i

  abbrev start : Start
  start = (goal.at.In-loop-i c).Start

  abbrev test : ℕ → Bool
  test = kept start.args.bound start.args.route start.args.from

pub loop-i-init : goal.loop-i-init
unfolding first_below
loop-i-init c = rw sub-zero

pub run_latency-latency-requires : goal.run_latency-latency-requires
run_latency-latency-requires c = one-run (start c).requires _ c.loop-i-test.true

-- What the test of a run has answered.
tested : (c : After-is_in_time) → test (goal.at.After-is_in_time c).In-loop-i (i (goal.at.After-is_in_time c).In-loop-i) ≡ c.is_in_time.result
tested c = ap (in_time_by _) (sym c.run_latency-latency.ensures) ∙ sym c.is_in_time.ensures

pub returns-then-is_in_time : goal.returns-then-is_in_time
returns-then-is_in_time c =
    let l = c in
    sym (ap is_found (l.loop-i.invariant ∙
    search-here (test (goal.at.returns-then-is_in_time l).In-loop-i) (i (goal.at.returns-then-is_in_time l).In-loop-i) _ l.loop-i-test.true (tested (goal.at.returns-then-is_in_time c).After-is_in_time ∙ c.if-is_in_time.true)))

pub loop-i-preserved : goal.loop-i-preserved
loop-i-preserved c =
    let l = c in
    l.loop-i.invariant ∙ search-next (test (goal.at.loop-i-preserved l).In-loop-i) (i (goal.at.loop-i-preserved l).In-loop-i) _ l.loop-i-test.true (tested (goal.at.loop-i-preserved c).After-is_in_time ∙ c.if-is_in_time.false)

pub returns : goal.returns
returns c =
    let l = c.loop-i in
    let a = c.args in
    sym (ap is_found (l.invariant ∙ search-none (kept a.bound a.route a.from) l.i a.window c.loop-i-test.false))

pub overflow_add-from : goal.overflow_add-from
overflow_add-from c = omega (arith, (start c).requires.within)
