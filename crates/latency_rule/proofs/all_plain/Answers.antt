-- `latency_rule::all_plain` meets its contract. Assumes nothing.
use Prim.Native.Nat.{ℕ, ◌-◌, ◌≤◌}
use mathlib.Core.Bool.{Bool, true}
use mathlib.Core.Path.{◌≡◌, refl, sym, subst, ◌∙◌}
use native.Mathlib.Omega.{arith}
use borrow.Author.Rules.{rules}
use borrow.Author.Tests.{not-true, not-false}
use lib.ListN.{get_or}
use Rattle.model.specs.Rules.Search.{all_below}
use Rattle.model.proofs.Pairs.Decide.{all_more, all-fails}
use Rattle.latency_rule.specs.Back.{no_hop, all_plain}
use Rattle.read_rule.specs.Lines.{is_plain}
use Rattle.latency_rule.proofs.all_plain.Goals as goal
use Rattle.latency_rule.proofs.all_plain.Goals.{In-loop-i, Start}

module _ (c : In-loop-i) where
  abbrev i : ℕ
  i = c.loop-i.i

  abbrev start : Start
  start = (goal.at.In-loop-i c).Start

  abbrev plain : ℕ → Bool
  plain j = is_plain (get_or start.args.route.hops j no_hop).kind

pub loop-i-init : goal.loop-i-init
unfolding all_below
loop-i-init c = (omega arith, refl)

pub returns-then-not-is_plain : goal.returns-then-not-is_plain
returns-then-not-is_plain c =
    let l = c in
    sym (all-fails _ (plain (goal.at.returns-then-not-is_plain l).In-loop-i) (i (goal.at.returns-then-not-is_plain l).In-loop-i) l.loop-i-test.true
    (sym c.is_plain.ensures ∙ c.if-not-is_plain.true))

pub loop-i-preserved : goal.loop-i-preserved
loop-i-preserved c =
    let l = c in (
      omega (arith, l.loop-i-test.true),
      all_more (i (goal.at.loop-i-preserved l).In-loop-i) (plain (goal.at.loop-i-preserved l).In-loop-i) l.loop-i.invariant.1
          (sym c.is_plain.ensures ∙ c.if-not-is_plain.false),
    )

pub returns : goal.returns
returns c =
    let l = c in
    sym (subst (λ n. all_plain l.args.route.hops n ≡ true) (omega (arith, c.loop-i-test.false, l.loop-i.invariant.0))
    l.loop-i.invariant.1)

pub offset_bounds-hops-i : goal.offset_bounds-hops-i
offset_bounds-hops-i c = omega (arith, c.loop-i-test.true, (start c).requires)

pub bounds-hops-i : goal.bounds-hops-i
bounds-hops-i c = omega (arith, c.loop-i-test.true, (start c).requires)
