-- `latency_rule::go_back` meets its contract. Assumes nothing.
use Prim.Native.Nat.{ℕ, ◌-◌, ◌≤◌, ◌<◌}
use mathlib.Core.List.{List}
use mathlib.Core.Path.{◌≡◌, refl, sym, ◌∙◌}
use native.Mathlib.Omega.{arith}
use Rattle.model.specs.Rules.Latency.{onward}
use Rattle.latency_rule.specs.Back.{back_by, Small}
use Rattle.latency_rule.specs.declared.Hop.{Hop}
use Rattle.latency_rule.proofs.Hops.{back_at, small_at, back_end, small-start, small-run, onward-at, small-onward}
use Rattle.latency_rule.proofs.go_back.Goals as goal
use Rattle.latency_rule.proofs.go_back.Goals.{After-entry_of-entry, In-loop-i, Start}

module _ (c : In-loop-i) where
  abbrev left : ℕ
  left = c.loop-i.i

  abbrev element : ℕ
  element = c.loop-i.element

  abbrev start : Start
  start = (goal.at.In-loop-i c).Start

  abbrev hops : List Hop
  hops = start.args.route.hops

within : (c : In-loop-i) → left c - 1 < 15
within c = omega (arith, c.loop-i-test.true, c.loop-i.invariant.0, (start c).requires.few)

pub entry_of-entry-requires : goal.entry_of-entry-requires
entry_of-entry-requires c =
    let l = c in
    let inv = l.loop-i.invariant in
    (small-start _ _ _ inv.1, (start (goal.at.entry_of-entry-requires l).In-loop-i).requires.sound (left (goal.at.entry_of-entry-requires l).In-loop-i - 1) (omega (arith, l.loop-i-test.true, inv.0)))

-- One hop more.
hop-back : (c : After-entry_of-entry) → let l = c.before.before in
    back_by (hops l) (left l) (element l) ≡ onward (λ m. back_by (hops l) (left l - 1) m) c.entry_of-entry.result
hop-back c = let l = c in back_at (hops (goal.at.After-entry_of-entry l).In-loop-i) (left (goal.at.After-entry_of-entry l).In-loop-i) (element (goal.at.After-entry_of-entry l).In-loop-i) _ l.loop-i-test.true c.entry_of-entry.ensures

pub returns-then-entry-eq0 : goal.returns-then-entry-eq0
returns-then-entry-eq0 c = let l = c in
    (sym (l.loop-i.invariant.2 ∙ rw c.if-entry-eq0.true at (hop-back (goal.at.returns-then-entry-eq0 c).After-entry_of-entry)), tt)

pub loop-i-preserved : goal.loop-i-preserved
loop-i-preserved c =
    let l = c in
    let inv = l.loop-i.invariant in
    let e = c.entry_of-entry.result in (
      omega (arith, inv.0),
      small-onward (λ m. Small (hops (goal.at.loop-i-preserved l).In-loop-i) (left (goal.at.loop-i-preserved l).In-loop-i - 1) m) e c.if-entry-eq0.false
          (small_at (hops (goal.at.loop-i-preserved l).In-loop-i) (left (goal.at.loop-i-preserved l).In-loop-i) (element (goal.at.loop-i-preserved l).In-loop-i) e l.loop-i-test.true c.entry_of-entry.ensures inv.1),
      inv.2 ∙ hop-back (goal.at.loop-i-preserved c).After-entry_of-entry ∙ onward-at (λ m. back_by (hops (goal.at.loop-i-preserved l).In-loop-i) (left (goal.at.loop-i-preserved l).In-loop-i - 1) m) e c.if-entry-eq0.false,
    )

pub returns : goal.returns
returns c =
    let l = c.loop-i in
    let hops = c.args.route.hops in (
      sym (l.invariant.2 ∙ back_end hops l.i l.element (omega (arith, c.loop-i-test.false))),
      small-start hops l.i l.element l.invariant.1,
    )
