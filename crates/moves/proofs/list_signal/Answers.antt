-- `moves::list_signal` meets its contract. Assumes nothing.
use Prim.Native.Nat.{ℕ, ◌+◌, ◌-◌, ◌≤◌, ◌<◌}
use mathlib.Core.Bool.{Bool, true}
use mathlib.Core.List.{List, ◌++◌}
use mathlib.Core.Logic.{◌↔◌}
use mathlib.Core.Path.{◌≡◌, refl, ◌∙◌}
use native.Mathlib.Omega.{arith}
use borrow.Author.Rules.{rules}
use lib.ListN.{length}
use Rattle.model.specs.Says.Feasible.{Between}
use Rattle.model.specs.Rules.Moves.{Entry}
use Rattle.moves.specs.Listing.{FitsAt, passing, Written}
use Rattle.moves.proofs.Entries.{below, wrote_none, wrote-all, wrote-next, one-most, one-length}
use Rattle.moves.proofs.list_signal.Invariants.{Upto}
use Rattle.moves.proofs.list_signal.Goals as goal
use Rattle.moves.proofs.list_signal.Goals.{In-loop-phase}

pub loop-phase-init : goal.loop-phase-init
loop-phase-init c =
    let a = c.args in (
      omega arith,
      omega arith,
      omega arith,
      refl,
      λ es first g w tells. wrote_none a.x a.period a.low a.high _ g tells es w,
    )

-- A phase of the range is below the period.
in-range : (b : In-loop-phase) → b.loop-phase.phase < b.args.period
in-range b = b.requires.2 b.loop-phase.phase (b.loop-phase.invariant.0, b.loop-phase-test.true)

pub list_phase-entries-requires : goal.list_phase-entries-requires
list_phase-entries-requires c =
    let b = (goal.at.list_phase-entries-requires c).In-loop-phase in
    let l = b.loop-phase in
    let a = c in
    (in-range b, a.requires.0, omega (arith, l.invariant.1, l.invariant.2, a.requires.1))

pub loop-phase-preserved : goal.loop-phase-preserved
loop-phase-preserved c =
    let k = c in
    let b = (goal.at.loop-phase-preserved c).In-loop-phase in
    let l = b.loop-phase in
    let a = c in
    let one = k.list_phase-entries.ensures in (
      omega (arith, l.invariant.0),
      omega (arith, l.invariant.0, in-range b),
      omega (arith, l.invariant.0, l.invariant.2, one-most a.args.x l.phase one),
      one-length a.args.x l.phase one ∙ l.invariant.3,
      λ es first g w tells.
          wrote-next a.args.x a.args.period a.args.low a.args.high _ g tells es l.phase (l.phase + 1)
          (omega arith) (in-range b) (l.invariant.0, b.loop-phase-test.true) one (l.invariant.4 es first g w tells),
    )

pub returns : goal.returns
returns c =
    let l = c.loop-phase in
    let a = c.args in (
      omega (arith, l.invariant.1, l.invariant.2),
      l.invariant.3,
      λ es first g w inside tells.
          wrote-all a.x a.period a.low a.high _ g tells es l.phase c.loop-phase-test.false (l.invariant.4 es first g w
          tells),
    )

pub shape_of-list : goal.shape_of-list
shape_of-list c = search (rules, c.loop-phase.invariant.3)
