-- `join_code::shift_loads` meets its contract. Assumes nothing.
use Prim.Native.Nat.{◌-◌, ◌≤◌}
use mathlib.Core.Path.{◌≡◌, refl, ap, ◌∙◌}
use native.Mathlib.Omega.{arith}
use borrow.Author.Rules.{rules}
use lib.ListN.{length}
use Rattle.join_code.specs.Shift.{Coded}
use Rattle.join_code.proofs.Commands.{Progress, begins, finishes, Next, steps, shift-length}
use Rattle.join_code.proofs.shift_loads.Goals as goal
use Rattle.join_code.proofs.shift_loads.Goals.{After-in_code-at, In-loop-at, Start}

pub loop-at-init : goal.loop-at-init
loop-at-init c = let s = c in (s.requires.1, refl, λ r. begins s.args.base r)

-- the command at `at`
module _ (t : In-loop-at) where
  abbrev s : Start
  s = (goal.at.In-loop-at t).Start

  next : (r : Coded s.args.out.now s.args.from s.args.to) →
      Next s.args.base r t.loop-at.out t.loop-at.at
  next r = steps s.args.base r (t.loop-at.invariant.2 r) t.loop-at-test.true

pub bounds-out-at : goal.bounds-out-at
bounds-out-at c = let t = c in (next (goal.at.bounds-out-at t).In-loop-at (s (goal.at.bounds-out-at t).In-loop-at).requires.0).inside

pub shift_load-requires : goal.shift_load-requires
shift_load-requires c =
    let t = c in
    let n = next (goal.at.shift_load-requires t).In-loop-at (s (goal.at.shift_load-requires t).In-loop-at).requires.0 in
    (n.inside, t.loop-at.invariant.0, n.operand)

abbrev turn : After-in_code-at → In-loop-at
turn c = (goal.at.After-in_code-at c).In-loop-at

pub overflow_add-at : goal.overflow_add-at
overflow_add-at c = let t = c in omega (arith, (next (goal.at.overflow_add-at t).In-loop-at (s (goal.at.overflow_add-at t).In-loop-at).requires.0).onward.ends, c.in_code-at.ensures)

pub loop-at-smaller : goal.loop-at-smaller
loop-at-smaller c =
    let t = c in
    omega (arith, (next (goal.at.loop-at-smaller t).In-loop-at (s (goal.at.loop-at-smaller t).In-loop-at).requires.0).moves, c.in_code-at.ensures, t.loop-at-test.true)

pub loop-at-preserved : goal.loop-at-preserved
loop-at-preserved c =
    let t = c in
    let l = t.loop-at in
    let shifts = c.shift_load.ensures in (
      l.invariant.0,
      ap length shifts ∙ shift-length (s (goal.at.loop-at-preserved t).In-loop-at).args.base l.at l.out ∙ l.invariant.1,
      λ r. rw (shifts, c.in_code-at.ensures) (next (goal.at.loop-at-preserved t).In-loop-at r).onward,
    )

pub returns : goal.returns
returns c =
    let l = c.loop-at in
    λ r. finishes c.args.base r (l.invariant.2 r) c.loop-at-test.false

pub shape_of-out : goal.shape_of-out
shape_of-out c = c.loop-at.invariant.1
