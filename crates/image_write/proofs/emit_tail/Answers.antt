-- `image_write::emit_tail` meets its contract. Assumes nothing.
use Prim.Native.Nat.{ℕ}
use mathlib.Core.List.{List}
use native.Mathlib.Omega.{arith}
use Rattle.model.specs.Rules.Word.{two_bytes}
use Rattle.image_write.specs.Tail.{entry_by, tail_by}
use Rattle.image_write.proofs.Joined.{joined-starts, joined_step, joined-ends}
use Rattle.model.proofs.Basics.Left.{starts, room, turn, done}
use Rattle.image_write.proofs.emit_tail.Goals as goal
use Rattle.image_write.proofs.emit_tail.Goals.{After-slice_known-in-loop-x-1, At-loop-x, In-loop-x, Start}

abbrev start : At-loop-x → Start
start l = (goal.at.At-loop-x l).Start

-- the entries
abbrev entry : Start → ℕ → List ℕ
entry s = entry_by s.args.labels.now s.args.periods.now s.args.phases.now

pub loop-x-init : goal.loop-x-init
unfolding tail_by
loop-x-init c = (omega arith, rw (joined-starts (entry (goal.at.loop-x-init c).Start) c.args.n) starts)

pub bounds-periods-x : goal.bounds-periods-x
bounds-periods-x c = omega (arith, c.loop-x-test.true, (start (goal.at.bounds-periods-x c).At-loop-x).requires.0)

pub bounds-phases-x : goal.bounds-phases-x
bounds-phases-x c = omega (arith, c.loop-x-test.true, (start (goal.at.bounds-phases-x c).At-loop-x).requires.0)

pub put_entry-end-requires : goal.put_entry-end-requires
unfolding two_bytes
put_entry-end-requires c =
    let t = c in
    let l = (goal.at.put_entry-end-requires c).At-loop-x in
    let s = (goal.at.put_entry-end-requires c).Start in
    room (joined_step (entry s) s.args.n l.loop-x.x t.loop-x-test.true) l.loop-x.invariant.1 s.requires.1

-- at the end of a turn
abbrev turned : After-slice_known-in-loop-x-1 → In-loop-x
turned c = (goal.at.After-slice_known-in-loop-x-1 c).In-loop-x

pub loop-x-preserved : goal.loop-x-preserved
loop-x-preserved c =
    let t = c in
    let l = (goal.at.loop-x-preserved c).At-loop-x in
    let s = (goal.at.loop-x-preserved c).Start in (
      omega (arith, t.loop-x-test.true),
      turn (joined_step (entry s) s.args.n l.loop-x.x t.loop-x-test.true) l.loop-x.invariant.1
          c.put_entry-end.ensures,
    )

pub returns : goal.returns
returns c =
    let l = (goal.at.returns c).At-loop-x in
    let s = (goal.at.returns c).Start in
    (done (joined-ends (entry s) s.args.n l.loop-x.x (omega (arith, c.loop-x-test.false))) l.loop-x.invariant.1).holds

pub offset_bounds-labels-x : goal.offset_bounds-labels-x
offset_bounds-labels-x c = omega (arith, (start (goal.at.offset_bounds-labels-x c).At-loop-x).requires.0)

pub bounds-labels-x : goal.bounds-labels-x
bounds-labels-x c = omega (arith, (start (goal.at.bounds-labels-x c).At-loop-x).requires.0)

pub shape_of-out : goal.shape_of-out
shape_of-out c = c.loop-x.invariant.1.size
