-- `join_emit::emit_part_codes` meets its contract. Assumes nothing.
use native.Mathlib.Omega.{arith}
use Rattle.model.proofs.Basics.Left.{starts, room, turn, done}
use Rattle.image_write.proofs.Joined.{joined_step, joined-ends}
use Rattle.join_emit.specs.Parts.{declared_as, code_as}
use Rattle.join_emit.proofs.Parted.{codes-left, here, code_wrote}
use Rattle.join_emit.proofs.emit_part_codes.Goals as goal

pub loop-x-init : goal.loop-x-init
loop-x-init c =
    let a = c.args in
    (omega arith, rw (codes-left a.text.now a.base a.last a.sources.now) starts)

pub offset_bounds-places-x : goal.offset_bounds-places-x
offset_bounds-places-x c = omega (arith, c.requires.0.few, c.loop-x-test.true)

pub bounds-places-x : goal.bounds-places-x
bounds-places-x c = omega (arith, c.requires.0.few, c.loop-x-test.true)

pub bounds-sources-x : goal.bounds-sources-x
bounds-sources-x c =
    let t = c in
    omega (arith, t.requires.0.few, t.loop-x-test.true)

pub emit_joined-end-requires : goal.emit_joined-end-requires
emit_joined-end-requires c =
    let w = c in
    let t = c in
    let l = t.loop-x in
    let s = c in
    let a = s.args in
    let f = code_as a.text.now a.base a.sources.now in (
      declared_as a.text.now a.base l.x,
      here s.requires.0 l.invariant.0 t.loop-x-test.true a.sources.now w.from_entry-place.ensures.0
          (room (joined_step f a.last l.x t.loop-x-test.true) l.invariant.1 s.requires.1),
    )

pub loop-x-preserved : goal.loop-x-preserved
loop-x-preserved c =
    let e = c in
    let w = c in
    let t = c in
    let l = t.loop-x in
    let s = c in
    let a = s.args in
    let p = joined_step (code_as a.text.now a.base a.sources.now) a.last l.x t.loop-x-test.true in (
      omega (arith, l.invariant.0),
      turn p l.invariant.1
          (code_wrote s.requires.0 l.invariant.0 t.loop-x-test.true a.sources.now w.from_entry-place.ensures.0
          (room p l.invariant.1 s.requires.1) e.emit_joined-end.ensures),
    )

pub returns : goal.returns
returns c =
    let l = c.loop-x in
    let a = c.args in
    done (joined-ends (code_as a.text.now a.base a.sources.now) a.last l.x c.loop-x-test.false) l.invariant.1

pub shape_of-out : goal.shape_of-out
shape_of-out c = c.loop-x.invariant.1.size
