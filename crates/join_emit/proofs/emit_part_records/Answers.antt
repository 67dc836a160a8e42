-- `join_emit::emit_part_records` meets its contract. Assumes nothing.
use native.Mathlib.Omega.{arith}
use Rattle.model.proofs.Basics.Left.{starts, room, turn, done}
use Rattle.image_write.proofs.Joined.{joined_step, joined-ends}
use Rattle.join_emit.specs.Parts.{record_as}
use Rattle.join_emit.proofs.Parted.{records-left, record-here, record_is, record-length}
use Rattle.join_emit.proofs.emit_part_records.Goals as goal

pub loop-x-init : goal.loop-x-init
loop-x-init c =
    let a = c.args in
    (omega arith, rw (records-left a.text.now a.base a.last a.codes.now a.start) starts)

pub offset_bounds-codes-x : goal.offset_bounds-codes-x
offset_bounds-codes-x c = omega (arith, c.requires.0.few, c.loop-x-test.true)

pub bounds-codes-x : goal.bounds-codes-x
bounds-codes-x c = omega (arith, c.requires.0.few, c.loop-x-test.true)

pub offset_bounds-places-x : goal.offset_bounds-places-x
offset_bounds-places-x c =
    let t = c in
    omega (arith, t.requires.0.few, t.loop-x-test.true)

pub bounds-places-x : goal.bounds-places-x
bounds-places-x c =
    let t = c in
    omega (arith, t.requires.0.few, t.loop-x-test.true)

pub overflow_add-start : goal.overflow_add-start
overflow_add-start c =
    let w = c in
    let s = c in
    omega (arith, w.from_entry-code.ensures.1, s.requires.1, s.well_formed.0.1)

pub put_record-end-requires : goal.put_record-end-requires
put_record-end-requires c =
    let v = c in
    let t = c in
    let l = t.loop-x in
    let s = c in
    let a = s.args in
    let f = record_as a.text.now a.base a.codes.now a.start in (
      record-here s.requires.0 l.invariant.0 t.loop-x-test.true v.from_entry-place.ensures.0,
      omega (
        arith,
        record-length a.text.now a.base a.codes.now a.start l.x,
        room (joined_step f a.last l.x t.loop-x-test.true) l.invariant.1 s.requires.2,
      ),
    )

pub loop-x-preserved : goal.loop-x-preserved
loop-x-preserved c =
    let p = c in
    let v = c in
    let w = c in
    let t = c in
    let l = t.loop-x in
    let s = c in
    let a = s.args in
    let f = record_as a.text.now a.base a.codes.now a.start in
    let e =
    record_is s.requires.0 l.invariant.0 t.loop-x-test.true a.codes.now a.start v.from_entry-place.ensures.0 in (
      omega (arith, l.invariant.0),
      turn (rw e at (joined_step f a.last l.x t.loop-x-test.true)) l.invariant.1
          (rw w.from_entry-code.ensures.0 at p.put_record-end.ensures),
    )

pub returns : goal.returns
returns c =
    let l = c.loop-x in
    let a = c.args in
    done (joined-ends (record_as a.text.now a.base a.codes.now a.start) a.last l.x c.loop-x-test.false)
    l.invariant.1

pub shape_of-out : goal.shape_of-out
shape_of-out c = c.loop-x.invariant.1.size
