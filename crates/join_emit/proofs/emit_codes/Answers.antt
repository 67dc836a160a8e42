-- `join_emit::emit_codes` meets its contract. Assumes nothing.
use Prim.Native.Nat.{ℕ, ◌≤◌}
use mathlib.Core.List.{List}
use native.Mathlib.Omega.{arith}
use Rattle.model.proofs.Basics.Left.{starts, room, turn, done}
use Rattle.image_write.proofs.Joined.{joined-starts, joined_step, joined-ends}
use Rattle.join_texts.proofs.Lent.{kept}
use Rattle.join_emit.specs.Parts.{codes_of}
use Rattle.join_emit.proofs.emit_codes.Goals as goal
use Rattle.join_emit.proofs.emit_codes.Goals.{Start}

-- the code of each part, and part k
module _ (s : Start) where
  abbrev each : ℕ → List ℕ
  each = codes_of s.args.texts.now s.args.numbers.now s.args.joint.now.bases s.args.sources.now

  few : s.args.joint.now.parts ≤ 8
  few =
      omega (
        arith,
        (kept s.args.texts.now s.args.numbers.now s.requires.0.are-lent).few,
        s.requires.0.counted,
      )

pub loop-k-init : goal.loop-k-init
loop-k-init c = let s = (goal.at.loop-k-init c).Start in rw (joined-starts (each s) s.args.joint.now.parts) starts

pub program_of-program-requires : goal.program_of-program-requires
program_of-program-requires c = (omega (arith, c.requires.0.counted, c.loop-k-test.true), c.requires.0.are-lent)

pub bounds-joint-k : goal.bounds-joint-k
bounds-joint-k c = omega (arith, few (goal.at.bounds-joint-k c).Start, c.loop-k-test.true)

pub bounds-joint-k-in-loop-k : goal.bounds-joint-k-in-loop-k
bounds-joint-k-in-loop-k c = omega (arith, few (goal.at.bounds-joint-k-in-loop-k c).Start, c.loop-k-test.true)

pub emit_part_codes-end-requires : goal.emit_part_codes-end-requires
unfolding codes_of
emit_part_codes-end-requires c =
    let t = c in
    let l = t.loop-k in
    let s = (goal.at.emit_part_codes-end-requires c).Start in
    let lt = t.loop-k-test.true in (
      rw c.program_of-program.ensures (s.requires.0.declared l.k lt),
      rw c.program_of-program.ensures (room (joined_step (each s) s.args.joint.now.parts l.k lt) l.invariant s.requires.1),
    )

pub loop-k-preserved : goal.loop-k-preserved
unfolding codes_of
loop-k-preserved c =
    let e = c in
    let t = c in
    let l = t.loop-k in
    let s = (goal.at.loop-k-preserved c).Start in
    turn (joined_step (each s) s.args.joint.now.parts l.k t.loop-k-test.true) l.invariant
    (rw c.program_of-program.ensures at c.emit_part_codes-end.ensures)

pub returns : goal.returns
returns c =
    let l = c.loop-k in
    let s = (goal.at.returns c).Start in
    done (joined-ends (each s) s.args.joint.now.parts l.k c.loop-k-test.false) l.invariant

pub shape_of-out : goal.shape_of-out
shape_of-out c = c.loop-k.invariant.size
