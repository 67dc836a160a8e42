-- `join_emit::emit_run_lists` meets its contract. Assumes nothing.
use Prim.Native.Nat.{ℕ}
use mathlib.Core.List.{List, []}
use mathlib.Core.Path.{refl}
use Rattle.model.specs.Rules.Image.{joined, offsets}
use Rattle.model.proofs.Basics.Left.{Left, starts, room, turn, done}
use Rattle.image_write.specs.Lists.{pairs}
use Rattle.image_write.proofs.Timed.{both, last}
use Rattle.join_emit.specs.Image.{joint_lists, joint_runs}
use Rattle.join_emit.proofs.emit_run_lists.Goals as goal
use Rattle.join_emit.proofs.emit_run_lists.Goals.{After-emit_lists, After-emit_offsets-lists, Start}

-- the lists, and the offsets before them
module _ (s : Start) where
  abbrev lists : List (List ℕ)
  lists = joint_lists s.args.joint.now s.args.h

  abbrev paired : List ℕ
  paired = pairs (offsets s.args.start lists)

  -- what is left of both
  abbrev Rest : List ℕ → ℕ → List ℕ → Type 0
  Rest out to rest =
      Left s.args.out.now s.args.to (joint_runs s.args.joint.now s.args.h s.args.start) out to rest

abbrev begun : After-emit_offsets-lists → Start
begun o = (goal.at.After-emit_offsets-lists o).Start

after-offsets : (o : After-emit_offsets-lists) → let s = (goal.at.After-emit_offsets-lists o).Start in
    Rest s o.emit_offsets-lists.new.out o.emit_offsets-lists.result (joined (lists s))
after-offsets o = let s = (goal.at.After-emit_offsets-lists o).Start in turn (both (paired s) (joined (lists s))) starts o.emit_offsets-lists.ensures.1

pub emit_offsets-lists-requires : goal.emit_offsets-lists-requires
emit_offsets-lists-requires c =
    let c5 = c in
    let s = (goal.at.emit_offsets-lists-requires c).Start in
    let t = s.requires.0 in (
      refl,
      (t.timed, t.phased, t.hyper),
      s.requires.1,
      room (both (paired s) (joined (lists s))) (starts {l = s.args.out.now} {to = s.args.to}) s.requires.2,
    )

pub emit_lists-requires : goal.emit_lists-requires
emit_lists-requires c =
    let o = (goal.at.emit_lists-requires c).After-emit_offsets-lists in
    let s = (goal.at.emit_lists-requires c).Start in
    let t = s.requires.0 in
    ((t.timed, t.phased, t.hyper), o.emit_offsets-lists.ensures.0, room (last (joined (lists s))) (after-offsets o) s.requires.2)

-- where both are written
abbrev offset : After-emit_lists → After-emit_offsets-lists
offset l = (goal.at.After-emit_lists l).After-emit_offsets-lists

after-lists : (l : After-emit_lists) → let s = (goal.at.After-emit_lists l).Start in
    Rest s l.emit_lists.new.out l.emit_lists.result []
after-lists l =
    let s = (goal.at.After-emit_lists l).Start in
    turn (last (joined (lists s))) (after-offsets (goal.at.After-emit_lists l).After-emit_offsets-lists) l.emit_lists.ensures

pub shape_of-out : goal.shape_of-out
shape_of-out c = (after-lists (goal.at.shape_of-out c).After-emit_lists).size

pub returns : goal.returns
returns c = done refl (after-lists (goal.at.returns c).After-emit_lists)
