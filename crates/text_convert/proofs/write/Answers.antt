-- `text_convert::write` meets its contract. Assumes nothing.
use Prim.Native.Nat.{◌+◌, ◌-◌}
use mathlib.Core.Path.{◌≡◌}
use native.Mathlib.Omega.{arith}
use lib.ListN.{length}
use Rattle.model.proofs.Basics.Left.{starts, room, turn, done}
use Rattle.text_convert.proofs.Walk.{Turn, turn-of, rewrite-starts, rewrite-ends}
use Rattle.text_convert.proofs.write.Goals as goal
use Rattle.text_convert.proofs.write.Goals.{After-command_piece-piece}

-- what the turn does
now-turn : (c : After-command_piece-piece) →
    Turn c.args.text.now c.loop-turn.at (length c.args.text.now - c.loop-turn.turn) c.command_piece-piece.result
now-turn c = turn-of _ _ _ _ (omega arith) (omega arith) c.command_piece-piece.ensures

pub loop-turn-init : goal.loop-turn-init
loop-turn-init c =
    let all : length c.args.text.now - 0 ≡ length c.args.text.now = omega arith in
    rw (all, rewrite-starts c.args.text.now) (omega arith, starts)

pub put-to-requires : goal.put-to-requires
put-to-requires c =
    let t = now-turn (goal.at.put-to-requires c).After-command_piece-piece in
    (t.inside, rw (← t.size) (room t.parts c.loop-turn.invariant.1 (omega (arith, c.requires))))

pub overflow_add-at : goal.overflow_add-at
overflow_add-at c =
    let t = now-turn (goal.at.overflow_add-at c).After-command_piece-piece in omega (arith, t.inside, c.width_in-at.ensures)

pub loop-turn-preserved : goal.loop-turn-preserved
loop-turn-preserved c =
    let c5 = (goal.at.loop-turn-preserved c).After-command_piece-piece in
    let t = now-turn c5 in
    let left : length c.args.text.now - (c.loop-turn.turn + 1) ≡ length c.args.text.now - c.loop-turn.turn - 1 = omega arith in
    rw (c.width_in-at.ensures, left) (t.inside, turn t.parts c.loop-turn.invariant.1 c.put-to.ensures)

pub returns : goal.returns
returns c =
    done (rewrite-ends c.args.text.now c.loop-turn.at (length c.args.text.now - c.loop-turn.turn)
    (omega arith))
    c.loop-turn.invariant.1

pub shape_of-out : goal.shape_of-out
shape_of-out c = c.loop-turn.invariant.1.size
