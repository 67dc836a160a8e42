-- `text_convert::rewritten_length` meets its contract. Assumes nothing.
use Prim.Native.Nat.{◌+◌, ◌-◌}
use mathlib.Core.Path.{◌≡◌, ap}
use native.Mathlib.Omega.{arith}
use lib.ListN.{length}
use Rattle.model.proofs.Basics.Left.{parts-length}
use Rattle.text_convert.proofs.Walk.{Turn, turn-of, rewrite-starts, rewrite-ends}
use Rattle.text_convert.proofs.rewritten_length.Goals as goal
use Rattle.text_convert.proofs.rewritten_length.Goals.{After-command_piece-piece}

-- what the turn does
now-turn : (c : After-command_piece-piece) →
    Turn c.args.text.now c.loop-turn.at (length c.args.text.now - c.loop-turn.turn) c.command_piece-piece.result
now-turn c = turn-of _ _ _ _ (omega arith) (omega arith) c.command_piece-piece.ensures

pub loop-turn-init : goal.loop-turn-init
loop-turn-init c =
    let all : length c.args.text.now - 0 ≡ length c.args.text.now = omega arith in
    rw all (omega arith, omega arith, omega (arith, ap length (rewrite-starts c.args.text.now)))

pub overflow_add-total : goal.overflow_add-total
overflow_add-total c =
    let t = now-turn (goal.at.overflow_add-total c).After-command_piece-piece in
    omega (arith, t.inside, t.short, c.new_length-total.ensures)

pub overflow_add-at : goal.overflow_add-at
overflow_add-at c = let t = now-turn (goal.at.overflow_add-at c).After-command_piece-piece in
    omega (arith, t.inside, c.width_in-at.ensures)

pub loop-turn-preserved : goal.loop-turn-preserved
loop-turn-preserved c =
    let t = now-turn (goal.at.loop-turn-preserved c).After-command_piece-piece in
    let e = c.width_in-at.ensures in
    let f = c.new_length-total.ensures in
    let left : length c.args.text.now - (c.loop-turn.turn + 1) ≡ length c.args.text.now - c.loop-turn.turn - 1 = omega arith in
    rw (e, f, left) (
      t.inside,
      omega (arith, t.short),
      omega (arith, parts-length t.parts, t.size, c.loop-turn.invariant.2),
    )

pub returns : goal.returns
returns c =
    omega (
      arith,
      c.loop-turn.invariant.2,
      ap length (rewrite-ends c.args.text.now c.loop-turn.at (length c.args.text.now - c.loop-turn.turn)
          (omega arith)),
    )
