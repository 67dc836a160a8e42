-- `text_assemble::put_value` meets its contract. Assumes nothing.
use Prim.Native.Nat.{◌+◌, ◌-◌}
use mathlib.Core.Path.{◌≡◌, refl}
use native.Mathlib.Omega.{arith}
use Rattle.model.proofs.Basics.Left.{starts, turn, done}
use Rattle.text_assemble.proofs.Walk.{low_parts, low-none}
use Rattle.text_assemble.proofs.put_value.Goals as goal

pub loop-i-preserved : goal.loop-i-preserved
loop-i-preserved c =
    let l = c.loop-i in
    let left = c.args.to + c.args.size - l.i in
    let one : c.args.to + c.args.size - (l.i + 1) ≡ left - 1 = omega arith in
    rw one (turn (low_parts left l.rest (omega arith)) l.invariant (record { holds = refl; ends = refl }))

pub loop-i-init : goal.loop-i-init
loop-i-init c = let whole : c.args.to + c.args.size - c.args.to ≡ c.args.size = omega arith in rw whole starts

pub returns : goal.returns
returns c =
    let end : c.loop-i.i ≡ c.args.to + c.args.size = omega arith in
    rw (← end) (done (low-none _ c.loop-i.rest (omega arith)) c.loop-i.invariant)
