-- `image_write::lists_length` meets its contract. Assumes nothing.
use Prim.Native.Nat.{◌+◌}
use mathlib.Core.Path.{◌≡◌}
use native.Mathlib.Omega.{arith}
use lib.ListN.{length}
use Rattle.model.specs.Rules.Image.{joined}
use Rattle.image_write.specs.Lists.{lists_by}
use Rattle.image_write.proofs.Counted.{length_from, length-starts, length-step, length-ends}
use Rattle.image_write.proofs.Joined.{lists-most}
use Rattle.image_write.proofs.lists_length.Goals as goal
use Rattle.image_write.proofs.lists_length.Goals.{After-run_count-runs}

pub loop-i-init : goal.loop-i-init
loop-i-init c =
    let a = c.args in
    (omega arith, omega (arith, length-starts a.periods.now a.order.now a.phases.now a.n a.h))

pub run_count-runs-requires : goal.run_count-runs-requires
run_count-runs-requires c =
    let s = c in
    let i = c.loop-i.i in
    (s.requires.0.below i (omega arith), s.requires.1 i (omega arith), s.requires.2)

-- one entry more
next : (c : After-run_count-runs) → let a = c.args in
    let l = c.loop-i in
    l.total + c.run_count-runs.result + length_from a.periods.now a.order.now a.phases.now a.n a.h (l.i + 1) ≡
    length (joined (lists_by a.periods.now a.order.now a.phases.now a.n a.h))
next c =
    let s = c in
    let l = c.loop-i in
    omega (
      arith,
      l.invariant.1,
      c.run_count-runs.ensures,
      length-step s.args.periods.now s.args.order.now s.args.phases.now s.args.n s.args.h l.i
          (omega arith) (s.requires.1 l.i (omega arith)),
    )

pub overflow_add-total : goal.overflow_add-total
overflow_add-total c =
    let s = c in
    omega (
      arith,
      next c,
      lists-most s.args.periods.now s.args.order.now s.args.phases.now s.args.n
          s.args.h s.requires.0.few,
      s.requires.2,
    )

pub returns : goal.returns
returns c =
    let a = c.args in
    omega (
      arith,
      c.loop-i.invariant.1,
      length-ends a.periods.now a.order.now a.phases.now a.n a.h c.loop-i.i (omega arith),
    )

pub bounds-order-i : goal.bounds-order-i
bounds-order-i c = omega (arith, c.requires.0.few)

pub loop-i-preserved : goal.loop-i-preserved
loop-i-preserved c = (omega arith, next c)
