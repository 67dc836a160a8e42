-- `image_write::run_count` meets its contract. Assumes nothing.
use Prim.Native.Nat.{◌<◌}
use mathlib.Core.Path.{◌≡◌}
use native.Mathlib.Numerals.{add-one}
use native.Mathlib.Omega.{arith}
use lib.ListN.{get_or}
use Rattle.model.specs.Rules.Reads.{stored}
use Rattle.image_write.proofs.run_count.Goals as goal
use Rattle.image_write.proofs.run_count.Goals.{After-from_byte-phase}

-- the period and the phase that are looked up
period-is : (c : After-from_byte-phase) → let a = c.args in
    c.from_byte-period.result ≡ get_or a.periods.now a.x 0
period-is c = rw (c.from_byte-period.ensures.0, c.from_byte-signal.ensures.0)

phase-is : (c : After-from_byte-phase) → let a = c.args in
    c.from_byte-phase.result ≡ get_or a.phases.now a.x 0
phase-is c = rw (c.from_byte-phase.ensures.0, c.from_byte-signal.ensures.0)

below : (c : After-from_byte-phase) → c.from_byte-phase.result < c.from_byte-period.result
below c = rw (period-is c, phase-is c) c.requires.1

pub overflow_add-result : goal.overflow_add-result
overflow_add-result c = omega (arith, c.from_byte-period.ensures.1, c.requires.2)

pub returns : goal.returns
unfolding stored
returns c = rw (phase-is c, period-is c, add-one)

pub overflow_add-result-2 : goal.overflow_add-result-2
overflow_add-result-2 c = omega (arith, c.from_byte-phase.ensures.1)

pub overflow_sub-result : goal.overflow_sub-result
overflow_sub-result c = omega (arith, below c)

pub nonzero_div-result : goal.nonzero_div-result
nonzero_div-result c = omega (arith, below c)
