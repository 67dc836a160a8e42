-- `rows::long` meets its contract. Assumes nothing.
use mir.Facts.{to_z-of_z}
use Rattle.rows.proofs.Loops as laws
use Rattle.rows.proofs.long.Goals as goal

pub overflow_cast-result : goal.overflow_cast-result
overflow_cast-result c = rw (to_z-of_z c.ranges.w) (laws.long c.ranges.w)

pub returns : goal.returns
returns c = rw (to_z-of_z c.ranges.w) (to_z-of_z (laws.long c.ranges.w))
