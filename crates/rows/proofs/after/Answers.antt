-- `rows::after` meets its contract. Assumes nothing.
use mathlib.Core.Path.{◌∙◌}
use lib.IntN.{+ℤ_one}
use mir.Facts.{to_z-of_z}
use Rattle.rows.proofs.Loops.{long, plus-long}
use Rattle.rows.proofs.after.Goals as goal

pub overflow_cast-result : goal.overflow_cast-result
overflow_cast-result c = rw (to_z-of_z c.ranges.w) (long c.ranges.w)

pub overflow_add-result : goal.overflow_add-result
overflow_add-result c = rw (to_z-of_z c.ranges.w, to_z-of_z (long c.ranges.w)) (plus-long c.ranges.w)

pub returns : goal.returns
returns c = rw (to_z-of_z c.ranges.w, to_z-of_z (long c.ranges.w)) (to_z-of_z (plus-long c.ranges.w) ∙ +ℤ_one c.args.w)
