-- `rows::count_below` meets its contract. Assumes nothing.
use mathlib.Core.Path.{refl}
use Rattle.word.proofs.Locals.{test}
use Rattle.rows.proofs.count_below.Goals as goal

pub returns-then-high-w : goal.returns-then-high-w
returns-then-high-w c = rw (test c.ranges.high c.ranges.w c.if-high-w.true) refl

pub returns-else-high-w : goal.returns-else-high-w
returns-else-high-w c = rw (test c.ranges.high c.ranges.w c.if-high-w.false) refl
