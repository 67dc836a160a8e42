-- `image_layout::lists_at` meets its contract. Assumes nothing.
use native.Mathlib.Omega.{arith}
use Rattle.image_layout.proofs.lists_at.Goals as goal

pub overflow_add-result-2 : goal.overflow_add-result-2
overflow_add-result-2 c = omega (arith, c.requires.0, c.requires.1, c.record_at.ensures)

pub record_at-requires : goal.record_at-requires
record_at-requires c = c.requires.0

pub overflow_add-result : goal.overflow_add-result
overflow_add-result c = omega (arith, c.requires.1)

pub overflow_mul-result : goal.overflow_mul-result
overflow_mul-result c = omega (arith, c.requires.1)

pub returns : goal.returns
returns c = omega (arith, c.record_at.ensures)
