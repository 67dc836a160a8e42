-- `join_texts::program_of` meets its contract. Assumes nothing.
use native.Mathlib.Omega.{arith}
use Rattle.model.proofs.Joining.Lent.{number-inside}
use Rattle.join_texts.proofs.Lent.{kept}
use Rattle.join_texts.proofs.program_of.Goals as goal

pub stretch_at-requires : goal.stretch_at-requires
stretch_at-requires c = let a = c.args in (
  omega (arith, number-inside a.numbers.now a.k 3 c.requires.0 (omega arith)),
  (kept a.texts.now a.numbers.now c.requires.1).programs a.k c.requires.0,
)
