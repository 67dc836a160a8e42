-- `word::four_at` meets its contract. Assumes nothing.
use native.Mathlib.Omega.{arith}
use Rattle.model.specs.Rules.Word.{four_at}
use Rattle.word.proofs.four_at.Goals as goal

pub returns : goal.returns
unfolding four_at
returns c = omega (arith, c.from_le_bytes.ensures)
