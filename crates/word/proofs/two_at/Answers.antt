-- `word::two_at` meets its contract. Assumes nothing.
use native.Mathlib.Omega.{arith}
use Rattle.model.specs.Rules.Word.{two_at}
use Rattle.word.proofs.two_at.Goals as goal

pub returns : goal.returns
unfolding two_at
returns c = omega (arith, c.from_le_bytes.ensures)
