-- `word::mul` meets its contract. Assumes nothing.
use lib.IntN.{◌*ℤ◌}
use Rattle.model.specs.Rules.Word.{mul_word}
use Rattle.word.proofs.Results.{of-result}
use Rattle.word.proofs.mul.Goals as goal

pub returns : goal.returns
unfolding mul_word
returns c = of-result ◌*ℤ◌ c.ranges.a c.ranges.b c.saturating_mul.type_inv c.saturating_mul.ensures
