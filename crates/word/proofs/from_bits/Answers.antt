-- `word::from_bits` meets its contract. Assumes nothing.
use mathlib.Core.Path.{◌∙◌}
use Rattle.model.specs.Rules.Word.{word_of}
use Rattle.word.proofs.Locals.{kept}
use Rattle.word.proofs.from_bits.Goals as goal

pub returns : goal.returns
unfolding word_of
returns c = kept _ c.cast_signed.type_inv ∙ c.cast_signed.ensures
