use mathlib.Core.Path.{ap, ◌∙◌}
use Rattle.model.specs.Rules.Word.{word_of, word_at}
use Rattle.word.proofs.Locals.{kept}
use Rattle.word.proofs.word_at.Goals as goal

pub returns : goal.returns
unfolding word_at
returns c = kept _ c.from_bits.type_inv ∙ c.from_bits.ensures ∙ ap word_of c.four_at.ensures
