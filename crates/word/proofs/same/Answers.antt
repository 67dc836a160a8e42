-- `word::same` meets its contract. Assumes nothing.
use mathlib.Core.Path.{ap, ◌∙◌}
use Rattle.model.specs.Rules.Word.{same_word, bit_word}
use Rattle.word.proofs.Locals.{kept, bit_of, eq_bits}
use Rattle.word.proofs.same.Goals as goal

pub returns : goal.returns
unfolding same_word
returns c = kept _ c.from.type_inv ∙ c.from.ensures ∙ bit_of _ ∙ ap bit_word (eq_bits c.ranges.a c.ranges.b)
