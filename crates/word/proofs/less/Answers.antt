-- `word::less` meets its contract. Assumes nothing.
use mathlib.Core.Path.{◌∙◌}
use mir.Facts.{to_z-of_z}
use Rattle.model.specs.Rules.Word.{less_word}
use Rattle.word.proofs.Locals.{kept, bit_of}
use Rattle.word.proofs.less.Goals as goal

pub returns : goal.returns
unfolding less_word
returns c = simp (to_z-of_z c.ranges.a, to_z-of_z c.ranges.b) at (kept _ c.from.type_inv ∙ c.from.ensures ∙ bit_of _)
