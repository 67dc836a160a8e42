-- `word::sub` meets its contract. Assumes nothing.
use mathlib.Core.Path.{ap, ◌∙◌}
use native.Mathlib.Omega.{arith}
use Rattle.std.proofs.lemmas.Int.{ints}
use Rattle.model.specs.Rules.Word.{nearest, sub_word}
use Rattle.word.proofs.Locals.{kept}
use Rattle.word.proofs.sub.Goals as goal

pub returns : goal.returns
unfolding sub_word
returns c = kept _ c.nearest.type_inv ∙ c.nearest.ensures ∙ ap nearest (omega (arith, ints))
