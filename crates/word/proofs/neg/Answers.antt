-- `word::neg` meets its contract. Assumes nothing.
use mathlib.Core.Path.{ap, ◌∙◌}
use lib.IntN.{neg_ℤ}
use mir.Facts.{to_z-of_z}
use Rattle.model.specs.Rules.Word.{nearest, neg_word}
use Rattle.word.proofs.Locals.{kept}
use Rattle.word.proofs.Results.{saturated}
use Rattle.word.proofs.neg.Goals as goal

pub returns : goal.returns
unfolding neg_word
returns c =
    let e = c.saturating_neg in
    kept _ e.type_inv ∙ e.ensures ∙ saturated _ ∙ ap nearest (ap neg_ℤ (to_z-of_z c.ranges.a))
