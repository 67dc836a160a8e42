-- `word::nearest` meets its contract. Assumes nothing.
use mathlib.Core.Path.{ap, ◌∙◌}
use lib.IntN.{ℤ}
use mir.Syntax.{w32, w64}
use mir.Val.{to_z, of_z}
use mir.Facts.{to_z-of_z}
use borrow.Author.Rules.{sfits_of}
use Rattle.model.specs.Rules.Word.{nearest}
use Rattle.word.proofs.Locals.{kept}
use Rattle.word.proofs.Results.{clamped, nearest-small}
use Rattle.word.proofs.nearest.Goals as goal

pub returns : goal.returns
returns c =
    let wide = to_z-of_z {w = w64} (sfits_of c.clamp.type_inv) in
    let e = c.clamp.ensures.value ∙ clamped _ ∙ ap nearest (to_z-of_z c.ranges.x) in
    ap (λ (z : ℤ). to_z w32 (of_z w32 z)) (wide ∙ e) ∙ kept _ (nearest-small _)
