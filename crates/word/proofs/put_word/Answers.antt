-- `word::put_word` meets its contract. Assumes nothing.
use mathlib.Core.Path.{refl, ap, ◌∙◌}
use lib.IntN.{ℤ}
use mir.Syntax.{w32}
use mir.Val.{of_z}
use Rattle.std.specs.Int.{to_le_bytes}
use Rattle.model.specs.Rules.Word.{word_bytes, four_bytes}
use mir.Facts.{to_z-of_z}
use Rattle.word.proofs.Locals.{bits-of_z}
use Rattle.word.proofs.Writing.{written}
use Rattle.word.proofs.put_word.Goals as goal

pub returns : goal.returns
unfolding word_bytes four_bytes
returns c =
    let w = c.ranges.w in
    let kept = ap (λ (z : ℤ). to_le_bytes w32 (of_z w32 z)) (to_z-of_z w) in
    let e = c.copy_from_slice.ensures.after ∙ c.to_le_bytes.ensures ∙ kept ∙ ap (to_le_bytes w32) (bits-of_z w) in
    written _ _ 4 _ _ c.requires refl e
