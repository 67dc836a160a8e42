-- `word::put_two` meets its contract. Assumes nothing.
use mathlib.Core.Path.{refl, ◌∙◌}
use Rattle.model.specs.Rules.Word.{two_bytes}
use Rattle.word.proofs.Writing.{written, low_two, high_two}
use Rattle.word.proofs.put_two.Goals as goal

pub returns : goal.returns
unfolding two_bytes
returns c =
    let e = c.copy_from_slice.ensures.after ∙ c.to_le_bytes.ensures in
    written _ _ 2 _ _ c.requires refl (simp (low_two, high_two) at e)
