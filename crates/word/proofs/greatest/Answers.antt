-- `word::greatest` meets its contract. Assumes nothing.
use mathlib.Core.Path.{ap₂, ◌∙◌}
use mir.Facts.{to_z-of_z}
use Rattle.std.specs.Int.{int_max}
use Rattle.word.proofs.Locals.{kept, greatest_of}
use Rattle.word.proofs.greatest.Goals as goal

pub returns : goal.returns
returns c =
    kept _ c.max.type_inv ∙ c.max.ensures.value ∙ ap₂ int_max (to_z-of_z c.ranges.a) (to_z-of_z c.ranges.b) ∙ greatest_of _ _
