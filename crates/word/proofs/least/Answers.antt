-- `word::least` meets its contract. Assumes nothing.
use mathlib.Core.Path.{ap₂, ◌∙◌}
use mir.Facts.{to_z-of_z}
use Rattle.std.specs.Int.{int_min}
use Rattle.word.proofs.Locals.{kept, least_of}
use Rattle.word.proofs.least.Goals as goal

pub returns : goal.returns
returns c = kept _ c.min.type_inv ∙ c.min.ensures.value ∙ ap₂ int_min (to_z-of_z c.ranges.a) (to_z-of_z c.ranges.b) ∙ least_of _ _
