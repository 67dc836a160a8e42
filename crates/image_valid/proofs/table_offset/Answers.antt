-- `image_valid::table_offset` meets its contract. Assumes nothing.
use mathlib.Core.Path.{ap, ◌∙◌}
use native.Mathlib.Omega.{arith}
use Rattle.model.specs.Rules.Machine.{list_offset, table_offset}
use Rattle.image_valid.proofs.table_offset.Goals as goal

pub list_offset-requires : goal.list_offset-requires
list_offset-requires c = let s = c in (s.requires.0, s.requires.1, omega (arith, s.requires.2))

pub returns : goal.returns
unfolding table_offset
returns c = let s = c in c.list_offset.ensures ∙ ap (list_offset s.args.image.now) s.requires.2
