-- `image_write::put_offset` meets its contract. Assumes nothing.
use mathlib.Core.Path.{refl}
use Rattle.model.specs.Rules.Word.{two_bytes}
use Rattle.image_write.proofs.put_offset.Goals as goal

pub returns : goal.returns
unfolding two_bytes
returns c = record { holds = c.put_two.ensures; ends = refl }
