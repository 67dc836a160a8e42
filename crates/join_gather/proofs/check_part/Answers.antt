-- `join_gather::check_part` meets its contract. Assumes nothing.
use mathlib.Core.Path.{sym}
use Rattle.model.specs.Rules.Join.{part_pair}
use Rattle.join_gather.proofs.check_part.Goals as goal

pub returns : goal.returns
unfolding part_pair
returns c = rw (sym c.program_of.ensures, sym c.schedule_of.ensures) c.check_pair.ensures
