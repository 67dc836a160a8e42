use Rattle.std.proofs.Common.{◌-◌}
use Rattle.print_image.proofs.print_code.Given as goal

abbrev pub decreases-loop-at : goal.decreases-loop-at
decreases-loop-at l = l.end - l.at
