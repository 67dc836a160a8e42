use Rattle.std.proofs.Common.{length}
use Rattle.trial_step.specs.Underway.{lines_left, Underway}
use Rattle.trial.proofs.print_lines.Given as goal

abbrev pub invariant-loop-progress : goal.invariant-loop-progress
invariant-loop-progress l = Underway l.image l.text l.progress l.samples l.state

abbrev pub decreases-loop-progress : goal.decreases-loop-progress
decreases-loop-progress l = length (lines_left l.image l.text l.progress l.samples l.state)
