use Rattle.std.proofs.Common.{length}
use Rattle.trial_step.specs.Underway.{lines_left, Underway}
use Rattle.replay.proofs.hash_lines.Given as goal

abbrev pub invariant-loop-block : goal.invariant-loop-block
invariant-loop-block l = Underway l.image l.text l.progress l.samples l.state

abbrev pub decreases-loop-block : goal.decreases-loop-block
decreases-loop-block l = length (lines_left l.image l.text l.progress l.samples l.state)
