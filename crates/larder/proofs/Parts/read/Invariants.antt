use Rattle.std.proofs.Common.{◌≤◌}
use Rattle.larder.proofs.Parts.read.Given as goal

abbrev pub invariant-loop-j : goal.invariant-loop-j
invariant-loop-j l = l.at ≤ 75483
