use Rattle.std.proofs.Common.{◌≤◌}
use Rattle.replay.proofs.run.Given as goal

-- what is lent fits: first the bytes of the image, then the words of the state
abbrev pub invariant-loop : goal.invariant-loop
invariant-loop l = (l.lent.0 ≤ 26000) × (l.lent.1.0 ≤ 400)
