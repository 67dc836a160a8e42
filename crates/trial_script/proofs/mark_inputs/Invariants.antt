-- `trial_script::mark_inputs` meets its contract. Assumes nothing.
use Prim.Native.Nat.{◌≤◌}
use Rattle.trial_script.proofs.Marks.{Marks}
use Rattle.trial_script.proofs.mark_inputs.Given as goal

abbrev pub invariant-loop-x : goal.invariant-loop-x
invariant-loop-x l = Marks l.image l.x l.inputs × (l.x ≤ l.n)
