-- `trial_script::check_sets` meets its contract. Assumes nothing.
use Rattle.model.specs.Rules.Script.{script_at, inputs_only}
use Rattle.trial_script.specs.Inputs.{marked}
use lib.ListN.{length}
use Prim.Native.Nat.{◌-◌, ◌≤◌}
use mathlib.Core.Path.{◌≡◌}
use Rattle.trial_script.proofs.check_sets.Given as goal

abbrev pub invariant-loop-at : goal.invariant-loop-at
invariant-loop-at l =
    (inputs_only (marked l.inputs) (script_at l.text 0).actions ≡ inputs_only (marked l.inputs) (script_at l.text l.at).actions) ×
    (l.at ≤ length l.text)

abbrev pub decreases-loop-at : goal.decreases-loop-at
decreases-loop-at l = length l.text - l.at
