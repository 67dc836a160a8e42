-- `trial_script::read_script` meets its contract. Assumes nothing.
use Rattle.model.specs.Rules.Script.{script_at}
use lib.ListN.{length}
use Prim.Native.Nat.{◌-◌, ◌≤◌}
use mathlib.Core.Path.{◌≡◌}
use Rattle.trial_script.proofs.read_script.Given as goal

abbrev pub invariant-loop-at : goal.invariant-loop-at
invariant-loop-at l = ((script_at l.text 0).ending ≡ (script_at l.text l.at).ending) × (l.at ≤ length l.text)

abbrev pub decreases-loop-at : goal.decreases-loop-at
decreases-loop-at l = length l.text - l.at
