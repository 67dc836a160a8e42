-- `trial_script::count_cycles` meets its contract. Assumes nothing.
use Rattle.model.specs.Rules.Script.{script_at, cycles_of}
use lib.ListN.{length}
use Prim.Native.Nat.{◌+◌, ◌-◌, ◌*◌, ◌≤◌}
use mathlib.Core.Path.{◌≡◌}
use Rattle.trial_script.proofs.count_cycles.Given as goal

abbrev pub invariant-loop-at : goal.invariant-loop-at
invariant-loop-at l =
    (l.total + cycles_of (script_at l.text l.at).actions ≡ cycles_of (script_at l.text 0).actions) × (l.total ≤ 255 * l.at) ×
    (l.at ≤ length l.text)

abbrev pub decreases-loop-at : goal.decreases-loop-at
decreases-loop-at l = length l.text - l.at
