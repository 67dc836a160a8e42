-- `trial_step::seek` meets its contract. Assumes nothing.
use Rattle.trial_step.specs.Underway.{seek_from, seek_of}
use Rattle.model.specs.Rules.Script.{script_at, calls_from}
use lib.ListN.{length}
use Prim.Native.Nat.{ℕ, ◌+◌, ◌-◌, ◌≤◌}
use mathlib.Core.Path.{◌≡◌}
use Rattle.trial_step.proofs.seek.Given as goal

abbrev pub invariant-loop-at : goal.invariant-loop-at
invariant-loop-at l =
    (calls_from l.initial.samples (script_at l.text l.from).actions ≡ calls_from l.samples (script_at l.text l.at).actions) ×
    (length l.samples ≡ length l.initial.samples) ×
    ((n : ℕ) × (length l.text ≤ n + l.at) × (seek_of l.text l.from l.initial.samples ≡ seek_from n l.text l.at l.samples))

abbrev pub decreases-loop-at : goal.decreases-loop-at
decreases-loop-at l = length l.text - l.at
