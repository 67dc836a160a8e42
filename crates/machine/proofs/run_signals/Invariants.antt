-- `machine::run_signals` meets its contract. Assumes nothing.
use mathlib.Core.Path.{◌≡◌}
use Prim.Native.Nat.{◌+◌, ◌≤◌}
use lib.ListN.{length, drop}
use Rattle.model.specs.Rules.Machine.{run_signals, count_signals}
use Rattle.machine.proofs.run_signals.Given as goal

abbrev pub invariant-loop-x : goal.invariant-loop-x
invariant-loop-x l =
    (run_signals l.image (drop l.x-index l.list) l.samples l.state ≡ run_signals l.image l.list l.samples l.initial.state) × (length l.state ≡ length l.initial.state) ×
    (l.x-index ≤ length l.list)
    × (l.total + count_signals l.image (drop l.x-index l.list) ≡ count_signals l.image l.list)
