-- `text_assemble::assembled_length` meets its contract. Assumes nothing.
use Prim.Native.Nat.{◌-◌}
use lib.ListN.{length}
use Rattle.text_assemble.proofs.Walk.{Measured}
use Rattle.text_assemble.proofs.assembled_length.Given as goal

abbrev pub invariant-loop-start : goal.invariant-loop-start
invariant-loop-start l = Measured l.text l.start l.pending l.total

abbrev pub decreases-loop-start : goal.decreases-loop-start
decreases-loop-start l = length l.text - l.start
