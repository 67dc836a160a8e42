-- `text_assemble::write_assembly` meets its contract. Assumes nothing.
use Prim.Native.Nat.{◌-◌}
use lib.ListN.{length}
use Rattle.text_assemble.proofs.Walk.{Writing}
use Rattle.text_assemble.proofs.write_assembly.Given as goal

abbrev pub invariant-loop-start : goal.invariant-loop-start
invariant-loop-start l = Writing l.text l.initial.out l.start l.pending l.out l.to

abbrev pub decreases-loop-start : goal.decreases-loop-start
decreases-loop-start l = length l.text - l.start
