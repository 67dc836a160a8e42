-- `image_valid::advance_to` meets its contract. Assumes nothing.
use Prim.Native.Nat.{◌-◌}
use Rattle.image_valid.specs.Walk.{Advances}
use Rattle.image_valid.proofs.advance_to.Given as goal

abbrev pub invariant-loop-cursor : goal.invariant-loop-cursor
invariant-loop-cursor l = Advances l.image l.initial.cursor l.cursor

abbrev pub decreases-loop-cursor : goal.decreases-loop-cursor
decreases-loop-cursor l = l.end - l.cursor.at
