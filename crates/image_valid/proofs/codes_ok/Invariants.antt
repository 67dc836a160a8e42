-- `image_valid::codes_ok` meets its contract. Assumes nothing.
use Prim.Native.Nat.{◌-◌}
use Rattle.image_valid.specs.Walk.{CursorOk, PassedFrom}
use Rattle.image_valid.proofs.codes_ok.Given as goal

abbrev pub invariant-loop-first : goal.invariant-loop-first
invariant-loop-first l =
    PassedFrom l.image 0 l.first × PassedFrom l.image l.half l.second × CursorOk l.image l.first × CursorOk l.image l.second

abbrev pub decreases-loop-first : goal.decreases-loop-first
decreases-loop-first l = l.middle - l.first.at
