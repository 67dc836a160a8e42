-- `image_write::emit_tail` meets its contract. Assumes nothing.
use Prim.Native.Nat.{◌≤◌}
use Rattle.image_write.specs.Tail.{entry_by, tail_by}
use Rattle.image_write.proofs.Joined.{joined_from}
use Rattle.model.proofs.Basics.Left.{Left}
use Rattle.image_write.proofs.emit_tail.Given as goal

abbrev pub invariant-loop-x : goal.invariant-loop-x
invariant-loop-x l =
    (l.x ≤ l.n) × Left l.initial.out l.to (tail_by l.labels l.periods l.phases l.n) l.out l.end (joined_from (entry_by l.labels l.periods l.phases) l.n l.x)
