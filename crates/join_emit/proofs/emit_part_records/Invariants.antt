-- `join_emit::emit_part_records` meets its contract. Assumes nothing.
use Prim.Native.Nat.{◌≤◌}
use Rattle.model.proofs.Basics.Left.{Left}
use Rattle.image_write.proofs.Joined.{joined_from}
use Rattle.join_emit.specs.Parts.{record_as, part_records}
use Rattle.join_emit.proofs.emit_part_records.Given as goal

abbrev pub invariant-loop-x : goal.invariant-loop-x
invariant-loop-x l =
    (l.base ≤ l.x) ×
    Left l.initial.out l.to (part_records l.text l.base l.last l.codes l.start) l.out l.end (joined_from (record_as l.text l.base l.codes l.start) l.last l.x)
