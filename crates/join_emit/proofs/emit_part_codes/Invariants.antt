-- `join_emit::emit_part_codes` meets its contract. Assumes nothing.
use Prim.Native.Nat.{◌≤◌}
use Rattle.model.proofs.Basics.Left.{Left}
use Rattle.image_write.proofs.Joined.{joined_from}
use Rattle.join_emit.specs.Parts.{code_as, part_codes}
use Rattle.join_emit.proofs.emit_part_codes.Given as goal

abbrev pub invariant-loop-x : goal.invariant-loop-x
invariant-loop-x l =
    (l.base ≤ l.x) × Left l.initial.out l.to (part_codes l.text l.base l.last l.sources) l.out l.end (joined_from (code_as l.text l.base l.sources) l.last l.x)
