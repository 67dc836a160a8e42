-- `image_write::emit_records` meets its contract. Assumes nothing.
use Prim.Native.Nat.{◌≤◌}
use Rattle.model.specs.Rules.Image.{offsets, records}
use Rattle.image_write.specs.Codes.{declared_by, codes_from}
use Rattle.model.proofs.Basics.Left.{Left}
use Rattle.image_write.proofs.Coded.{records_left}
use Rattle.image_write.proofs.emit_records.Given as goal

abbrev pub invariant-loop-x : goal.invariant-loop-x
invariant-loop-x l =
    let s = offsets l.start (codes_from 0 (declared_by l.text)) in
    (l.x ≤ l.n) × Left l.initial.out l.to (records (declared_by l.text) s) l.out l.end (records_left (declared_by l.text) s l.x)
