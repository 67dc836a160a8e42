-- `join_emit::emit_records` meets its contract. Assumes nothing.
use Rattle.model.specs.Rules.Image.{joined}
use Rattle.model.specs.Rules.Search.{table}
use Rattle.model.proofs.Basics.Left.{Left}
use Rattle.image_write.proofs.Joined.{joined_from}
use Rattle.join_emit.specs.Parts.{records_of}
use Rattle.join_emit.proofs.emit_records.Given as goal

abbrev pub invariant-loop-k : goal.invariant-loop-k
invariant-loop-k l =
    let f = records_of l.texts l.numbers l.joint.bases l.joint.codes l.code in
    Left l.initial.out l.to (joined (table l.joint.parts f)) l.out l.end (joined_from f l.joint.parts l.k)
