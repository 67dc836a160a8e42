-- `image_write::emit_codes` meets its contract. Assumes nothing.
use Prim.Native.Nat.{◌≤◌}
use Rattle.model.specs.Rules.Image.{joined}
use Rattle.image_write.specs.Codes.{declared_by, codes_from}
use Rattle.model.proofs.Basics.Left.{Left}
use Rattle.image_write.proofs.Coded.{codes_left}
use Rattle.image_write.proofs.emit_codes.Given as goal

abbrev pub invariant-loop-x : goal.invariant-loop-x
invariant-loop-x l =
    (l.x ≤ l.n) × Left l.initial.out l.to (joined (codes_from 0 (declared_by l.text))) l.out l.end (codes_left (declared_by l.text) l.x)
