-- `text_assemble::put_value` meets its contract. Assumes nothing.
use Prim.Native.Nat.{◌-◌}
use Rattle.model.specs.Rules.TextForm.{low_bytes}
use Rattle.model.proofs.Basics.Left.{Left}
use Rattle.text_assemble.proofs.put_value.Given as goal

abbrev pub invariant-loop-i : goal.invariant-loop-i
invariant-loop-i l = Left l.initial.out l.to (low_bytes l.size l.value) l.out l.i (low_bytes (l.end - l.i) l.rest)
