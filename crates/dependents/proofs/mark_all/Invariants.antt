-- `dependents::mark_all` meets its contract. Assumes nothing.
use Prim.Native.Nat.{◌-◌, ◌≤◌}
use native.Mathlib.Omega.{arith}
use Rattle.model.specs.Rules.Dependents.{marks_after}
use Rattle.model.specs.Rules.Program.{Program}
use Rattle.text_program.specs.Tables.{Indexes}
use Rattle.dependents.specs.Marks.{MarksBy}
use Rattle.dependents.proofs.Marks.{no-marks, after-round, all-marks}
use Rattle.dependents.proofs.mark_all.Given as goal

abbrev pub invariant-loop-round : goal.invariant-loop-round
invariant-loop-round l =
    (l.round ≤ l.signals) ×
    ((p : Program) → Indexes l.text l.reads l.firsts l.signals p → MarksBy (marks_after p l.input l.round) l.marks)
