-- `dependents::mark_all` meets its contract. Assumes nothing.
use Prim.Native.Nat.{◌-◌, ◌≤◌}
use native.Mathlib.Omega.{arith}
use Rattle.model.specs.Rules.Dependents.{marks_after}
use Rattle.model.specs.Rules.Program.{Program}
use Rattle.text_program.specs.Tables.{Indexes}
use Rattle.dependents.specs.Marks.{MarksBy}
use Rattle.dependents.proofs.Marks.{no-marks, after-round, all-marks}
use Rattle.dependents.proofs.mark_all.Goals as goal

pub loop-round-init : goal.loop-round-init
loop-round-init c = (omega arith, λ p e. no-marks p _)

pub loop-round-preserved : goal.loop-round-preserved
loop-round-preserved c =
    let l = c.loop-round in (
      omega (arith, c.loop-round-test.true),
      λ p e. after-round p _ l.round (c.mark_readers-marks.ensures p e _ (l.invariant.1 p e)),
    )

pub returns : goal.returns
returns c =
    let l = c.loop-round in
    λ p e. all-marks p _ l.round (omega (arith, e.count-is, l.invariant.0, c.loop-round-test.false)) (l.invariant.1 p e)

pub mark_readers-marks-requires : goal.mark_readers-marks-requires
mark_readers-marks-requires c = c.requires
