-- `dependents::mark_readers` meets its contract. Assumes nothing.
use Prim.Native.Nat.{ℕ, ◌-◌, ◌≤◌, ◌<◌}
use mathlib.Core.List.{List}
use mathlib.Core.Path.{◌≡◌, refl, ◌∙◌}
use native.Mathlib.Omega.{arith}
use lib.ListN.{length, get_or, length-set}
use Rattle.model.specs.Rules.Dependents.{any_read, mark_byte}
use Rattle.model.specs.Rules.Program.{Program, signal_at, body_reads}
use Rattle.text_program.specs.Tables.{Indexes}
use Rattle.dependents.specs.Marks.{is_marked}
use Rattle.dependents.proofs.Marks.{unmarked, round-marks, put-past, put-here}
use Rattle.dependents.proofs.mark_readers.Invariants.{next}
use Rattle.dependents.proofs.mark_readers.Goals as goal
use Rattle.dependents.proofs.mark_readers.Goals.{After-mark_of, Start}

pub loop-reader-init : goal.loop-reader-init
loop-reader-init c = (omega arith, refl, λ y le. unmarked y, λ p e y lt. absurd (omega arith))

-- The mark that is put.
module _ (m : After-mark_of) where
  abbrev start : Start
  start = (goal.at.After-mark_of m).Start

  small : m.loop-reader.reader < 64
  small = omega (arith, m.loop-reader-test.true, start.requires.few)

pub loop-reader-preserved : goal.loop-reader-preserved
loop-reader-preserved c =
    let l = c.loop-reader in
    let v = c.mark_of.result in (
      omega (arith, c.loop-reader-test.true),
      length-set l.marks l.reader v ∙ l.invariant.1,
      put-past l.marks l.reader v l.invariant.1 (small c) l.invariant.2,
      λ p e.
          put-here l.marks l.reader v l.invariant.1 (small c) (next (start c).args.old.now (start c).args.input p)
          (c.mark_of.ensures p _ e c.loop-reader-test.true) (l.invariant.3 p e),
    )

pub returns : goal.returns
returns c =
    let l = c.loop-reader in
    let a = c in
    λ p e bs m.
    let n = e.count-is in
    round-marks p a.args.input m l.invariant.1 (λ y le. l.invariant.2 y (omega (arith, n, l.invariant.0)))
    (λ y lt. l.invariant.3 p e y (omega (arith, n, c.loop-reader-test.false)))

pub mark_of-requires : goal.mark_of-requires
mark_of-requires c = (_, c.loop-reader-test.true, c.requires)

pub bounds-marks-reader : goal.bounds-marks-reader
bounds-marks-reader c = omega (arith, small c)
