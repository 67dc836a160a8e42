-- `check_reads::reads_met` meets its contract. Assumes nothing.
use Prim.Native.Nat.{ℕ, ◌-◌, ◌≤◌}
use mathlib.Core.List.{List}
use mathlib.Core.Path.{◌≡◌, refl, subst, sym, ◌∙◌}
use native.Mathlib.Omega.{arith}
use borrow.Author.Rules.{rules}
use Rattle.basics.proofs.Judgements.{handed-on}
use Rattle.model.specs.Rules.Outcome.{accepted}
use Rattle.model.specs.Rules.Program.{Program, no_signal, body_reads}
use Rattle.model.specs.Rules.Rates.{declared_and_rated}
use Rattle.model.specs.Rules.Reads.{met}
use Rattle.model.specs.Rules.Schedule.{Schedule}
use Rattle.model.specs.Rules.Search.{join_from}
use Rattle.text_program.specs.Tables.{PeriodsOf, SlotsOf, Indexes}
use Rattle.text_program.proofs.InTurn.{Left, check-starts, check-passes, check-refuses, check-ends}
use Rattle.text_program.proofs.Rising.{signal_places, rising-program}
use Rattle.check_reads.proofs.Judging.{read_fault, signal-at}
use Rattle.check_reads.proofs.reads_met.Invariants.{Rest}
use Rattle.check_reads.proofs.reads_met.Goals as goal

pub loop-reader-init : goal.loop-reader-init
unfolding met
loop-reader-init c = (
  omega arith,
  λ p e s order q t o. let h = rising-program _ p e.declares in check-starts _ _ _ _ 0 h.0 h.1.signals refl,
)

pub signal_met-requires : goal.signal_met-requires
signal_met-requires c =
    let a = c in (c.loop-reader-test.true, a.requires.0, a.requires.1, a.requires.2)

pub returns-in_err-signal_met : goal.returns-in_err-signal_met
returns-in_err-signal_met c =
    let k = c in
    let l = k.loop-reader in
    λ p e s order q t o.
    handed-on _ c.from_residual.ensures.1 ∙ sym c.in_err-signal_met.was ∙ check-refuses _ _ _ _ l.reader no_signal (omega (arith, k.loop-reader-test.true, e.count-is))
    (l.invariant.1 p e s order q t o) _ (k.signal_met.ensures p e s order q t o) (signal-at p s) _ c.in_err-signal_met.was

pub loop-reader-preserved : goal.loop-reader-preserved
loop-reader-preserved c =
    let k = c in
    let l = k.loop-reader in (
      omega (arith, k.loop-reader-test.true),
      λ p e s order q t o.
          subst (Rest p s) (omega arith)
          (check-passes _ _ _ _ l.reader no_signal (omega (arith, k.loop-reader-test.true, e.count-is))
          (l.invariant.1 p e s order q t o) _ (k.signal_met.ensures p e s order q t o) c.in_ok-signal_met.was),
    )

pub returns : goal.returns
returns c =
    let l = c.loop-reader in
    λ p e s order q t o.
    check-ends _ _ _ _ l.reader
    (omega (arith, e.count-is, c.loop-reader-test.false)) (l.invariant.1 p e s order q t o)
