-- `check_rates::judge_reads` meets its contract. Assumes nothing.
use Prim.Native.Nat.{ℕ, ◌-◌, ◌≤◌}
use mathlib.Core.Path.{refl, subst, sym, ◌∙◌}
use native.Mathlib.Omega.{arith}
use borrow.Author.Rules.{rules}
use Rattle.basics.proofs.Judgements.{handed-on}
use Rattle.model.specs.Rules.Outcome.{lowest}
use Rattle.model.specs.Rules.Program.{Program, no_signal}
use Rattle.text_program.specs.Tables.{PeriodsOf, Indexes}
use Rattle.text_program.proofs.InTurn.{Left, check-starts, check-passes, check-refuses, check-ends}
use Rattle.text_program.proofs.Rising.{signal_places, rising-program}
use Rattle.check_rates.specs.Rates.{signal_rates, read_rates}
use Rattle.check_rates.proofs.Judging.{signal-at}
use Rattle.check_rates.proofs.judge_reads.Invariants.{Rest}
use Rattle.check_rates.proofs.judge_reads.Goals as goal

pub loop-reader-init : goal.loop-reader-init
loop-reader-init c =
    (omega arith, λ p e t. let h = rising-program _ p e.declares in check-starts _ _ _ _ 0 h.0 h.1.signals refl)

pub judge_signal-requires : goal.judge_signal-requires
judge_signal-requires c =
    let a = c in (c.loop-reader-test.true, a.requires.0, a.requires.1)

pub returns-in_err-judge_signal : goal.returns-in_err-judge_signal
returns-in_err-judge_signal c =
    let s = c in
    let l = s.loop-reader in
    let a = c in
    λ p e t.
    handed-on _ c.from_residual.ensures.1 ∙ sym c.in_err-judge_signal.was ∙ check-refuses _ _ _ _ l.reader no_signal (omega (arith, s.loop-reader-test.true, e.count-is))
    (l.invariant.1 p e t) _ (s.judge_signal.ensures p e t) (signal-at p) _ c.in_err-judge_signal.was

pub loop-reader-preserved : goal.loop-reader-preserved
loop-reader-preserved c =
    let s = c in
    let l = s.loop-reader in
    let a = c in (
      omega (arith, s.loop-reader-test.true),
      λ p e t.
          subst (Rest p) (omega arith)
          (check-passes _ _ _ _ l.reader no_signal (omega (arith, s.loop-reader-test.true, e.count-is))
          (l.invariant.1 p e t) _ (s.judge_signal.ensures p e t) c.in_ok-judge_signal.was),
    )

pub returns : goal.returns
returns c =
    let l = c.loop-reader in
    λ p e t.
    check-ends _ _ _ _ l.reader
    (omega (arith, e.count-is, c.loop-reader-test.false)) (l.invariant.1 p e t)
