-- `check_rates::judge_reads` meets its contract. Assumes nothing.
use Prim.Native.Nat.{ℕ, ◌-◌, ◌≤◌}
use mathlib.Core.Path.{refl, subst}
use native.Mathlib.Omega.{arith}
use borrow.Author.Rules.{rules}
use Rattle.model.specs.Rules.Outcome.{lowest}
use Rattle.model.specs.Rules.Program.{Program, no_signal}
use Rattle.text_program.specs.Tables.{PeriodsOf, Indexes}
use Rattle.text_program.proofs.InTurn.{Left, check-starts, check-passes, check-refuses, check-ends}
use Rattle.text_program.proofs.Rising.{signal_places, rising-program}
use Rattle.check_rates.specs.Rates.{signal_rates, read_rates}
use Rattle.check_rates.proofs.Judging.{signal-at}
use Rattle.check_rates.proofs.judge_reads.Given as goal

-- What is left of the signals from x on.
abbrev pub Rest : Program → ℕ → Type 0
Rest p x = Left signal_places (λ s σ. signal_rates p σ) (lowest (read_rates p)) p.signals x

abbrev pub invariant-loop-reader : goal.invariant-loop-reader
invariant-loop-reader l =
    (l.reader ≤ l.count) ×
    ((p : Program) → Indexes l.text l.reads l.firsts l.count p → PeriodsOf p l.periods → Rest p l.reader)
