-- `check_reads::reads_met` meets its contract. Assumes nothing.
use Prim.Native.Nat.{ℕ, ◌-◌, ◌≤◌}
use mathlib.Core.List.{List}
use mathlib.Core.Path.{◌≡◌, refl, subst}
use native.Mathlib.Omega.{arith}
use borrow.Author.Rules.{rules}
use Rattle.model.specs.Rules.Outcome.{accepted}
use Rattle.model.specs.Rules.Program.{Program, no_signal, body_reads}
use Rattle.model.specs.Rules.Rates.{declared_and_rated}
use Rattle.model.specs.Rules.Reads.{met}
use Rattle.model.specs.Rules.Schedule.{Schedule}
use Rattle.model.specs.Rules.Search.{join_from}
use Rattle.text_program.specs.Tables.{PeriodsOf, SlotsOf, Indexes}
use Rattle.text_program.proofs.InTurn.{Left, check-starts, check-passes, check-refuses, check-ends}
use Rattle.text_program.proofs.Rising.{signal_places, rising-program}
use Rattle.check_reads.proofs.Judging.{read_fault, signal-at}
use Rattle.check_reads.proofs.reads_met.Given as goal

-- What is left of the signals from x on.
abbrev pub Rest : Program → Schedule → ℕ → Type 0
Rest p s x = Left signal_places (λ r σ. join_from 0 (λ i ρ. read_fault p s r ρ) (body_reads σ.body)) (met p s) p.signals x

abbrev pub invariant-loop-reader : goal.invariant-loop-reader
invariant-loop-reader l =
    (l.reader ≤ l.signals) ×
    ((p : Program) → Indexes l.text l.reads l.firsts l.signals p → (s : Schedule) (order : List ℕ) → declared_and_rated p ≡ accepted tt →
    PeriodsOf p l.periods → SlotsOf p s order l.phases l.ranks → Rest p s l.reader)
