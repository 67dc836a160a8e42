-- `check_rates::judge_signal` meets its contract. Assumes nothing.
use Prim.Native.Nat.{ℕ, ◌+◌, ◌-◌, ◌≤◌, ◌<◌}
use mathlib.Core.List.{List, [], ◌∷◌}
use mathlib.Core.Path.{◌≡◌, refl, sym, subst}
use native.Mathlib.Omega.{arith}
use lib.ListN.{length, get_or}
use borrow.Author.Rules.{rules}
use Rattle.model.specs.Rules.Outcome.{lowest}
use Rattle.model.specs.Rules.Program.{Program, Read, signal_at, body_reads}
use Rattle.model.specs.Rules.Rates.{read_faults}
use Rattle.basics.specs.Judgement.{judgement_of}
use Rattle.text_command.specs.Operator.{ReadStands}
use Rattle.text_program.specs.Tables.{PeriodsOf, Indexes, Indexed}
use Rattle.text_program.proofs.ByIndex.{no_read, read_at, all_seen, seen, in_table, read-stands, rises-at}
use Rattle.text_program.proofs.InTurn.{Left, check-starts, check-passes, check-refuses, check-ends, reads-in-turn}
use Rattle.check_rates.specs.Rates.{signal_rates}
use Rattle.check_rates.proofs.Judging.{read-at, one-read}
use Rattle.check_rates.proofs.judge_signal.Given as goal

-- What holds of every program that the text and the table are of.
abbrev pub Claim : List ℕ → List ℕ → List ℕ → ℕ → List ℕ → (Program → Type 0) → Type 0
Claim text reads firsts n periods C = (p : Program) → Indexes text reads firsts n p → PeriodsOf p periods → C p

-- What is left of the reads of signal x from read j on.
abbrev pub Rest : Program → ℕ → ℕ → Type 0
Rest p x j =
    Left (λ (ρ : Read). ρ.place ∷ []) (λ i ρ. read_faults p (signal_at p x) ρ) (lowest (signal_rates p (signal_at p x)))
    (body_reads (signal_at p x).body) j

abbrev pub invariant-loop-i : goal.invariant-loop-i
invariant-loop-i l =
    (get_or l.firsts l.reader 0 ≤ l.i) × (l.i ≤ l.end) ×
    Claim l.text l.reads l.firsts l.count l.periods (λ p. Rest p l.reader (l.i - get_or l.firsts l.reader 0))
