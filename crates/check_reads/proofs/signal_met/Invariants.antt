-- `check_reads::signal_met` meets its contract. Assumes nothing.
use Prim.Native.Nat.{ℕ, ◌+◌, ◌-◌, ◌≤◌, ◌<◌}
use mathlib.Core.List.{List, [], ◌∷◌}
use mathlib.Core.Path.{◌≡◌, refl, sym, subst}
use native.Mathlib.Omega.{arith}
use lib.ListN.{length, get_or}
use borrow.Author.Rules.{rules}
use Rattle.model.specs.Rules.Outcome.{accepted, lowest}
use Rattle.model.specs.Rules.Program.{Program, Read, signal_at, body_reads}
use Rattle.model.specs.Rules.Rates.{declared_and_rated}
use Rattle.model.specs.Rules.Schedule.{Schedule}
use Rattle.basics.specs.Judgement.{judgement_of}
use Rattle.text_command.specs.Operator.{ReadStands}
use Rattle.text_program.specs.Tables.{PeriodsOf, SlotsOf, Indexes, Indexed}
use Rattle.text_program.proofs.ByIndex.{no_read, read_at, all_seen, seen, in_table, read-stands, rises-at}
use Rattle.text_program.proofs.InTurn.{Left, check-starts, check-passes, check-refuses, check-ends, reads-in-turn}
use Rattle.check_reads.specs.Met.{unmet}
use Rattle.check_reads.proofs.Judging.{read_fault, read-at, one-read}
use Rattle.check_reads.proofs.signal_met.Given as goal

-- What holds of every pair that the text and the tables are of.
abbrev pub Claim : (Program → Type 0) → List ℕ → List ℕ → List ℕ → (Program → Schedule → Type 0) → Type 0
Claim Known periods phases ranks C =
    (p : Program) → Known p → (s : Schedule) (order : List ℕ) → declared_and_rated p ≡ accepted tt →
    PeriodsOf p periods → SlotsOf p s order phases ranks → C p s

-- What is left of the reads of signal x from read j on.
abbrev pub Rest : Program → Schedule → ℕ → ℕ → Type 0
Rest p s x j =
    Left (λ (ρ : Read). ρ.place ∷ []) (λ i ρ. read_fault p s x ρ) (lowest (unmet p s x)) (body_reads (signal_at p x).body) j

abbrev pub invariant-loop-i : goal.invariant-loop-i
invariant-loop-i l =
    (get_or l.firsts l.reader 0 ≤ l.i) × (l.i ≤ l.end) ×
    Claim (Indexes l.text l.reads l.firsts l.signals) l.periods l.phases l.ranks (λ p s. Rest p s l.reader (l.i - get_or l.firsts l.reader 0))
