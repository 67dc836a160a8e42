-- The judgement of a read by the tables of periods, phases and ranks.
use Rattle.std.specs.Prelude.{Result, Ok, Err, ℕ, ◌<◌, Bool, cond, List, [], ◌∷◌, ◌≡◌, ltb, get_or}
use Rattle.model.specs.Rules.Outcome.{Outcome, accepted, fault}
use Rattle.model.specs.Rules.Program.{Program, signal_at, body_reads}
use Rattle.model.specs.Rules.Rates.{declared_and_rated}
use Rattle.model.specs.Rules.Reads.{is_met}
use Rattle.model.specs.Rules.Schedule.{Schedule}
use Rattle.model.specs.Rules.Search.{join_from}
use Rattle.model.specs.declared.Fault.{Fault}
use Rattle.model.specs.declared.Kind.{Kind}
use Rattle.model.specs.declared.Sampled.{Sampled}
use Rattle.basics.specs.Judgement.{judgement_of}
use Rattle.text_program.specs.Tables.{PeriodsOf, SlotsOf, rate_at}
use Rattle.read_rule.specs.Lines.{Paced}
use Rattle.read_rule.specs.Reads.{met_by}
use Rattle.read_rule.specs.declared.Timing.{Timing}

-- The first n phases are below their periods.
abbrev pub Below : List ℕ → List ℕ → ℕ → Type 0
Below periods phases n = (x : ℕ) → x < n → get_or phases x 0 < get_or periods x 0

abbrev pub timing_at : List ℕ → List ℕ → ℕ → Timing
timing_at periods phases x = record { period = get_or periods x 0; phase = get_or phases x 0 }

-- A read in the equation of r keeps its period rule, and the phases are below the periods.
abbrev pub PacedAt : List ℕ → List ℕ → ℕ → Kind → Sampled → Type 0
PacedAt periods phases r kind x = Paced kind x (timing_at periods phases x.signal) (timing_at periods phases r)

-- A read of signal w in the equation of r is met.
abbrev pub is_met_at : List ℕ → List ℕ → List ℕ → ℕ → Kind → Sampled → Bool
is_met_at periods phases ranks r kind x =
    met_by kind x (rate_at periods phases x.signal) (rate_at periods phases r) (ltb (get_or ranks x.signal 0) (get_or ranks r 0))

-- A read at `at` in the equation of r, of n signals. What is not declared is another check's.
unfoldable pub read_met : List ℕ → List ℕ → List ℕ → ℕ → ℕ → ℕ → Kind → Sampled → Result (Unit {0}) Fault
read_met periods phases ranks n at r kind x =
    cond (ltb x.signal n)
    (cond (ltb r n) (cond (is_met_at periods phases ranks r kind x) (Ok tt) (Err (fault 14 at))) (Ok tt))
    (Ok tt)

-- The faults of the reads of signal r that are not met.
abbrev pub unmet : Program → Schedule → ℕ → List Fault
unmet p s r = join_from 0 (λ i ρ. cond (is_met p s r ρ) [] (fault 14 ρ.place ∷ [])) (body_reads (signal_at p r).body)

-- The answer is the definition's, for any schedule whose tables these are.
abbrev pub MetAs : Program → List ℕ → List ℕ → List ℕ → (Schedule → Outcome (Unit {0})) → Result (Unit {0}) Fault → Type 0
MetAs p periods phases ranks verdict r =
    (s : Schedule) (order : List ℕ) → declared_and_rated p ≡ accepted tt → PeriodsOf p periods → SlotsOf p s order phases ranks →
    r ≡ judgement_of (verdict s)
