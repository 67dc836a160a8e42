-- The tables of a schedule, while its PUTs are gone through and after.
use Rattle.std.specs.Prelude.{Result, Ok, Err, ℕ, ◌+◌, ◌<◌, Bool, true, false, cond, not, List, [], ◌∷◌, map, ◌≡◌, leb, eqb, length, get_or, set}
use Rattle.model.specs.Rules.Outcome.{Outcome, accepted, refused, fault, Parsed}
use Rattle.model.specs.Rules.Program.{Program, count}
use Rattle.model.specs.Rules.Reads.{rank}
use Rattle.model.specs.Rules.Schedule.{Schedule, Put, is_put, put_phase, put_faults, placed}
use Rattle.model.specs.Rules.Search.{all_below}
use Rattle.model.specs.declared.Fault.{Fault}
use Rattle.model.specs.declared.ScheduleCommand.{ScheduleCommand}
use Rattle.model.specs.declared.ScheduleCommand.TheVariants as ScheduleCommand
use Rattle.text_program.specs.Tables.{PeriodsOf, SlotsOf}
use Rattle.basics.specs.Judgement.{Answers}
use Rattle.text_schedule.specs.declared.Slots.{Slots}

-- The judgement at a command that is no PUT; at a PUT nobody asks.
unfoldable pub end_judged : List ℕ → ℕ → ScheduleCommand → Result (Unit {0}) Fault
end_judged text at ScheduleCommand.EndsEarly = Err (fault 11 (length text))
end_judged text at ScheduleCommand.Unknown = Err (fault 11 at)
end_judged text at ScheduleCommand.End = cond (leb (length text) (at + 1)) (Ok tt) (Err (fault 11 (at + 1)))
end_judged text at (ScheduleCommand.Put signal phase) = Err (fault 11 at)

-- Every signal has a rank.
unfoldable pub all_ranked : List ℕ → ℕ → Bool
all_ranked ranks n = all_below n (λ x. not (eqb (get_or ranks x 0) 64))

abbrev pub signals_put : List Put → List ℕ
signals_put puts = map (λ q. q.signal) puts

-- What the tables say after some PUTs.
pub record SlotsAfter (done : List Put) (t : Slots) : Type 0 where
  pub puts-are : length done ≡ t.puts
  pub order_is : (j : ℕ) → j < length done → get_or t.order j 0 ≡ get_or (signals_put done) j 0
  pub unput : (x : ℕ) → x < 64 → is_put done x ≡ false → get_or t.ranks x 0 ≡ 64
  pub ranks-are : (x : ℕ) → x < 64 → is_put done x ≡ true → get_or t.ranks x 0 ≡ rank (signals_put done) x
  pub phases-are : (x : ℕ) → x < 64 → is_put done x ≡ true → get_or t.phases x 0 ≡ put_phase done x
  -- how many entries they have space for
  pub space : (length t.order ≡ 64) × (length t.phases ≡ 64) × (length t.ranks ≡ 64)

-- The tables with one PUT more.
abbrev pub put_added : Slots → ℕ → ℕ → Slots
put_added t signal phase =
    record {
      puts = t.puts + 1;
      order = set t.order t.puts signal;
      phases = set t.phases signal phase;
      ranks = set t.ranks signal t.puts;
    }

-- The judgement of a PUT that has these faults.
abbrev pub judged_by : List Fault → Result (Unit {0}) Fault
judged_by [] = Ok tt
judged_by (f ∷ fs) = Err f

-- The judgement of a PUT after those of the tables.
pub record PutJudged (t : Slots) (periods : List ℕ) (n : ℕ) (q : Put) (r : Result (Unit {0}) Fault) : Type 0 where
  pub judged : (p : Program) (done : List Put) → count p ≡ n → PeriodsOf p periods → SlotsAfter done t → length done < 64 →
      r ≡ judged_by (put_faults p done q)
  pub declared : r ≡ Ok tt → q.signal < n

-- The answer is the definition's refusal, or the tables are those of the schedule placed.
abbrev pub ScheduledAs : Program → Outcome Schedule → Result Slots Fault → Type 0
ScheduledAs p o r = Answers (λ s t. (t.puts ≡ length s.order) × SlotsOf p s t.order t.phases t.ranks) o r

abbrev pub Scheduled : Program → Parsed (List Put) → Result Slots Fault → Type 0
Scheduled p o r = ScheduledAs p (placed p o) r
