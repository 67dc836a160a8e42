-- Laws of the answers of the checks, and of their steps. Assumes nothing.
use Rattle.std.specs.Prelude.{Result, Ok, Err}
use Prim.Native.Nat.{ℕ, ◌≤◌}
use mathlib.Core.Bool.{true, and-eq-true_iff}
use mathlib.Core.List.{List}
use mathlib.Core.Path.{◌≡◌, sym, ◌∙◌}
use borrow.Author.Tests.{leb-true}
use lib.Dec.{leb}
use lib.ListN.{length}
use Rattle.model.specs.Rules.Compile.{short_enough, pair_of}
use Rattle.model.specs.Rules.Cover.{tabled}
use Rattle.model.specs.Rules.Outcome.{Outcome, accepted, refused, ◌▷◌, Parsed}
use Rattle.model.specs.Rules.Program.{least_factor, Program, parse_program}
use Rattle.model.specs.Rules.Rates.{declared_and_rated, hypercycle, linked}
use Rattle.model.specs.Rules.Schedule.{Schedule, Put, parse_schedule, placed}
use Rattle.model.proofs.Texts.Spelled.{declared}
use Rattle.model.proofs.Basics.Outcomes.{then-accepted, then-then, then_same, provided-true}
use Rattle.basics.specs.Judgement.{Answers}
use Rattle.basics.proofs.Judgements.{answers-ok}
use Rattle.text_program.specs.Tables.{ProgramReads, TablesOf, ReadsOf, SlotsOf, Stands}
use Rattle.model.specs.declared.Fault.{Fault}
use Rattle.text_program.specs.declared.Tables.{Tables}
use Rattle.text_schedule.specs.Slots.{ScheduledAs}
use Rattle.text_schedule.specs.declared.Slots.{Slots}
use Rattle.check_pair.specs.Groups.{rates_of, schedule_for, steps_of}

-- The reader's answer, in the form of the others.
pub program-answers : (o : Outcome Program) (reads : List ℕ) (r : Result Tables Fault) → ProgramReads o reads r →
    Answers (λ p t. TablesOf p t × ReadsOf p reads t.firsts) o r
unfolding Answers ProgramReads
program-answers (accepted p) reads r h = (h.0, h.1, (h.2, h.3))
program-answers (refused f) reads r h = h

-- The program that is read.
pub program-read : (text reads : List ℕ) (r : Result Tables Fault) (t : Tables) → ProgramReads (parse_program text) reads r →
    r ≡ Ok t → (p : Program) × (parse_program text ≡ accepted p) × Stands text reads t p
program-read text reads r t h e =
    let a = answers-ok _ _ _ _ (program-answers _ reads r h) e in (
      a.0,
      a.1,
      record { declares = declared least_factor text a.0 a.1; tables-are = a.2.0; reads-are = a.2.1 },
    )

-- The steps are those of the verdict.
rates-then : {B : Type 0} (p : Program) (next : ℕ → Outcome B) →
    rates_of p ▷ next ≡ declared_and_rated p ▷ λ _. hypercycle p ▷ λ h. linked p ▷ λ _. tabled p ▷ λ _. next h
unfolding rates_of ◌▷◌
rates-then p next =
    then-then (declared_and_rated p) _ next ∙
    then_same (declared_and_rated p) _ _ (λ _.
    then-then (hypercycle p) _ next ∙
    then_same (hypercycle p) _ _ (λ h.
    then-then (linked p) _ next ∙
    then_same (linked p) _ _ (λ _.
    then-then (tabled p) _ next)))

pub pair-steps : (program schedule : List ℕ) → pair_of program schedule ≡ steps_of program schedule
unfolding pair_of steps_of schedule_for
pair-steps program schedule =
    sym
    (then_same (short_enough program schedule) _ _ (λ _.
    then_same (parse_program program) _ _ (λ p.
    rates-then p _ ∙
    then_same (declared_and_rated p) _ _ (λ _.
    then_same (hypercycle p) _ _ (λ h.
    then_same (linked p) _ _ (λ _.
    then_same (tabled p) _ _ (λ _.
    then-then (parse_schedule schedule) _ _)))))))

-- What rates that pass, and a schedule, have passed.
pub rates-passed : (p : Program) (h : ℕ) → rates_of p ≡ accepted h →
    (declared_and_rated p ≡ accepted tt) × (hypercycle p ≡ accepted h) × (linked p ≡ accepted tt) ×
    (tabled p ≡ accepted tt)
unfolding rates_of
rates-passed p h e =
    let a = then-accepted (declared_and_rated p) _ h e in
    let b = then-accepted (hypercycle p) _ h a.2 in
    let l = then-accepted (linked p) _ h b.2 in
    let t = then-accepted (tabled p) _ h l.2 in
    (a.1, b.1 ∙ t.2, l.1, t.1)

pub schedule-passed : (p : Program) (text : List ℕ) (s : Schedule) → schedule_for p text ≡ accepted s →
    (puts : Parsed (List Put)) × (parse_schedule text ≡ accepted puts) × (placed p puts ≡ accepted s)
unfolding schedule_for
schedule-passed p text s e = then-accepted (parse_schedule text) _ s e

-- Texts that pass 1.
module _ (program schedule : List ℕ) (e : short_enough program schedule ≡ accepted tt) where
  both-short : (leb (length program) 8192 ≡ true) × (leb (length schedule) 193 ≡ true)
  unfolding short_enough
  both-short = (and-eq-true_iff (leb (length program) 8192) _).0 (provided-true _ 1 0 e)

  pub short-program : length program ≤ 8192
  short-program = leb-true _ _ both-short.0

  pub short-schedule : length schedule ≤ 193
  short-schedule = leb-true _ _ both-short.1
