-- The verdict is exact: two texts are accepted exactly under the conditions of the paper, and each refusal comes exactly under
-- its own, all earlier ones absent. Assumes nothing.
use Prim.Native.Nat.{ℕ, ◌≤◌}
use mathlib.Core.List.{List}
use mathlib.Core.Logic.{◌↔◌}
use mathlib.Core.Path.{◌≡◌, ◌∙◌}
use Rattle.model.specs.Says.Feasible.{Multiple}
use Rattle.model.specs.Rules.Compile.{short_enough, Pair, pair_of}
use Rattle.model.specs.Says.Grammar.{LegalWith, LegalProgram, LegalSchedule}
use Rattle.model.specs.Rules.Cover.{tabled}
use Rattle.model.specs.Rules.Latency.{timely}
use Rattle.model.specs.Rules.Load.{loaded}
use Rattle.model.specs.Rules.Outcome.{Outcome, accepted, refused, fault, ◌▷◌, Parsed}
use Rattle.model.specs.Rules.Program.{least_factor, Program, empty, parse_with, parse_program}
use Rattle.model.specs.Rules.Rates.{declared_and_rated, hypercycle, linked}
use Rattle.model.specs.Rules.Reads.{met}
use Rattle.model.specs.Rules.Schedule.{Schedule, Put, parse_schedule, placed}
use Rattle.theorems_pairs.specs.Conditions.{ShortEnough, DeclaredAndRated, LegalRates, LegalPlaces, LegalPair}
use Rattle.theorems_pairs.specs.Refusals.{RefusedAt}
use Rattle.theorems_texts.specs.Stops.{Stops, StopsPuts}
use Rattle.model.specs.declared.Fault.{Fault}
use Rattle.model.proofs.Basics.Outcomes.{accepted-then, refused-then}
use Rattle.theorems_pairs.proofs.Judged.{
  Judged,
  Answers,
  answers-then,
  answers-accepted,
  answers-refused,
  Only,
  short-judged,
  rated-judged,
  hypercycle-judged,
  linked-judged,
}
use Rattle.theorems_pairs.proofs.JudgedPuts.{PlacedFault, placed-judged}
use Rattle.theorems_pairs.proofs.JudgedRows.{tabled-judged}
use Rattle.theorems_pairs.proofs.JudgedRuns.{met-judged, loaded-judged, timely-judged}
use Rattle.model.proofs.Texts.Parses.{with-legal, schedule-legal}
use Rattle.theorems_texts.proofs.Stopped.{with-stops, schedule-stops}

-- 2 to 6.
pub text-judged : (least : ℕ) (text : List ℕ) →
    Judged (LegalWith least text) (Stops least text 0 0 empty) (parse_with least text)
text-judged least text = record { accepts = with-legal least text; refuses = with-stops least text }

program-judged : (text : List ℕ) → Judged (LegalProgram text) (Stops least_factor text 0 0 empty) (parse_program text)
program-judged text = text-judged least_factor text

-- 11.
schedule-judged : (text : List ℕ) →
    Judged (LegalSchedule text) (StopsPuts text 0) (parse_schedule text)
schedule-judged text = record { accepts = schedule-legal text; refuses = schedule-stops text }

-- The checks after 13, and those after 30.
abbrev after_places : Program → ℕ → Schedule → Outcome Pair
after_places p h s =
    met p s ▷ λ _. loaded p s h ▷ λ _. timely p s h ▷ λ _.
    accepted (record { program = p; schedule = s; hypercycle = h })

abbrev after_rates : List ℕ → Program → ℕ → Outcome Pair
after_rates schedule p h = parse_schedule schedule ▷ λ puts. placed p puts ▷ λ s. after_places p h s

module _ (program schedule : List ℕ) where
  Q : Pair → Type 0
  Q = LegalPair program schedule

  R : Fault → Type 0
  R = RefusedAt program schedule

  answers-runs : (p : Program) (h : ℕ) (s : Schedule) → LegalPlaces program schedule p h s → Answers Q R (after_places p h s)
  unfolding Q R
  answers-runs p h s c =
      answers-then Q R (met p s) _ (met-judged program schedule p h s c) (λ g f. RefusedAt.unmet c f) (λ u meets.
      answers-then Q R (loaded p s h) _ (loaded-judged p s h c.rates.hypercycle.multiple)
      (λ g f. RefusedAt.overloaded c meets f) (λ v loads.
      answers-then Q R (timely p s h) _ (timely-judged program schedule p h s c meets)
      (λ g f. RefusedAt.untimely c meets loads f) (λ w latencies.
      record { places = c; met = meets; loads = loads; latencies = latencies })))

  answers-schedule : (p : Program) (h : ℕ) → LegalRates program schedule p h → Answers Q R (after_rates schedule p h)
  unfolding Q R
  answers-schedule p h r =
      answers-then Q R (parse_schedule schedule) _ (schedule-judged schedule) (λ f s. RefusedAt.unread r s) (λ puts legal.
      answers-then Q R (placed p puts) _ (placed-judged p schedule puts legal) (λ g f. misplaced puts legal f) (λ s places.
      answers-runs p h s (record { rates = r; puts = puts; legal = legal; placed = places })))
    where
      misplaced : {f : Fault} (puts : Parsed (List Put)) → LegalSchedule schedule puts → PlacedFault p puts f →
          RefusedAt program schedule f
      misplaced puts legal (PlacedFault.put f) = RefusedAt.misplaced r legal f
      misplaced puts legal (PlacedFault.missing c x lt u) = RefusedAt.missing r legal c x lt u

  -- Whatever the verdict is, its condition holds.
  answers : Answers Q R (pair_of program schedule)
  unfolding pair_of Q R
  answers =
      answers-then Q R (short_enough program schedule) _ (short-judged program schedule) (λ g f. long f) (λ u short.
      answers-then Q R (parse_program program) _ (program-judged program) (λ g f. RefusedAt.stopped short f) (λ p legal.
      answers-then Q R (declared_and_rated p) _ (rated-judged program p legal) (λ g f. RefusedAt.unrated short legal f)
      (λ v rated.
      answers-then Q R (hypercycle p) _ (hypercycle-judged p) (λ g f. unbounded short legal rated f) (λ h least.
      answers-then Q R (linked p) _ (linked-judged p) (λ g f. RefusedAt.unlinked short legal rated least f) (λ w links.
      answers-then Q R (tabled p) _ (tabled-judged program p legal)
      (λ g f. RefusedAt.uncovered short legal rated least links f) (λ x table.
      answers-schedule p h
      (record { short = short; legal = legal; rated = rated; hypercycle = least; linked = links; tabled = table })))))))
    where
      long : {f : Fault} → Only 1 0 (¬ ShortEnough program schedule) f → RefusedAt program schedule f
      long (Only.only h) = RefusedAt.long h

      unbounded : {p : Program} {f : Fault} → ShortEnough program schedule → LegalProgram program p → DeclaredAndRated p →
          Only 9 0 ((h : ℕ) → h ≤ 240 → ¬ Multiple p h) f → RefusedAt program schedule f
      unbounded short legal rated (Only.only h) = RefusedAt.unbounded short legal rated h

  -- Where the conditions hold, the checks are passed.
  short-passed : ShortEnough program schedule → short_enough program schedule ≡ accepted tt
  short-passed c = ((short-judged program schedule).accepts tt).1 c

  rates-passed : {p : Program} {h : ℕ} → LegalRates program schedule p h → pair_of program schedule ≡ after_rates schedule p h
  unfolding pair_of
  rates-passed {p} {h} r =
      accepted-then _ _ _ (short-passed r.short) ∙
      accepted-then _ _ _ (((program-judged program).accepts p).1 r.legal) ∙
      accepted-then _ _ _ (((rated-judged program p r.legal).accepts tt).1 r.rated) ∙
      accepted-then _ _ _ (((hypercycle-judged p).accepts h).1 r.hypercycle) ∙
      accepted-then _ _ _ (((linked-judged p).accepts tt).1 r.linked) ∙
      accepted-then _ _ _ (((tabled-judged program p r.legal).accepts tt).1 r.tabled)

  places-passed : {p : Program} {h : ℕ} {s : Schedule} → LegalPlaces program schedule p h s →
      pair_of program schedule ≡ after_places p h s
  places-passed {p} {h} {s} c =
      rates-passed c.rates ∙
      accepted-then _ _ _ (((schedule-judged schedule).accepts c.puts).1 c.legal) ∙
      accepted-then _ _ _ (((placed-judged p schedule c.puts c.legal).accepts s).1 c.placed)

  legal-accepted : (q : Pair) → LegalPair program schedule q → pair_of program schedule ≡ accepted q
  legal-accepted q l =
      let c = l.places in
      let h = q.hypercycle in
      places-passed c ∙
      accepted-then _ _ _ (((met-judged program schedule _ h _ c).accepts tt).1 l.met) ∙
      accepted-then _ _ _ (((loaded-judged _ _ h c.rates.hypercycle.multiple).accepts tt).1 l.loads) ∙
      accepted-then _ _ _ (((timely-judged program schedule _ h _ c l.met).accepts tt).1 l.latencies)

  refused-back : {f : Fault} → RefusedAt program schedule f → pair_of program schedule ≡ refused f
  unfolding pair_of
  refused-back (RefusedAt.long u) = refused-then _ _ _ (((short-judged program schedule).refuses (fault 1 0)).1 (Only.only u))
  refused-back (RefusedAt.stopped short f) =
      accepted-then _ _ _ (short-passed short) ∙ refused-then _ _ _ (((program-judged program).refuses _).1 f)
  refused-back (RefusedAt.unrated {p = p} short legal f) =
      accepted-then _ _ _ (short-passed short) ∙
      accepted-then _ _ _ (((program-judged program).accepts p).1 legal) ∙
      refused-then _ _ _ (((rated-judged program p legal).refuses _).1 f)
  refused-back (RefusedAt.unbounded {p = p} short legal rated f) =
      accepted-then _ _ _ (short-passed short) ∙
      accepted-then _ _ _ (((program-judged program).accepts p).1 legal) ∙
      accepted-then _ _ _ (((rated-judged program p legal).accepts tt).1 rated) ∙
      refused-then _ _ _ (((hypercycle-judged p).refuses (fault 9 0)).1 (Only.only f))
  refused-back (RefusedAt.unlinked {h = h} {p = p} short legal rated least f) =
      accepted-then _ _ _ (short-passed short) ∙
      accepted-then _ _ _ (((program-judged program).accepts p).1 legal) ∙
      accepted-then _ _ _ (((rated-judged program p legal).accepts tt).1 rated) ∙
      accepted-then _ _ _ (((hypercycle-judged p).accepts h).1 least) ∙
      refused-then _ _ _ (((linked-judged p).refuses _).1 f)
  refused-back (RefusedAt.uncovered {h = h} {p = p} short legal rated least links f) =
      accepted-then _ _ _ (short-passed short) ∙
      accepted-then _ _ _ (((program-judged program).accepts p).1 legal) ∙
      accepted-then _ _ _ (((rated-judged program p legal).accepts tt).1 rated) ∙
      accepted-then _ _ _ (((hypercycle-judged p).accepts h).1 least) ∙
      accepted-then _ _ _ (((linked-judged p).accepts tt).1 links) ∙
      refused-then _ _ _ (((tabled-judged program p legal).refuses _).1 f)
  refused-back (RefusedAt.unread r f) =
      rates-passed r ∙ refused-then _ _ _ (((schedule-judged schedule).refuses _).1 f)
  refused-back (RefusedAt.misplaced {p = p} {puts = puts} r legal f) =
      rates-passed r ∙
      accepted-then _ _ _ (((schedule-judged schedule).accepts puts).1 legal) ∙
      refused-then _ _ _ (((placed-judged p schedule puts legal).refuses _).1 (PlacedFault.put f))
  refused-back (RefusedAt.missing {p = p} {puts = puts} r legal c x lt u) =
      rates-passed r ∙
      accepted-then _ _ _ (((schedule-judged schedule).accepts puts).1 legal) ∙
      refused-then _ _ _ (((placed-judged p schedule puts legal).refuses (fault 12 _)).1 (PlacedFault.missing c x lt u))
  refused-back (RefusedAt.unmet {h = h} {p = p} {s = s} c f) =
      places-passed c ∙ refused-then _ _ _ (((met-judged program schedule p h s c).refuses _).1 f)
  refused-back (RefusedAt.overloaded {h = h} {p = p} {s = s} c meets f) =
      places-passed c ∙
      accepted-then _ _ _ (((met-judged program schedule p h s c).accepts tt).1 meets) ∙
      refused-then _ _ _ (((loaded-judged p s h c.rates.hypercycle.multiple).refuses _).1 f)
  refused-back (RefusedAt.untimely {h = h} {p = p} {s = s} c meets loads f) =
      places-passed c ∙
      accepted-then _ _ _ (((met-judged program schedule p h s c).accepts tt).1 meets) ∙
      accepted-then _ _ _ (((loaded-judged p s h c.rates.hypercycle.multiple).accepts tt).1 loads) ∙
      refused-then _ _ _ (((timely-judged program schedule p h s c meets).refuses _).1 f)

  -- Two texts are accepted as the pair q exactly if they are legal and say q.
  pub accepted-exactly : (q : Pair) → (pair_of program schedule ≡ accepted q) ↔ LegalPair program schedule q
  unfolding Q R
  accepted-exactly q = (answers-accepted Q R (pair_of program schedule) q answers, legal-accepted q)

  -- They are refused with f, a number and a place, exactly under that number's condition.
  pub refused-exactly : (f : Fault) → (pair_of program schedule ≡ refused f) ↔ RefusedAt program schedule f
  unfolding Q R
  refused-exactly f = (answers-refused Q R (pair_of program schedule) f answers, refused-back)

  pub pair-judged : Judged (LegalPair program schedule) (RefusedAt program schedule) (pair_of program schedule)
  pair-judged = record { accepts = accepted-exactly; refuses = refused-exactly }
