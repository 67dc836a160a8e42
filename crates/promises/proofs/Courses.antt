-- Two courses of a place that differ only in the elements of one input of its program. Assumes nothing.
use Prim.Native.Nat.{ℕ, ◌+◌, ◌≤◌, ◌<◌}
use mathlib.Core.List.{List, [], ◌∷◌}
use mathlib.Core.Path.{◌≡◌, sym, ap, subst, ◌∙◌}
use native.Mathlib.Omega.{arith}
use lib.ListN.{length}
use Rattle.model.specs.Says.Calls.{Call, reset, cycle}
use Rattle.model.specs.Says.Feasible.{All, Feasible, Multiple}
use Rattle.model.specs.Rules.Machine.{stretch, reset_of}
use Rattle.model.specs.Rules.Outcome.{accepted}
use Rattle.model.specs.Rules.Program.{Program, count}
use Rattle.model.specs.Rules.Schedule.{Schedule}
use Rattle.model.specs.Rules.Tail.{Bears}
use Rattle.theorems_streams.specs.Dependence.{AlikeCalls}
use Rattle.theorems_streams.specs.Held.{state_by, answers_by}
use Rattle.board.specs.Events.{Event, Scene, after_event, Throughout, Untouched}
use Rattle.board.specs.Board.{Board}
use Rattle.promises.specs.Readers.{CourseReaders, BoardReaders}
use Rattle.promises.specs.Scenes.{
  SceneBut,
  OtherSamples,
  EventsBut,
  BoardAnswer,
  runs_among,
  Course,
  after_load,
  course_image,
  words_before,
  Undisturbed,
  course_cycles,
  course_answers,
  course_words,
}
use Rattle.model.proofs.Images.Bounds.{Bounded}
use Rattle.theorems_streams.proofs.Dependence.{runs-apart, lent-agree}
use Rattle.board.proofs.Intact.{load-leaves-place}
use Rattle.board.proofs.Promises.{place-alone, runs-unless-changed}
use Rattle.promises.proofs.Confined.{load_same, after-load, confined}
use Rattle.promises.proofs.Runs.{runs_own, answers-length, Enough, own-enough}
use Rattle.promises.proofs.Samples.{except-but, own-lent}

-- A course of a place is a run of its image alone: its reset, its answers and the words left.
pub record RunsAlone (c : Course) : Type 0 where
  pub below : c.place < 4
  pub resets : (reset_of (course_image c) (words_before c)).answer ≡ accepted 0
  pub answers : course_answers c ≡ answers_by (course_image c) (words_before c) (course_cycles c)
  pub words : course_words c ≡ state_by (course_image c) (words_before c) (course_cycles c)

pub course-alone : (c : Course) → Undisturbed c → RunsAlone c
unfolding after_event
course-alone c u =
    let s = c.scene in
    let k = c.place in
    let l = load-leaves-place s k c.start c.size 0 u.four u.accepts in
    record {
      below = l.below;
      resets = l.reset;
      answers =
          runs_own k l.below (after_load c) c.events (course_image c) (reset_of (course_image c) (words_before c)).left
          l.image l.words u.untouched
          (runs-unless-changed s k c.start c.size 0 u.four u.accepts c.events u.untouched);
      words = place-alone s k c.start c.size 0 u.four u.accepts c.events u.untouched;
    }

-- Cycles that are lent 64 samples are alike.
alike-cycles : (p : Program) → count p ≤ 64 → (cs cs' : List Call) → All Enough cs → All Enough cs' → length cs ≡ length cs' →
    AlikeCalls p cs cs'
alike-cycles p few [] [] h h' e = AlikeCalls.none
alike-cycles p few [] (c ∷ cs) h h' e = absurd (omega arith)
alike-cycles p few (c ∷ cs) [] h h' e = absurd (omega arith)
alike-cycles p few (reset ∷ cs) (c' ∷ cs') h h' e = absurd h.0
alike-cycles p few (cycle samples ∷ cs) (reset ∷ cs') h h' e = absurd h'.0
alike-cycles p few (cycle samples ∷ cs) (cycle samples' ∷ cs') h h' e =
    let l : count p ≤ length samples = omega (arith, h.0) in
    let l' : count p ≤ length samples' = omega (arith, h'.0) in
    AlikeCalls.runs l l' (alike-cycles p few cs cs' h.1 h'.1 (omega arith))

-- The cycles of two courses of as many runs.
courses-alike : (p : Program) → count p ≤ 64 → (c c' : Course) → RunsAlone c → RunsAlone c' →
    length (course_answers c) ≡ length (course_answers c') → AlikeCalls p (course_cycles c) (course_cycles c')
courses-alike p few c c' a a' many =
    alike-cycles p few (course_cycles c) (course_cycles c') (own-enough c.place a.below (after_load c) c.events)
    (own-enough c'.place a'.below (after_load c') c'.events) (sym (length-is c a) ∙ many ∙ length-is c' a')
  where
    length-is : (d : Course) → RunsAlone d → length (course_answers d) ≡ length (course_cycles d)
    length-is d l =
        ap length l.answers ∙
        answers-length (course_image d) (reset_of (course_image d) (words_before d)).left (course_cycles d)

-- On a board whose events are the same but for the samples of place k, it is loaded and run as often.
module _ (s s' : Scene) (k start size : ℕ) (es es' : List Event) (but : SceneBut k s s')
    (alike : EventsBut k (OtherSamples k) es es') where
  abbrev course : Course
  course = record { scene = s; place = k; start = start; size = size; events = es }

  abbrev course' : Course
  course' = record { scene = s'; place = k; start = start; size = size; events = es' }

  also-undisturbed : Undisturbed course → Throughout (Untouched k) (after_load course') es' → Undisturbed course'
  also-undisturbed u free =
      record {
        four = ap (λ (b : Board). length b.places) (sym but.board) ∙ u.four;
        accepts = sym (load_same k s s' but k start size).answer ∙ u.accepts;
        untouched = free;
      }

  as-often : length (course_answers course) ≡ length (course_answers course')
  as-often =
      ap (λ (answers : List BoardAnswer). length (runs_among k answers))
      (confined (after-load k s s' but k start size) alike).answers

  also-bears : {image tail : List ℕ} → Bears image tail (course_image course) → Bears image tail (course_image course')
  also-bears {image} {tail} bears =
      subst (λ (images : List ℕ). Bears image tail (stretch images start (start + size))) but.images bears

-- A program, schedule and hypercycle whose image the stretches hold.
module _ (p : Program) (q : Schedule) (h : ℕ) (acc : Feasible p q) (whole : Multiple p h) (bounded : Bounded p q h) where
  pub course-readers : CourseReaders p q h
  course-readers =
      record {
        place-only-readers = λ c c' u u' tail tail' bears bears' many i.
            let a = course-alone c u in
            let a' = course-alone c' u' in
            rw (a.answers, a'.answers, a.words, a'.words)
            (runs-apart p q h acc whole bounded bears bears' (words_before c) (words_before c') a.resets a'.resets i
            (course_cycles c) (course_cycles c') (courses-alike p bounded.signals c c' a a' many));
      }

  pub board-readers : BoardReaders p q h
  board-readers =
      record {
        board-only-readers = λ s s' k start size es es' but alike u free tail bears.
            course-readers.place-only-readers (course s s' k start size es es' but alike)
            (course' s s' k start size es es' but alike) u (also-undisturbed s s' k start size es es' but alike u free) tail tail
            bears (also-bears s s' k start size es es' but alike bears) (as-often s s' k start size es es' but alike);
        board-words = λ s s' k start size es es' but i below except u free tail bears.
            let alike = except-but below except in
            let c = course s s' k start size es es' but alike in
            let c' = course' s s' k start size es es' but alike in
            let u' = also-undisturbed s s' k start size es es' but alike u free in
            let bears' = also-bears s s' k start size es es' but alike bears in
            let many = as-often s s' k start size es es' but alike in
            let a = course-alone c u in
            let a' = course-alone c' u' in
            (course-readers.place-only-readers c c' u u' tail tail bears bears' many i).words
            (lent-agree p q h acc whole bounded bears bears' (words_before c) (words_before c') a.resets a'.resets i
            (course_cycles c) (course_cycles c') (courses-alike p bounded.signals c c' a a' many)
            (own-lent k i a.below below (after_load c) (after_load c') (after-load k s s' but k start size) except));
      }
