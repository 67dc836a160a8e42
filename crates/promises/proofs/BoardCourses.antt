-- A place from its load on, by the numbers, is a course of the record that they stand for. Assumes nothing.
use Prim.Native.Nat.{ℕ, ◌+◌, ◌*◌, ◌≤◌, ◌<◌}
use mathlib.Core.Bool.{Bool, true, false, cond}
use mathlib.Core.List.{List, [], ◌∷◌}
use mathlib.Core.Logic.{◌⊎◌, inl, inr}
use mathlib.Core.Path.{◌≡◌, refl, sym, ap, ap₂, ◌∙◌}
use native.Mathlib.Decide.{dec_lt}
use native.Mathlib.Omega.{arith}
use borrow.Author.Tests.{eqb-true, eq-eqb}
use lib.Dec.{eqb}
use lib.IntN.{ℤ, pos}
use lib.ListN.{length, get_or, drop}
use lib.Seq.{get_or-take, get_or-drop, ext_get_or}
use Rattle.model.specs.Says.Calls.{Call}
use Rattle.model.specs.Says.Feasible.{Feasible, Multiple}
use Rattle.model.specs.Rules.Machine.{stretch}
use Rattle.model.specs.Rules.Outcome.{Outcome, accepted, refused}
use Rattle.model.specs.Rules.Program.{Program}
use Rattle.model.specs.Rules.Schedule.{Schedule}
use Rattle.model.specs.declared.Fault.{Fault}
use Rattle.model.proofs.Images.Bounds.{Bounded}
use Rattle.theorems_streams.specs.Held.{log_by, answers_by}
use Rattle.board.specs.Board.{place_words, place_samples, Yield, idle, took}
use Rattle.board.specs.Events.{
  Event,
  load,
  mark,
  turn,
  change,
  Scene,
  after_event,
  NotFailed,
  own_cycles,
}
use Rattle.board.specs.Calls.{
  NumberScene,
  scene_of,
  load_answer,
  mark_answer,
  turn_answer,
  after_call,
  after_calls,
  ThroughoutIn,
  RunsPlace,
  RunsOf,
  FromLoad,
}
use Rattle.board.specs.Record.{board_of, load_record, mark_record, turn_record}
use Rattle.promises.specs.Readers.{NumberReaders}
use Rattle.promises.specs.Scenes.{
  SceneBut,
  NumbersBut,
  OtherSamples,
  SamplesElsewhere,
  EventsBut,
  BoardAnswer,
  call,
  turned,
  answers_in,
  call_answers,
  NumbersConfined,
  run_answer,
  runs_among,
  run_answers,
  Course,
  course_image,
  words_before,
  Undisturbed,
  course_cycles,
  course_answers,
  course_log,
  course_words,
}
use Rattle.board.proofs.Words.{samples-length}
use Rattle.board.proofs.Numbers.{part-is, stretch-is}
use Rattle.promises.proofs.Confined.{confined}
use Rattle.promises.proofs.Courses.{course-alone, course-readers, board-readers}
use Rattle.board.proofs.Lists.{
  call-held,
  call_long,
  calls-held,
  runs-held,
  numbers-run-unless-changed,
  untouched,
  after-load,
  four,
}

-- The answers of the turns that ran a place are those of the turns that took it, where no run of it is refused.
module _ (k : ℕ) where
  not_taken : (o : Outcome Yield) (rest : List (Outcome ℕ)) → ¬ ((n : ℕ) × (o ≡ accepted (took k (accepted n)))) →
      ((f : Fault) → o ≡ accepted (took k (refused f)) → ⊥) → run_answer k o rest ≡ rest
  not_taken (accepted idle) rest no_run ok = refl
  not_taken (accepted (took j (accepted n))) rest no_run ok = go (eqb j k) refl
    where
      go : (t : Bool) → eqb j k ≡ t → cond t (accepted n ∷ rest) rest ≡ rest
      go true e = absurd (no_run (n, ap (λ (i : ℕ). accepted (took i (accepted n))) (eqb-true j k e)))
      go false e = refl
  not_taken (accepted (took j (refused f))) rest no_run ok = go (eqb j k) refl
    where
      go : (t : Bool) → eqb j k ≡ t → cond t (refused f ∷ rest) rest ≡ rest
      go true e = absurd (ok f (ap (λ (i : ℕ). accepted (took i (refused f))) (eqb-true j k e)))
      go false e = refl
  not_taken (refused f) rest no_run ok = refl

  answered : {m : NumberScene} {es : List Event} {cs : List Call} {os : List (Outcome ℕ)} → length m.numbers ≡ 17 →
      RunsOf k m es cs os → ThroughoutIn (λ n. NotFailed k (scene_of n)) m es → run_answers k (scene_of m) es ≡ os
  unfolding answers_in runs_among ThroughoutIn NotFailed
  answered long RunsOf.none ok = refl
  answered {m} long (RunsOf.other {e = e} {es = es} {os = os} no_run r) ok =
      skips e no_run ok.0 ∙ ap (λ (s : Scene). run_answers k s es) (sym (call-held m long e)) ∙
      answered (call_long m e long) r ok.1
    where
      skips : (e : Event) → ¬ RunsPlace k m e → NotFailed k (scene_of m) e →
          run_answers k (scene_of m) (e ∷ es) ≡ run_answers k (after_event (scene_of m) e) es
      skips (load j start size) h f = refl
      skips (mark j) h f = refl
      skips (turn samples) h f = not_taken (turn_answer m samples) _ h f
      skips (change images state) h f = refl
  answered {m} long (RunsOf.ran {samples = samples} {es = es} {os = os} (n, e) s r) ok =
      let rest = run_answers k (after_event (scene_of m) (turn samples)) es in
      ap (λ (o : Outcome Yield). run_answer k o rest) e ∙
      ap (λ (t : Bool). cond t (accepted n ∷ rest) rest) (eq-eqb k k refl) ∙
      ap (λ (x : List (Outcome ℕ)). accepted n ∷ x)
      (ap (λ (x : Scene). run_answers k x es) (sym (call-held m long (turn samples))) ∙
      answered (call_long m (turn samples) long) r ok.1)

-- The course, and what it is by the numbers.
abbrev pub course_of : NumberScene → ℕ → ℕ → ℕ → List Event → Course
course_of m k start size es = record { scene = scene_of m; place = k; start = start; size = size; events = es }

pub record CourseIs (c : Course) (image : List ℕ) (old words : List ℤ) (cs : List Call) (os : List (Outcome ℕ)) : Type 0 where
  pub undisturbed : Undisturbed c
  pub image-is : course_image c ≡ image
  pub answers-are : course_answers c ≡ os
  pub log_is : course_log c ≡ log_by image old cs
  pub words_are : course_words c ≡ words
  pub words-before : words_before c ≡ old
  pub cycles-are : course_cycles c ≡ cs

pub course-is : {m : NumberScene} {k start size : ℕ} {es : List Event} {image : List ℕ} {old words : List ℤ} {cs : List Call}
    {os : List (Outcome ℕ)} → FromLoad m k start size es image old words cs os →
    CourseIs (course_of m k start size es) image old words cs os
course-is {m} {k} {start} {size} {es} {image} {old} {words} {cs} {os} f =
    let long = f.seventeen in
    let loads = f.loads in
    let still = call_long m (load k start size) long in
    let loaded = after-load m long k start size loads in
    let i : stretch m.images start (start + size) ≡ image = stretch-is f.stretch in
    let o : place_words k m.state ≡ old = part-is (pos 0) m.state (65 * k) 65 f.before in
    let c : own_cycles k (after_event (scene_of m) (load k start size)) es ≡ cs =
    ap (λ (s : Scene). own_cycles k s es) (sym loaded) ∙ sym (runs-held k still f.runs) in
    record {
      undisturbed =
          record {
            four = four m long k start size loads;
            accepts = loads;
            untouched = untouched m long k start size loads es f.untouched;
          };
      image-is = i;
      answers-are =
          ap (λ (s : Scene). run_answers k s es) (sym loaded) ∙
          answered k still f.runs (numbers-run-unless-changed m long k start size loads es f.untouched);
      log_is = cc;
      words_are =
          ap (λ (s : Scene). place_words k s.state) (sym (calls-held m long (load k start size ∷ es))) ∙
          part-is (pos 0) (after_calls m (load k start size ∷ es)).state (65 * k) 65 f.after;
      words-before = o;
      cycles-are = c;
    }

-- Its turns answer what these cycles on its image alone answer.
pub answers-alone : {m : NumberScene} {k start size : ℕ} {es : List Event} {image : List ℕ} {old words : List ℤ}
    {cs : List Call} {os : List (Outcome ℕ)} → FromLoad m k start size es image old words cs os → answers_by image old cs ≡ os
answers-alone {m} {k} {start} {size} {es} f =
    let c = course-is f in
    rw (← c.image-is, ← c.words-before, ← c.cycles-are)
    (sym (course-alone (course_of m k start size es) c.undisturbed).answers ∙ c.answers-are)

-- Two scenes and two lists of events.
pub scenes-but : {k : ℕ} {m m' : NumberScene} → NumbersBut k m m' → SceneBut k (scene_of m) (scene_of m')
scenes-but b = record { board = ap board_of b.numbers; images = b.images; state = b.state }

other-samples : (k : ℕ) (samples samples' : List ℤ) → 256 ≤ length samples → 256 ≤ length samples' →
    SamplesElsewhere k samples samples' → OtherSamples k samples samples'
other-samples k samples samples' le le' same j lt ne =
    ext_get_or (pos 0) (place_samples j samples) (place_samples j samples')
    (samples-length j samples lt le ∙ sym (samples-length j samples' lt le'))
    (λ i l. at i (omega (arith, samples-length j samples lt le)))
  where
    apart : (i : ℕ) → i < 64 → Dec (j < k) → (64 * j + i < 64 * k) ⊎ (64 * k + 64 ≤ 64 * j + i)
    apart i l (yes h) = inl (omega arith)
    apart i l (no h) = inr (omega (arith, ne))

    at : (i : ℕ) → i < 64 → get_or (place_samples j samples) i (pos 0) ≡ get_or (place_samples j samples') i (pos 0)
    at i l =
        get_or-take 64 (drop (64 * j) samples) i (pos 0) l ∙ get_or-drop (64 * j) samples i (pos 0) ∙
        same (64 * j + i) (apart i l (dec_lt j k)) ∙
        sym (get_or-take 64 (drop (64 * j) samples') i (pos 0) l ∙ get_or-drop (64 * j) samples' i (pos 0))

pub events-but : {k : ℕ} {es es' : List Event} → EventsBut k (SamplesElsewhere k) es es' → EventsBut k (OtherSamples k) es es'
events-but EventsBut.none = EventsBut.none
events-but (EventsBut.loads j start size r) = EventsBut.loads j start size (events-but r)
events-but (EventsBut.marks j r) = EventsBut.marks j (events-but r)
events-but (EventsBut.few a b r) = EventsBut.few a b (events-but r)
events-but {k} (EventsBut.turns {samples = s} {samples' = s'} a b h r) =
    EventsBut.turns a b (other-samples k s s' a b h) (events-but r)
events-but (EventsBut.changes images s r) = EventsBut.changes images s (events-but r)

-- What the calls of a list answer, and the numbers that they leave.
answers-held : (m : NumberScene) → length m.numbers ≡ 17 → (es : List Event) → call_answers m es ≡ answers_in (scene_of m) es
unfolding call_answers answers_in
answers-held m long [] = refl
answers-held m long (e ∷ es) =
    first e (answers-held (after_call m e) (call_long m e long) es ∙ ap (λ (s : Scene). answers_in s es) (call-held m long e))
  where
    first : (e : Event) → call_answers (after_call m e) es ≡ answers_in (after_event (scene_of m) e) es →
        call_answers m (e ∷ es) ≡ answers_in (scene_of m) (e ∷ es)
    first (load j start size) h = ap (λ (xs : List BoardAnswer). call (load_answer m j start size) ∷ xs) h
    first (mark j) h = ap (λ (xs : List BoardAnswer). call (mark_answer m j) ∷ xs) h
    first (turn samples) h = ap (λ (xs : List BoardAnswer). turned (turn_answer m samples) ∷ xs) h
    first (change images state) h = h

numbers-same : {k : ℕ} {A : List ℤ → List ℤ → Type 0} {es es' : List Event} → EventsBut k A es es' → (m m' : NumberScene) →
    m.numbers ≡ m'.numbers → call_answers m es ≡ call_answers m' es' → (after_calls m es).numbers ≡ (after_calls m' es').numbers
unfolding call_answers after_calls after_call
numbers-same EventsBut.none m m' e h = e
numbers-same (EventsBut.loads {es = es} {es' = es'} j start size r) m m' e h =
    let o : load_answer m j start size ≡ load_answer m' j start size = cc in
    numbers-same r (after_call m (load j start size)) (after_call m' (load j start size))
    (ap₂ (λ (w : List ℕ) (o : Outcome ℕ). load_record w j start size o) e o) (cc)
numbers-same (EventsBut.marks j r) m m' e h =
    let o : mark_answer m j ≡ mark_answer m' j = cc in
    numbers-same r (after_call m (mark j)) (after_call m' (mark j))
    (ap₂ (λ (w : List ℕ) (o : Outcome ℕ). mark_record w j o) e o) (cc)
numbers-same (EventsBut.few {samples = s} {samples' = s'} a b r) m m' e h =
    let o : turn_answer m s ≡ turn_answer m' s' = cc in
    numbers-same r (after_call m (turn s)) (after_call m' (turn s')) (ap₂ turn_record e o) (cc)
numbers-same (EventsBut.turns {samples = s} {samples' = s'} a b x r) m m' e h =
    let o : turn_answer m s ≡ turn_answer m' s' = cc in
    numbers-same r (after_call m (turn s)) (after_call m' (turn s')) (ap₂ turn_record e o) (cc)
numbers-same (EventsBut.changes {state = s} {state' = s'} images x r) m m' e h =
    numbers-same r (after_call m (change images s)) (after_call m' (change images s')) e h

pub numbers-confined : {k : ℕ} {m m' : NumberScene} {es es' : List Event} → length m.numbers ≡ 17 → NumbersBut k m m' →
    EventsBut k (SamplesElsewhere k) es es' → NumbersConfined k m m' es es'
numbers-confined {k} {m} {m'} {es} {es'} long but alike =
    let long' : length m'.numbers ≡ 17 = ap length (sym but.numbers) ∙ long in
    let c = confined (scenes-but but) (events-but alike) in
    let same : call_answers m es ≡ call_answers m' es' =
    answers-held m long es ∙ c.answers ∙ sym (answers-held m' long' es') in
    let left : SceneBut k (scene_of (after_calls m es)) (scene_of (after_calls m' es')) =
    rw (calls-held m long es, calls-held m' long' es') c.scene in
    record {
      answers = same;
      scene =
          record { numbers = numbers-same alike m m' but.numbers same; images = left.images; state = left.state };
    }

-- Request m by the numbers, of a program, schedule and hypercycle whose image the stretches hold.
module _ (p : Program) (q : Schedule) (h : ℕ) (acc : Feasible p q) (whole : Multiple p h) (bounded : Bounded p q h) where
  pub number-readers : NumberReaders p q h
  number-readers =
      record {
        numbers-only-readers =
            λ {m = m} {m' = m'} {k = k} {k' = k'} {start = start} {start' = start'} {size = size} {size' = size'} {es = es}
            {es' = es'} f f' tail tail' b b' many i.
            let c = course-is f in
            let c' = course-is f' in
            rw (← c.answers-are, ← c'.answers-are, ← c.log_is, ← c'.log_is, ← c.words_are, ← c'.words_are)
            ((course-readers p q h acc whole bounded).place-only-readers (course_of m k start size es)
            (course_of m' k' start' size' es') c.undisturbed c'.undisturbed tail tail' (rw c.image-is b)
            (rw c'.image-is b') (rw (c.answers-are, c'.answers-are) many) i);
        numbers-board-readers =
            λ {m = m} {m' = m'} {k = k} {start = start} {size = size} {es = es} {es' = es'} but alike f f' tail b i.
            let c = course-is f in
            let c' = course-is f' in
            rw (← c.answers-are, ← c'.answers-are, ← c.log_is, ← c'.log_is, ← c.words_are, ← c'.words_are)
            ((board-readers p q h acc whole bounded).board-only-readers (scene_of m) (scene_of m') k start size es es'
            (scenes-but but) (events-but alike) c.undisturbed c'.undisturbed.untouched tail (rw c.image-is b) i);
        numbers-board-words =
            λ {m = m} {m' = m'} {k = k} {start = start} {size = size} {es = es} {es' = es'} but i small alike f f' tail b y lt ne
            apart.
            let c = course-is f in
            let c' = course-is f' in
            rw (← c.words_are, ← c'.words_are)
            ((board-readers p q h acc whole bounded).board-words (scene_of m) (scene_of m') k start size es es' (scenes-but but) i
            small alike c.undisturbed c'.undisturbed.untouched tail (rw c.image-is b) y lt ne apart);
      }
