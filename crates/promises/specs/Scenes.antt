-- Request m on a board: two courses of events that are alike but for the samples of one place, and what they have in common.
use Rattle.std.specs.Prelude.{ℕ, ◌+◌, ◌*◌, ◌≤◌, ◌<◌, cond, List, [], ◌∷◌, ◌⊎◌, ◌≡◌, eqb, ℤ, pos, length, get_or}
use Rattle.model.specs.Rules.Outcome.{Outcome, accepted, refused}
use Rattle.model.specs.Rules.Machine.{stretch}
use Rattle.model.specs.Rules.Program.{Program}
use Rattle.model.specs.Rules.Schedule.{Schedule}
use Rattle.model.specs.Says.Calls.{Call}
use Rattle.theorems_streams.specs.Dependence.{SameExcept}
use Rattle.theorems_streams.specs.Held.{log_by}
use Rattle.board.specs.Calls.{NumberScene, load_answer, mark_answer, turn_answer, after_call, after_calls}
use Rattle.board.specs.Board.{place_words, place_samples, Yield, idle, took}
use Rattle.board.specs.Events.{
  Event,
  load,
  mark,
  turn,
  change,
  Scene,
  load_by,
  mark_by,
  turn_in,
  after_event,
  after_events,
  Throughout,
  Untouched,
  own_cycles,
}

-- Word v of the state is a signal's of place k: of its 65 words, any but the first, which is its position.
abbrev pub SignalWord : ℕ → ℕ → Type 0
SignalWord k v = (65 * k < v) × (v < 65 * k + 65)

-- Two states, the same but for the signals' words of place k.
pub record StateBut (k : ℕ) (state state' : List ℤ) : Type 0 where
  pub size : length state ≡ length state'
  pub words : (v : ℕ) → ¬ SignalWord k v → get_or state v (pos 0) ≡ get_or state' v (pos 0)

-- Two scenes, the same but for these words: the whole record, the images and all other words.
pub record SceneBut (k : ℕ) (s s' : Scene) : Type 0 where
  pub board : s.board ≡ s'.board
  pub images : s.images ≡ s'.images
  pub state : StateBut k s.state s'.state

-- Two turns' samples: the same of every other place; the same but for word i of place k.
abbrev pub OtherSamples : ℕ → List ℤ → List ℤ → Type 0
OtherSamples k samples samples' = (j : ℕ) → j < 4 → ¬ (j ≡ k) → place_samples j samples ≡ place_samples j samples'

abbrev pub SamplesExcept : ℕ → ℕ → List ℤ → List ℤ → Type 0
SamplesExcept k i samples samples' =
    (v : ℕ) → ¬ (v ≡ 64 * k + i) → get_or samples v (pos 0) ≡ get_or samples' v (pos 0)

-- Two lists of events, the same but for the samples of turns and the signals' words of place k: the same loads and marks; turns
-- that are both lent fewer than 256 samples, or samples that are alike as given; changes from outside to the same images and all
-- other words.
pub data EventsBut (k : ℕ) (AlikeSamples : List ℤ → List ℤ → Type 0) : List Event → List Event → Type 0 where
  none : EventsBut k AlikeSamples [] []
  loads : {es es' : List Event} (j start size : ℕ) → EventsBut k AlikeSamples es es' →
      EventsBut k AlikeSamples (load j start size ∷ es) (load j start size ∷ es')
  marks : {es es' : List Event} (j : ℕ) → EventsBut k AlikeSamples es es' →
      EventsBut k AlikeSamples (mark j ∷ es) (mark j ∷ es')
  few : {es es' : List Event} {samples samples' : List ℤ} → length samples < 256 → length samples' < 256 →
      EventsBut k AlikeSamples es es' → EventsBut k AlikeSamples (turn samples ∷ es) (turn samples' ∷ es')
  turns : {es es' : List Event} {samples samples' : List ℤ} → 256 ≤ length samples → 256 ≤ length samples' →
      AlikeSamples samples samples' → EventsBut k AlikeSamples es es' →
      EventsBut k AlikeSamples (turn samples ∷ es) (turn samples' ∷ es')
  changes : {es es' : List Event} {state state' : List ℤ} (images : List ℕ) → StateBut k state state' →
      EventsBut k AlikeSamples es es' → EventsBut k AlikeSamples (change images state ∷ es) (change images state' ∷ es')

-- What a load or mark answers, and what a turn does: the place taken with its command count or refusal.
pub data BoardAnswer : Type 0 where
  call : Outcome ℕ → BoardAnswer
  turned : Outcome Yield → BoardAnswer

-- What the calls of a list answer, in order.
unfoldable pub answers_in : Scene → List Event → List BoardAnswer
answers_in s [] = []
answers_in s (load j start size ∷ es) =
    call (load_by s j start size).answer ∷ answers_in (after_event s (load j start size)) es
answers_in s (mark j ∷ es) = call (mark_by s j).answer ∷ answers_in (after_event s (mark j)) es
answers_in s (turn samples ∷ es) = turned (turn_in s samples) ∷ answers_in (after_event s (turn samples)) es
answers_in s (change images state ∷ es) = answers_in (after_event s (change images state)) es

-- What the runs of place k answer, in order: those of the turns that take it.
abbrev pub run_answer : ℕ → Outcome Yield → List (Outcome ℕ) → List (Outcome ℕ)
run_answer k (accepted idle) os = os
run_answer k (accepted (took j o)) os = cond (eqb j k) (o ∷ os) os
run_answer k (refused f) os = os

unfoldable pub runs_among : ℕ → List BoardAnswer → List (Outcome ℕ)
runs_among k [] = []
runs_among k (call o ∷ answers) = runs_among k answers
runs_among k (turned o ∷ answers) = run_answer k o (runs_among k answers)

abbrev pub run_answers : ℕ → Scene → List Event → List (Outcome ℕ)
run_answers k s es = runs_among k (answers_in s es)

-- The samples and the signals of place k reach nothing else: every call answers the same, so that the places are taken in the
-- same order with the same outcomes, and the scenes stay the same but for the signals' words of that place.
pub record Confined (k : ℕ) (s s' : Scene) (es es' : List Event) : Type 0 where
  pub answers : answers_in s es ≡ answers_in s' es'
  pub scene : SceneBut k (after_events s es) (after_events s' es')

-- A place from a load on: the scene before it, the stretch, and the events after it.
pub record Course : Type 0 where
  pub scene : Scene
  pub place : ℕ
  pub start : ℕ
  pub size : ℕ
  pub events : List Event

module _ (c : Course) where
  -- The load, and the scene after it; the image loaded, and the words before.
  abbrev pub loading : Event
  loading = load c.place c.start c.size

  abbrev pub after_load : Scene
  after_load = after_event c.scene loading

  abbrev pub course_image : List ℕ
  course_image = stretch c.scene.images c.start (c.start + c.size)

  abbrev pub words_before : List ℤ
  words_before = place_words c.place c.scene.state

  -- The load is not refused, and neither the stretch nor the words of the place are changed from outside after it.
  pub record Undisturbed : Type 0 where
    pub four : length c.scene.board.places ≡ 4
    pub accepts : (load_by c.scene c.place c.start c.size).answer ≡ accepted 0
    pub untouched : Throughout (Untouched c.place) after_load c.events

  -- The cycles of the place's program alone; what the runs of the place answered, the samples that they were lent, and the words
  -- that are left.
  abbrev pub course_cycles : List Call
  course_cycles = own_cycles c.place after_load c.events

  abbrev pub course_answers : List (Outcome ℕ)
  course_answers = run_answers c.place after_load c.events

  abbrev pub course_log : List (List ℤ)
  course_log = log_by course_image words_before course_cycles

  abbrev pub course_words : List ℤ
  course_words = place_words c.place (after_events c.scene (loading ∷ c.events)).state

-- Two courses, the same of their places but for input i: `SameExcept`, by what their runs answered and their place's words.
abbrev pub CoursesExcept : Program → Schedule → ℕ → Course → Course → Type 0
CoursesExcept p q i c c' =
    SameExcept p q i (course_answers c) (course_answers c') (course_log c) (course_log c') (course_words c) (course_words c')

-- By the numbers of a record: two scenes, the same but for the signals' words of place k; two turns' samples, the same but for
-- the 64 of place k.
pub record NumbersBut (k : ℕ) (m m' : NumberScene) : Type 0 where
  pub numbers : m.numbers ≡ m'.numbers
  pub images : m.images ≡ m'.images
  pub state : StateBut k m.state m'.state

abbrev pub SamplesElsewhere : ℕ → List ℤ → List ℤ → Type 0
SamplesElsewhere k samples samples' =
    (v : ℕ) → (v < 64 * k) ⊎ (64 * k + 64 ≤ v) → get_or samples v (pos 0) ≡ get_or samples' v (pos 0)

-- What the calls of a list on the numbers answer, in order.
unfoldable pub call_answers : NumberScene → List Event → List BoardAnswer
call_answers m [] = []
call_answers m (load j start size ∷ es) =
    call (load_answer m j start size) ∷ call_answers (after_call m (load j start size)) es
call_answers m (mark j ∷ es) = call (mark_answer m j) ∷ call_answers (after_call m (mark j)) es
call_answers m (turn samples ∷ es) = turned (turn_answer m samples) ∷ call_answers (after_call m (turn samples)) es
call_answers m (change images state ∷ es) = call_answers (after_call m (change images state)) es

-- `Confined` by the numbers.
pub record NumbersConfined (k : ℕ) (m m' : NumberScene) (es es' : List Event) : Type 0 where
  pub answers : call_answers m es ≡ call_answers m' es'
  pub scene : NumbersBut k (after_calls m es) (after_calls m' es')
