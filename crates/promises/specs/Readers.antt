-- Request m: an input reaches only its readers.
use Rattle.std.specs.Prelude.{ℕ, suc, ◌<◌, true, false, List, [], ◌↔◌, ◌≡◌, ℤ, pos, length, get_or, take}
use Rattle.board.specs.Events.{Event, Scene, Throughout, Untouched}
use Rattle.board.specs.Calls.{NumberScene, FromLoad}
use Rattle.model.specs.Rules.Compile.{Pair, pair_of}
use Rattle.model.specs.Rules.Dependents.{dependents, dependents_of}
use Rattle.model.specs.Rules.Image.{image_of}
use Rattle.model.specs.Rules.Join.{links_of}
use Rattle.model.specs.Rules.Machine.{reset_of}
use Rattle.model.specs.Rules.Outcome.{Outcome, accepted}
use Rattle.model.specs.Rules.Parts.{part_at}
use Rattle.model.specs.Rules.Program.{Read, Body, Program, count, signal_at, body_reads}
use Rattle.model.specs.Rules.Reads.{settled}
use Rattle.model.specs.Rules.Schedule.{Schedule}
use Rattle.model.specs.Rules.Tail.{Bears}
use Rattle.model.specs.Rules.Word.{AreBytes}
use Rattle.model.specs.Says.Calls.{Call}
use Rattle.promises.specs.Dependents.{MarksDependents, DependentsRefusedAt}
use Rattle.promises.specs.Scenes.{
  SceneBut,
  OtherSamples,
  SamplesExcept,
  EventsBut,
  Confined,
  Course,
  after_load,
  course_image,
  Undisturbed,
  course_answers,
  course_words,
  CoursesExcept,
  NumbersBut,
  SamplesElsewhere,
  NumbersConfined,
}
use Rattle.theorems_calls.specs.Exactness.{Exactly}
use Rattle.theorems_joins.specs.Join.{JoinLegal}
use Rattle.theorems_joins.specs.JoinDependence.{JoinSameExcept}
use Rattle.theorems_pairs.specs.Conditions.{◌among◌}
use Rattle.theorems_streams.specs.Dependence.{OccursIn, DependsOn, AlikeCalls, AgreeExcept, LentExcept, SameExcept, SameExceptBy}
use Rattle.theorems_streams.specs.Held.{state_by, log_by, answers_by, IsInput}
use Rattle.theorems_streams.specs.Lists.{after_reset, Lent, owns, left_all, own_answers, own_log, OwnsBear, OthersRefused}
use Rattle.theorems_streams.specs.Streams.{Satisfies}

-- Of an accepted pair.
pub record PairReaders (p : Program) (s : Schedule) (h : ℕ) : Type 0 where
  -- Which signals read input i, by itself or through other signals, is decided by a definition that computes.
  pub dependents-exactly : (i y : ℕ) → y < count p → (get_or (dependents p i) y false ≡ true) ↔ DependsOn p y i
  -- If two runs differ only in the elements of one input, every other signal that doesn't read it, by itself or through other
  -- signals, has the same elements ..
  pub streams-apart : (i : ℕ) (inputs inputs' X X' : ℕ → ℕ → ℤ) →
      ((x k : ℕ) → x < count p → IsInput (signal_at p x).body → ¬ (x ≡ i) → inputs x k ≡ inputs' x k) →
      Satisfies p (settled p s) inputs X → Satisfies p (settled p s) inputs' X' →
      (y j : ℕ) → y < count p → ¬ (y ≡ i) → ¬ DependsOn p y i → X y j ≡ X' y j
  -- .. and holds the same word after each cycle, and positions and command counts are the same: in two lists of calls that are
  -- alike call by call, each after a reset that is not refused, on any two states, the image with a tail or without.
  pub only-readers : (tail tail' lent lent' : List ℕ) → Bears (image_of p s h) tail lent → Bears (image_of p s h) tail' lent' →
      (old old' : List ℤ) → (reset_of lent old).answer ≡ accepted 0 → (reset_of lent' old').answer ≡ accepted 0 → (i : ℕ)
      (cs cs' : List Call) → AlikeCalls p cs cs' → (n : ℕ) →
      SameExceptBy p s i lent lent' old old' (take n cs) (take n cs')
  -- The elements differ only for input i if the cycles side by side are lent the same samples but for word i.
  pub lent-agree : (tail tail' lent lent' : List ℕ) → Bears (image_of p s h) tail lent → Bears (image_of p s h) tail' lent' →
      (old old' : List ℤ) → (reset_of lent old).answer ≡ accepted 0 → (reset_of lent' old').answer ≡ accepted 0 → (i : ℕ)
      (cs cs' : List Call) → AlikeCalls p cs cs' → LentExcept i cs cs' → (n : ℕ) →
      AgreeExcept p s i (log_by lent old (take n cs)) (log_by lent' old' (take n cs'))
  -- The same with calls in between that are lent something else and are refused, in either run.
  pub only-readers-among : (size size' : ℕ) (buffer buffer' tail tail' : List ℕ) →
      Bears (image_of p s h) tail (take size buffer) → Bears (image_of p s h) tail' (take size' buffer') → (old old' : List ℤ) →
      (reset_of (take size buffer) old).answer ≡ accepted 0 → (reset_of (take size' buffer') old').answer ≡ accepted 0 → (i : ℕ)
      (ls ls' : List Lent) → AlikeCalls p (owns ls) (owns ls') → OwnsBear (image_of p s h) buffer ls →
      OwnsBear (image_of p s h) buffer' ls' →
      let m = after_reset size buffer old in
      let m' = after_reset size' buffer' old' in
      OthersRefused m ls → OthersRefused m' ls' →
      SameExcept p s i (own_answers m ls) (own_answers m' ls') (own_log m [] ls) (own_log m' [] ls') (left_all m ls).state
      (left_all m' ls').state

-- On a board of four it is said of each place, its stretch and state not changed from outside: of two places ..
pub record CourseReaders (p : Program) (q : Schedule) (h : ℕ) : Type 0 where
  -- On one board or on two, after as many runs.
  pub place-only-readers : (c c' : Course) → Undisturbed c → Undisturbed c' → (tail tail' : List ℕ) →
      Bears (image_of p q h) tail (course_image c) → Bears (image_of p q h) tail' (course_image c') →
      length (course_answers c) ≡ length (course_answers c') → (i : ℕ) → CoursesExcept p q i c c'

-- .. of one place of a board in two courses of events that are the same but for its samples ..
pub record BoardReaders (p : Program) (q : Schedule) (h : ℕ) : Type 0 where
  -- The events may end after any of them.
  pub board-only-readers : (s s' : Scene) (k start size : ℕ) (es es' : List Event) → SceneBut k s s' →
      EventsBut k (OtherSamples k) es es' →
      let c : Course = record { scene = s; place = k; start = start; size = size; events = es } in
      let c' : Course = record { scene = s'; place = k; start = start; size = size; events = es' } in
      Undisturbed c → Throughout (Untouched k) (after_load c') es' → (tail : List ℕ) →
      Bears (image_of p q h) tail (course_image c) → (i : ℕ) → CoursesExcept p q i c c'
  -- Where the turns' samples differ only in word i of that place, every other signal of it that doesn't read i holds the same
  -- word.
  pub board-words : (s s' : Scene) (k start size : ℕ) (es es' : List Event) → SceneBut k s s' → (i : ℕ) → i < 64 →
      EventsBut k (SamplesExcept k i) es es' →
      let c : Course = record { scene = s; place = k; start = start; size = size; events = es } in
      let c' : Course = record { scene = s'; place = k; start = start; size = size; events = es' } in
      Undisturbed c → Throughout (Untouched k) (after_load c') es' → (tail : List ℕ) →
      Bears (image_of p q h) tail (course_image c) → (y : ℕ) → y < count p → ¬ (y ≡ i) → ¬ DependsOn p y i →
      get_or (course_words c) (suc y) (pos 0) ≡ get_or (course_words c') (suc y) (pos 0)

-- .. and of both by the numbers of the record, of a place from its load on.
pub record NumberReaders (p : Program) (q : Schedule) (h : ℕ) : Type 0 where
  -- Two places, after as many runs.
  pub numbers-only-readers : {m m' : NumberScene} {k k' start start' size size' : ℕ} {es es' : List Event}
      {image image' : List ℕ} {old old' words words' : List ℤ} {cs cs' : List Call} {os os' : List (Outcome ℕ)} →
      FromLoad m k start size es image old words cs os → FromLoad m' k' start' size' es' image' old' words' cs' os' →
      (tail tail' : List ℕ) → Bears (image_of p q h) tail image → Bears (image_of p q h) tail' image' → length os ≡ length os' →
      (i : ℕ) → SameExcept p q i os os' (log_by image old cs) (log_by image' old' cs') words words'
  -- One place in two courses of events.
  pub numbers-board-readers : {m m' : NumberScene} {k start size : ℕ} {es es' : List Event} {image image' : List ℕ}
      {old old' words words' : List ℤ} {cs cs' : List Call} {os os' : List (Outcome ℕ)} → NumbersBut k m m' →
      EventsBut k (SamplesElsewhere k) es es' → FromLoad m k start size es image old words cs os →
      FromLoad m' k start size es' image' old' words' cs' os' → (tail : List ℕ) → Bears (image_of p q h) tail image →
      (i : ℕ) → SameExcept p q i os os' (log_by image old cs) (log_by image' old' cs') words words'
  -- The turns' samples differ only in word i of that place.
  pub numbers-board-words : {m m' : NumberScene} {k start size : ℕ} {es es' : List Event} {image image' : List ℕ}
      {old old' words words' : List ℤ} {cs cs' : List Call} {os os' : List (Outcome ℕ)} → NumbersBut k m m' → (i : ℕ) →
      i < 64 → EventsBut k (SamplesExcept k i) es es' → FromLoad m k start size es image old words cs os →
      FromLoad m' k start size es' image' old' words' cs' os' → (tail : List ℕ) → Bears (image_of p q h) tail image →
      (y : ℕ) → y < count p → ¬ (y ≡ i) → ¬ DependsOn p y i → get_or words (suc y) (pos 0) ≡ get_or words' (suc y) (pos 0)

-- All of it, of places that hold the image of one program, schedule and hypercycle.
pub record PlaceReaders (p : Program) (q : Schedule) (h : ℕ) : Type 0 where
  pub courses : CourseReaders p q h
  pub boards : BoardReaders p q h
  pub numbers : NumberReaders p q h

pub record RequestM : Type 0 where
  -- An equation reads w exactly if w is the signal of one of its reads, those that are checked and met.
  pub reads-exactly : (b : Body) (w : ℕ) → OccursIn w b ↔ ((ρ : Read) × (ρ among body_reads b) × (ρ.operands.signal ≡ w))
  -- For an accepted pair.
  pub of_pair : (program schedule : List ℕ) → AreBytes program → (p : Program) (s : Schedule) (h : ℕ) →
      pair_of program schedule ≡ accepted (record { program = p; schedule = s; hypercycle = h }) → PairReaders p s h
  -- With joined parts this includes the reads made by links.
  pub join-only-readers : (texts numbers links : List ℕ) (q : Pair) (l : JoinLegal texts numbers links q) → AreBytes texts →
      (tail tail' lent lent' : List ℕ) → Bears (image_of q.program q.schedule q.hypercycle) tail lent →
      Bears (image_of q.program q.schedule q.hypercycle) tail' lent' → (old old' : List ℤ) →
      (reset_of lent old).answer ≡ accepted 0 → (reset_of lent' old').answer ≡ accepted 0 → (k i : ℕ) → k < length l.parts →
      i < count (part_at l.parts k).program → (cs cs' : List Call) → AlikeCalls q.program cs cs' → (n : ℕ) →
      JoinSameExcept l.parts (links_of links) q k i (answers_by lent old (take n cs)) (answers_by lent' old' (take n cs'))
      (log_by lent old (take n cs)) (log_by lent' old' (take n cs')) (state_by lent old (take n cs))
      (state_by lent' old' (take n cs'))
  -- On a board of four it is said of each place: of one that holds the image of an accepted pair ..
  pub of-place : (program schedule : List ℕ) → AreBytes program → (p : Program) (q : Schedule) (h : ℕ) →
      pair_of program schedule ≡ accepted (record { program = p; schedule = q; hypercycle = h }) → PlaceReaders p q h
  -- .. and of one that holds a joined image.
  pub of-join-place : (texts numbers links : List ℕ) → AreBytes texts → (q : Pair) → JoinLegal texts numbers links q →
      PlaceReaders q.program q.schedule q.hypercycle
  -- All else on such a board is the same, whatever images, samples and signals' words that place has: every call's answer, so
  -- that the places are taken in the same order with the same outcomes, the record, and all words but those signals'.
  pub place-confined : (k : ℕ) (s s' : Scene) (es es' : List Event) → SceneBut k s s' → EventsBut k (OtherSamples k) es es' →
      Confined k s s' es es'
  -- The same by the numbers, none of which differs either.
  pub numbers-place-confined : (k : ℕ) (m m' : NumberScene) (es es' : List Event) → length m.numbers ≡ 17 →
      NumbersBut k m m' → EventsBut k (SamplesElsewhere k) es es' → NumbersConfined k m m' es es'
  -- The signals that an input reaches, as the call dependents marks them: 1 of each signal that reads i, by itself or through
  -- others, 0 of every other of 64; refused as the pair is, or by 48 where i is no input, and then the marks stay.
  pub dependents-call : (program schedule : List ℕ) (i : ℕ) (marks : List ℕ) →
      Exactly marks (MarksDependents program schedule i) (DependentsRefusedAt program schedule i)
      (dependents_of program schedule i marks)
