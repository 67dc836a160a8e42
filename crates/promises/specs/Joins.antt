-- Request k: parts compiled alone, then joined.
use Rattle.std.specs.Prelude.{Option, ℕ, ◌+◌, ◌≤◌, ◌<◌, List, [], ◌∷◌, ◌↔◌, ◌≡◌, ℤ, length, take}
use Rattle.board.specs.Board.{place_words}
use Rattle.board.specs.Events.{Event, load, Scene, load_by, after_event, after_events, Throughout, Untouched, own_cycles}
use Rattle.board.specs.Calls.{NumberScene, FromLoad}
use Rattle.model.specs.Rules.Compile.{Pair, compile_of}
use Rattle.model.specs.Rules.Image.{image_of}
use Rattle.model.specs.Rules.Join.{parts_in, texts_at, program_text, schedule_text, links_of, joined_pair_of, part_named, join_of}
use Rattle.model.specs.Rules.Machine.{stretch, reset_of}
use Rattle.model.specs.Rules.Outcome.{Outcome, accepted, refused}
use Rattle.model.specs.Rules.Program.{Chain, count}
use Rattle.model.specs.Rules.Reads.{settled}
use Rattle.model.specs.Rules.Tail.{Bears}
use Rattle.model.specs.Rules.Word.{AreBytes}
use Rattle.model.specs.Says.Calls.{Call}
use Rattle.model.specs.declared.Fault.{Fault}
use Rattle.theorems_calls.specs.Exactness.{size_of}
use Rattle.theorems_joins.specs.Composed.{Composed}
use Rattle.theorems_joins.specs.Join.{LinkedSatisfies, TextsLent, JoinLegal, JoinRefused}
use Rattle.theorems_joins.specs.JoinExactness.{JoinExactly}
use Rattle.theorems_joins.specs.JoinLists.{JoinKept, JoinKeptBy, PartsAlike}
use Rattle.theorems_pairs.specs.Conditions.{◌among◌, KeepsTime}
use Rattle.theorems_streams.specs.Held.{log_by, Supplied, Holds}
use Rattle.theorems_streams.specs.Lists.{after_reset, Lent, owns, left_all, own_answers, own_log, OwnsBear, OthersRefused, SameWords}
use Rattle.theorems_streams.specs.Streams.{Satisfies}

-- Demand 3 for an accepted join, with the equations of all parts and links together.
pub record JoinForEver (texts numbers links : List ℕ) (q : Pair) (l : JoinLegal texts numbers links q) : Type 0 where
  -- The streams of the joined pair are those of all parts and links together: of each part its own, with element k of a linked
  -- input being element k of its signal.
  pub join-streams : (inputs X : ℕ → ℕ → ℤ) →
      Satisfies q.program (settled q.program q.schedule) inputs X ↔ LinkedSatisfies l.parts (links_of links) inputs X
  -- For any input elements such streams exist ..
  pub join-streams-exist : (inputs : ℕ → ℕ → ℤ) → (X : ℕ → ℕ → ℤ) × LinkedSatisfies l.parts (links_of links) inputs X
  -- .. and all others that satisfy the equations with these inputs have the same elements throughout.
  pub join-streams-unique : (inputs X Y : ℕ → ℕ → ℤ) → LinkedSatisfies l.parts (links_of links) inputs X →
      LinkedSatisfies l.parts (links_of links) inputs Y → (x j : ℕ) → x < count q.program → X x j ≡ Y x j
  -- A list starts from the state that a reset on the joined image, not refused, has just left; what holds of it.
  pub join-calls-hold : AreBytes texts → (tail lent : List ℕ) →
      Bears (image_of q.program q.schedule q.hypercycle) tail lent → (old : List ℤ) →
      (reset_of lent old).answer ≡ accepted 0 → (cs : List Call) → JoinKeptBy l.parts (links_of links) q lent old cs
  -- Between them may stand calls that are lent something else and are refused, a join among them.
  pub join-calls-among : AreBytes texts → (size : ℕ) (buffer tail : List ℕ) →
      Bears (image_of q.program q.schedule q.hypercycle) tail (take size buffer) → (old : List ℤ) →
      (reset_of (take size buffer) old).answer ≡ accepted 0 → (ls : List Lent) →
      OwnsBear (image_of q.program q.schedule q.hypercycle) buffer ls →
      let m = after_reset size buffer old in
      OthersRefused m ls →
      JoinKept l.parts (links_of links) q old (owns ls) (own_answers m ls) (own_log m [] ls) (left_all m ls).state
  -- So it is of a place of a board whose stretch holds the joined image, and which is not changed from outside ..
  pub join-place-streams : AreBytes texts → (s : Scene) (k start size n : ℕ) → length s.board.places ≡ 4 →
      (load_by s k start size).answer ≡ accepted n → (tail : List ℕ) →
      Bears (image_of q.program q.schedule q.hypercycle) tail (stretch s.images start (start + size)) →
      (es : List Event) → Throughout (Untouched k) (after_event s (load k start size)) es → (inputs X : ℕ → ℕ → ℤ) →
      let image = stretch s.images start (start + size) in
      let cycles = own_cycles k (after_event s (load k start size)) es in
      let old = place_words k s.state in
      Supplied q.program q.schedule (log_by image old cycles) inputs → LinkedSatisfies l.parts (links_of links) inputs X →
      Holds q.program q.schedule q.hypercycle X old (length cycles)
      (place_words k (after_events s (load k start size ∷ es)).state)
  -- .. also by the numbers of the record.
  pub numbers-join-place-streams : AreBytes texts → {m : NumberScene} {k start size : ℕ} {es : List Event} {image : List ℕ}
      {old words : List ℤ} {cs : List Call} {os : List (Outcome ℕ)} → FromLoad m k start size es image old words cs os →
      (tail : List ℕ) → Bears (image_of q.program q.schedule q.hypercycle) tail image →
      JoinKept l.parts (links_of links) q old cs os (log_by image old cs) words

-- Two accepted joins with the same links, of parts with the same programs that settle alike.
pub record JoinsAlike (texts numbers texts' numbers' links : List ℕ) (q q' : Pair) (l : JoinLegal texts numbers links q)
    (l' : JoinLegal texts' numbers' links q') : Type 0 where
  -- They have the same streams ..
  pub join-alike-streams : (inputs X : ℕ → ℕ → ℤ) → LinkedSatisfies l.parts (links_of links) inputs X →
      LinkedSatisfies l'.parts (links_of links) inputs X
  -- .. and where two lists both end holding one element of a signal, the same word.
  pub join-alike-words : AreBytes texts → AreBytes texts' →
      SameWords q.program q.schedule q'.schedule (image_of q.program q.schedule q.hypercycle)
      (image_of q'.program q'.schedule q'.hypercycle)

pub record RequestK : Type 0 where
  -- Accepted exactly if the text total, part count and buffers are kept, every part is accepted, links and rows are free of 31,
  -- the joined bounds and H hold, every link read is met and the joined load fits.
  pub join-accepted-exactly : (texts numbers links : List ℕ) (q : Pair) →
      (joined_pair_of texts numbers links ≡ accepted q) ↔ JoinLegal texts numbers links q
  -- Turned away by 1, 4, 27, then inside a part, which the refusal also names, then 31, then by the joined checks 4, 9, 14, 15.
  pub join-refused-exactly : (texts numbers links : List ℕ) (k : Option ℕ) (f : Fault) →
      ((joined_pair_of texts numbers links ≡ refused f) × (part_named texts numbers ≡ k)) ↔ JoinRefused texts numbers links k f
  -- Signals are renumbered part after part, PUTs follow in part order, the smallest CAP stands for all, and a linked IN becomes
  -- an EQ of weight 0, with the IN's period, initial word and label, that reads its signal by NOW.
  pub join-composed : (texts numbers links : List ℕ) (q : Pair) (l : JoinLegal texts numbers links q) →
      Composed l.parts (links_of links) q.program q.schedule
  -- The joined checks have no 16: every chain keeps its time.
  pub join-timely : (texts numbers links : List ℕ) (q : Pair) → JoinLegal texts numbers links q → AreBytes texts → (c : Chain) →
      c among q.program.chains → KeepsTime q.program q.schedule c
  -- Its image is the joined pair's; then 17. The call as one statement, what is left included.
  pub join-exactly : (texts numbers links image : List ℕ) → JoinExactly texts numbers links image
  -- A refused join changes nothing.
  pub join-keeps : (texts numbers links image : List ℕ) (f : Fault) → (join_of texts numbers links image).answer ≡ refused f →
      (join_of texts numbers links image).left ≡ image
  -- 24,679 bytes, the header's LARDERLATE_IMAGE_BYTES, hold what join writes for all accepted parts and links.
  pub join-bytes : (texts numbers links : List ℕ) → AreBytes texts → (q : Pair) →
      joined_pair_of texts numbers links ≡ accepted q → (image : List ℕ) → 24679 ≤ length image →
      (join_of texts numbers links image).answer ≡ accepted (size_of q)
  -- The join of one part without links answers and leaves what a compile of that part does.
  pub join-alone : (texts numbers : List ℕ) → TextsLent texts numbers → parts_in numbers ≡ 1 → (image : List ℕ) →
      let t = texts_at numbers 0 in
      join_of texts numbers [] image ≡ compile_of (program_text texts t) (schedule_text texts t) image
  -- Demand 3 holds for it with the equations of all parts and links together.
  pub of-join : (texts numbers links : List ℕ) (q : Pair) (l : JoinLegal texts numbers links q) →
      JoinForEver texts numbers links q l
  -- Two joins that settle alike.
  pub of-alike : (texts numbers texts' numbers' links : List ℕ) (q q' : Pair) (l : JoinLegal texts numbers links q)
      (l' : JoinLegal texts' numbers' links q') → PartsAlike l.parts l'.parts →
      JoinsAlike texts numbers texts' numbers' links q q' l l'
