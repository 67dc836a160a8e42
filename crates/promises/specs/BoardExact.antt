-- When the calls of a board are done, when they are refused, and what they leave (requests h and i): on the numbers of the
-- record, the images, the state and the samples that a caller lends.
use Rattle.std.specs.Prelude.{ℕ, ◌+◌, ◌≤◌, ◌<◌, List, ◌↔◌, ◌≡◌, ℤ, length}
use Rattle.model.specs.Rules.Outcome.{Outcome, accepted, refused, fault}
use Rattle.model.specs.declared.Fault.{Fault}
use Rattle.theorems_calls.specs.Exactness.{Usable, Resets, Positioned, Cycles}
use Rattle.theorems_images.specs.WellFormed.{WellLent}
use Rattle.board.specs.Board.{Yield, idle, took}
use Rattle.board.specs.Calls.{NumberScene}
use Rattle.board.specs.Numbers.{
  StretchIs,
  OwnWords,
  OwnSamples,
  WordsSet,
  flags_at,
  start_at,
  size_at,
  Loaded,
  LoadedSet,
  MarkedSet,
  TakenSet,
  NextPlace,
  NoneDue,
}

-- A call yields a and leaves `left` exactly if `Done` says so. It is refused with f exactly if `Refused` says so, and then
-- leaves what was lent, the numbers included.
pub record CallExactly {A : Type 0} (m : NumberScene) (Done : A → NumberScene → Type 0) (Refused : Fault → Type 0)
    (answer : Outcome A) (after : NumberScene) : Type 0 where
  pub done : (a : A) (left : NumberScene) → ((answer ≡ accepted a) × (after ≡ left)) ↔ Done a left
  pub refuses : (f : Fault) (left : NumberScene) → ((answer ≡ refused f) × (after ≡ left)) ↔ (Refused f × (left ≡ m))

module _ (m : NumberScene) where
  module _ (k start size : ℕ) where
    -- A load is done: its place is reset, which yields 0, and holds the stretch.
    pub record Loads (n : ℕ) (left : NumberScene) : Type 0 where
      pub place : k < 4
      pub long : 260 ≤ length m.state
      pub image : List ℕ
      pub stretch : StretchIs m.images start size image
      pub old : List ℤ
      pub words : List ℤ
      pub own : OwnWords k m.state old
      pub resets : Resets image old n words
      pub numbers : LoadedSet k start size m.numbers left.numbers
      pub images : left.images ≡ m.images
      pub state : WordsSet k m.state words left.state

    -- It is refused: place above 3; fewer than 260 state words; stretch outside the images; image not well formed.
    pub data LoadRefusedAt : Fault → Type 0 where
      no_place : 4 ≤ k → LoadRefusedAt (fault 26 0)
      short : k < 4 → length m.state < 260 → LoadRefusedAt (fault 21 0)
      outside : k < 4 → 260 ≤ length m.state → length m.images < start + size → LoadRefusedAt (fault 27 0)
      unformed : {image : List ℕ} → k < 4 → 260 ≤ length m.state → StretchIs m.images start size image →
          ((i : List ℕ) → ¬ WellLent image i) → LoadRefusedAt (fault 20 0)

  module _ (k : ℕ) where
    -- A mark is done.
    pub record Marks (n : ℕ) (left : NumberScene) : Type 0 where
      pub place : k < 4
      pub loaded : Loaded (flags_at m.numbers k)
      pub is : n ≡ 0
      pub numbers : MarkedSet k m.numbers left.numbers
      pub images : left.images ≡ m.images
      pub state : left.state ≡ m.state

    -- It is refused: place above 3; place never loaded.
    pub data MarkRefusedAt : Fault → Type 0 where
      no_place : 4 ≤ k → MarkRefusedAt (fault 26 0)
      unloaded : k < 4 → ¬ Loaded (flags_at m.numbers k) → MarkRefusedAt (fault 28 0)

  module _ (samples : List ℤ) where
    -- What the run of place k is lent: its stretch of the images, its 65 words and its 64 samples.
    pub record RunLent (k : ℕ) (image : List ℕ) (words own : List ℤ) : Type 0 where
      pub stretch : StretchIs m.images (start_at m.numbers k) (size_at m.numbers k) image
      pub words_are : OwnWords k m.state words
      pub samples-are : OwnSamples k samples own

    -- It is refused: stretch outside the images; image not well formed; position outside 0 to H − 1.
    pub data RunRefusedAt (k : ℕ) : Fault → Type 0 where
      outside : length m.images < start_at m.numbers k + size_at m.numbers k → RunRefusedAt k (fault 27 0)
      unformed : {image : List ℕ} {words own : List ℤ} → RunLent k image words own → ((i : List ℕ) → ¬ WellLent image i) →
          RunRefusedAt k (fault 20 0)
      unpositioned : {image i : List ℕ} {words own : List ℤ} → RunLent k image words own → Usable image words i →
          ¬ Positioned image words i → RunRefusedAt k (fault 22 0)

    -- A turn takes place k: neither state nor samples are short, and k is the next due place.
    pub record Takes (k : ℕ) (left : NumberScene) : Type 0 where
      pub long : 260 ≤ length m.state
      pub enough : 256 ≤ length samples
      pub next : NextPlace m.numbers k
      pub numbers : TakenSet k m.numbers left.numbers
      pub images : left.images ≡ m.images

    -- A turn is done: idle, as nothing is due; or it takes a place and its run yields a command count, or is refused and leaves
    -- the state.
    pub data Turns : Yield → NumberScene → Type 0 where
      idles : {left : NumberScene} → 260 ≤ length m.state → 256 ≤ length samples → NoneDue m.numbers → left ≡ m →
          Turns idle left
      runs : {k n : ℕ} {image : List ℕ} {old own words : List ℤ} {left : NumberScene} → Takes k left →
          RunLent k image old own → Cycles image old own n words → WordsSet k m.state words left.state →
          Turns (took k (accepted n)) left
      fails : {k : ℕ} {f : Fault} {left : NumberScene} → Takes k left → RunRefusedAt k f → left.state ≡ m.state →
          Turns (took k (refused f)) left

    -- It is refused, and takes no place: fewer than 260 state words; fewer than 256 samples.
    pub data TurnRefusedAt : Fault → Type 0 where
      short : length m.state < 260 → TurnRefusedAt (fault 21 0)
      few : 260 ≤ length m.state → length samples < 256 → TurnRefusedAt (fault 23 0)
