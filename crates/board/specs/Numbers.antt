-- What the numbers of a record say, and what is a place's own, in the paper's words: by these the calls of a board are judged.
use Rattle.std.specs.Prelude.{ℕ, ◌+◌, ◌*◌, ◌≤◌, ◌<◌, List, ◌⊎◌, ◌≡◌, ℤ, pos, length, get_or}

-- The n elements of a list from one on: element i is element from + i, and none is missing. `none` is what stands past an end.
pub record PartAt {A : Type 0} (none : A) (whole : List A) (from n : ℕ) (part : List A) : Type 0 where
  pub inside : from + n ≤ length whole
  pub size : length part ≡ n
  pub elements : (i : ℕ) → i < n → get_or part i none ≡ get_or whole (from + i) none

-- The bytes of a stretch of the images; the 65 words and the 64 samples of place k, in place order.
abbrev pub StretchIs : List ℕ → ℕ → ℕ → List ℕ → Type 0
StretchIs images start size image = PartAt 0 images start size image

abbrev pub OwnWords : ℕ → List ℤ → List ℤ → Type 0
OwnWords k state words = PartAt (pos 0) state (65 * k) 65 words

abbrev pub OwnSamples : ℕ → List ℤ → List ℤ → Type 0
OwnSamples k samples own = PartAt (pos 0) samples (64 * k) 64 own

-- The state with these words for place k: every other word stays.
pub record WordsSet (k : ℕ) (state words left : List ℤ) : Type 0 where
  pub size : length left ≡ length state
  pub own : OwnWords k left words
  pub others : (i : ℕ) → (i < 65 * k) ⊎ (65 * k + 65 ≤ i) → get_or left i (pos 0) ≡ get_or state i (pos 0)

-- The four numbers of place k: its flags, start, size and count; and the place last taken.
module _ (numbers : List ℕ) where
  module _ (k : ℕ) where
    abbrev pub flags_at : ℕ
    flags_at = get_or numbers (4 * k) 0

    abbrev pub start_at : ℕ
    start_at = get_or numbers (4 * k + 1) 0

    abbrev pub size_at : ℕ
    size_at = get_or numbers (4 * k + 2) 0

    abbrev pub count_at : ℕ
    count_at = get_or numbers (4 * k + 3) 0

  abbrev pub last_of : ℕ
  last_of = get_or numbers 16 0

-- Flags have 1 where the place is loaded, and 2 where it is due.
pub record Loaded (flags : ℕ) : Type 0 where
  pub rest : ℕ
  pub is : flags ≡ 1 + 2 * rest

pub record Due (flags : ℕ) : Type 0 where
  pub low : ℕ
  pub high : ℕ
  pub one : low < 2
  pub is : flags ≡ low + 2 + 4 * high

-- The numbers with these for place k and for the place last taken: those of the other places stay.
pub record PlaceSet (k flags start size count last : ℕ) (numbers left : List ℕ) : Type 0 where
  pub long : length left ≡ length numbers
  pub flags-are : flags_at left k ≡ flags
  pub start_is : start_at left k ≡ start
  pub size_is : size_at left k ≡ size
  pub count-is : count_at left k ≡ count
  pub last-is : last_of left ≡ last
  pub others : (i : ℕ) → i < 16 → (i < 4 * k) ⊎ (4 * k + 4 ≤ i) → get_or left i 0 ≡ get_or numbers i 0

-- Place k once it is loaded with a stretch: not due, its count 0; once it is marked.
abbrev pub LoadedSet : ℕ → ℕ → ℕ → List ℕ → List ℕ → Type 0
LoadedSet k start size numbers left = PlaceSet k 1 start size 0 (last_of numbers) numbers left

abbrev pub MarkedSet : ℕ → List ℕ → List ℕ → Type 0
MarkedSet k numbers left =
    PlaceSet k 3 (start_at numbers k) (size_at numbers k) (count_at numbers k) (last_of numbers) numbers left

-- Flags without the due mark.
pub record Cleared (flags left : ℕ) : Type 0 where
  pub loaded : Loaded flags → left ≡ 1
  pub vacant : ¬ Loaded flags → left ≡ 0

-- One more in a count of 32 bits, held at its maximum. Of a number that no call left the low 32 bits count.
pub record Counted (number left : ℕ) : Type 0 where
  pub count : ℕ
  pub high : ℕ
  pub bits : count ≤ 4294967295
  pub is : number ≡ count + 4294967296 * high
  pub below : count < 4294967295 → left ≡ count + 1
  pub most : count ≡ 4294967295 → left ≡ 4294967295

-- Place k once a turn has taken it: its mark cleared, its turn counted, and it is the place last taken.
pub record TakenSet (k : ℕ) (numbers left : List ℕ) : Type 0 where
  pub cleared : Cleared (flags_at numbers k) (flags_at left k)
  pub counted : Counted (count_at numbers k) (count_at left k)
  pub set : PlaceSet k (flags_at left k) (start_at numbers k) (size_at numbers k) (count_at left k) k numbers left

-- Place j comes d places after the one last taken, in cyclic order: 0 after 3.
pub record Ahead (last d j : ℕ) : Type 0 where
  pub place : j < 4
  pub rounds : ℕ
  pub is : last + d ≡ j + 4 * rounds

-- The next due place in cyclic order after the one last taken, which comes last itself: no place between the two is due.
pub record NextPlace (numbers : List ℕ) (k : ℕ) : Type 0 where
  pub distance : ℕ
  pub some : 1 ≤ distance
  pub most : distance ≤ 4
  pub ahead : Ahead (last_of numbers) distance k
  pub due : Due (flags_at numbers k)
  pub between : (d j : ℕ) → 1 ≤ d → d < distance → Ahead (last_of numbers) d j → ¬ Due (flags_at numbers j)

abbrev pub NoneDue : List ℕ → Type 0
NoneDue numbers = (j : ℕ) → j < 4 → ¬ Due (flags_at numbers j)
