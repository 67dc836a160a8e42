-- What happens to a board in the course of time: calls, each with the record as the one before left it, and changes from outside
-- of the images and the state that are lent.
use Rattle.std.specs.Prelude.{ℕ, ◌+◌, ◌/◌, ◌≤◌, cond, List, [], ◌∷◌, ◌≡◌, leb, eqb, ℤ, pos, length, get_or}
use Rattle.model.specs.Says.Calls.{Call, cycle}
use Rattle.model.specs.Rules.Machine.{stretch}
use Rattle.model.specs.Rules.Outcome.{Outcome, accepted, refused, fault}
use Rattle.model.specs.declared.Fault.{Fault}
use Rattle.board.specs.Board.{
  place_at,
  place_words,
  place_samples,
  load_of,
  mark_place_of,
  turn_of,
  BoardEffect,
  Yield,
  idle,
  took,
}
use Rattle.board.specs.Board.{Board}

-- A load names its place and stretch, a mark its place, a turn is lent samples; a change gives the images and the state that
-- are lent from then on.
pub data Event : Type 0 where
  load : ℕ → ℕ → ℕ → Event
  mark : ℕ → Event
  turn : List ℤ → Event
  change : List ℕ → List ℤ → Event

-- The record, and the images and the state that the next call is lent.
pub record Scene : Type 0 where
  pub board : Board
  pub images : List ℕ
  pub state : List ℤ

-- What a load, a mark and a turn make of a scene; what a turn answers.
abbrev pub load_by : Scene → ℕ → ℕ → ℕ → BoardEffect ℕ
load_by s k start size = load_of s.board s.images s.state k start size

abbrev pub mark_by : Scene → ℕ → BoardEffect ℕ
mark_by s k = mark_place_of s.board k

abbrev pub turn_by : Scene → List ℤ → BoardEffect Yield
turn_by s samples = turn_of s.board s.images s.state samples

abbrev pub turn_in : Scene → List ℤ → Outcome Yield
turn_in s samples = (turn_by s samples).answer

-- The scene after an event, and after a list of them.
unfoldable pub after_event : Scene → Event → Scene
after_event s (load k start size) =
    record { board = (load_by s k start size).board; images = s.images; state = (load_by s k start size).left }
after_event s (mark k) = record { board = (mark_by s k).board; images = s.images; state = s.state }
after_event s (turn samples) =
    record { board = (turn_by s samples).board; images = s.images; state = (turn_by s samples).left }
after_event s (change images state) = record { board = s.board; images = images; state = state }

unfoldable pub after_events : Scene → List Event → Scene
after_events s [] = s
after_events s (e ∷ es) = after_events (after_event s e) es

-- The call of an event is refused.
unfoldable pub CallRefused : Scene → Event → Fault → Type 0
CallRefused s (load k start size) f = (load_by s k start size).answer ≡ refused f
CallRefused s (mark k) f = (mark_by s k).answer ≡ refused f
CallRefused s (turn samples) f = turn_in s samples ≡ refused f
CallRefused s (change images state) f = ⊥

-- The sum of what the events of a list count for, each in the scene that it finds.
unfoldable pub total_of : (Scene → Event → ℕ) → Scene → List Event → ℕ
total_of f s [] = 0
total_of f s (e ∷ es) = f s e + total_of f (after_event s e) es

-- A turn that is not refused (21, 23).
abbrev pub not_refused : Outcome Yield → ℕ
not_refused (accepted y) = 1
not_refused (refused f) = 0

unfoldable pub is_turn : Scene → Event → ℕ
is_turn s (load k start size) = 0
is_turn s (mark k) = 0
is_turn s (turn samples) = not_refused (turn_in s samples)
is_turn s (change images state) = 0

-- A turn that takes place k, its run refused or not.
abbrev pub takes_place : ℕ → Outcome Yield → ℕ
takes_place k (accepted idle) = 0
takes_place k (accepted (took j o)) = cond (eqb j k) 1 0
takes_place k (refused f) = 0

unfoldable pub is_taken_at : ℕ → Scene → Event → ℕ
is_taken_at k s (load j start size) = 0
is_taken_at k s (mark j) = 0
is_taken_at k s (turn samples) = takes_place k (turn_in s samples)
is_taken_at k s (change images state) = 0

-- Every event of a list does something, each in the scene that it finds.
unfoldable pub Throughout : (Scene → Event → Type 0) → Scene → List Event → Type 0
Throughout P s [] = Unit {0}
Throughout P s (e ∷ es) = P s e × Throughout P (after_event s e) es

-- Place k is not loaded again: a load that names it is refused.
unfoldable pub NotLoaded : ℕ → Scene → Event → Type 0
NotLoaded k s (load j start size) = j ≡ k → (f : Fault) × CallRefused s (load j start size) f
NotLoaded k s (mark j) = Unit {0}
NotLoaded k s (turn samples) = Unit {0}
NotLoaded k s (change images state) = Unit {0}

-- The bytes of a place's stretch.
abbrev pub image_at : Board → List ℕ → ℕ → List ℕ
image_at b images k = stretch images (place_at b k).start ((place_at b k).start + (place_at b k).size)

-- The stretch and the words of place k are not changed from outside, and it is not loaded again.
unfoldable pub Untouched : ℕ → Scene → Event → Type 0
Untouched k s (load j start size) = NotLoaded k s (load j start size)
Untouched k s (mark j) = Unit {0}
Untouched k s (turn samples) = Unit {0}
Untouched k s (change images state) =
    (image_at s.board images k ≡ image_at s.board s.images k) × (place_words k state ≡ place_words k s.state)

-- The event is a call that loads, marks or takes place k.
unfoldable pub OfPlace : ℕ → Scene → Event → Type 0
OfPlace k s (load j start size) = j ≡ k
OfPlace k s (mark j) = j ≡ k
OfPlace k s (turn samples) = (o : Outcome ℕ) × (turn_in s samples ≡ accepted (took k o))
OfPlace k s (change images state) = ⊥

-- Scene t is scene s but for place k: word i of the state belongs to place i / 65, those beyond the four places to none.
pub record Elsewhere (k : ℕ) (s t : Scene) : Type 0 where
  pub images : t.images ≡ s.images
  pub size : length t.state ≡ length s.state
  pub words : (i : ℕ) → (i / 65 ≡ k → ⊥) → get_or t.state i (pos 0) ≡ get_or s.state i (pos 0)
  pub places : (j : ℕ) → (j ≡ k → ⊥) → place_at t.board j ≡ place_at s.board j

-- What a run is refused by: 27, 20 or 22.
pub data RunFault (f : Fault) : Type 0 where
  outside : f ≡ fault 27 0 → RunFault f
  bad-image : f ≡ fault 20 0 → RunFault f
  bad-position : f ≡ fault 22 0 → RunFault f

-- No turn finds the run of place k refused.
unfoldable pub NotFailed : ℕ → Scene → Event → Type 0
NotFailed k s (load j start size) = Unit {0}
NotFailed k s (mark j) = Unit {0}
NotFailed k s (turn samples) = (f : Fault) → turn_in s samples ≡ accepted (took k (refused f)) → ⊥
NotFailed k s (change images state) = Unit {0}

-- The cycles of that place's program alone: one for each turn that ran it, with the place's samples.
abbrev pub own_cycle : ℕ → List ℤ → Outcome Yield → List Call → List Call
own_cycle k samples (accepted idle) calls = calls
own_cycle k samples (accepted (took j (accepted n))) calls = cond (eqb j k) (cycle (place_samples k samples) ∷ calls) calls
own_cycle k samples (accepted (took j (refused f))) calls = calls
own_cycle k samples (refused f) calls = calls

unfoldable pub own_cycles : ℕ → Scene → List Event → List Call
own_cycles k s [] = []
own_cycles k s (load j start size ∷ es) = own_cycles k (after_event s (load j start size)) es
own_cycles k s (mark j ∷ es) = own_cycles k (after_event s (mark j)) es
own_cycles k s (turn samples ∷ es) = own_cycle k samples (turn_in s samples) (own_cycles k (after_event s (turn samples)) es)
own_cycles k s (change images state ∷ es) = own_cycles k (after_event s (change images state)) es

-- A count held at its maximum.
abbrev pub held : ℕ → ℕ
held n = cond (leb n 4294967295) n 4294967295

-- The same as an order of numbers.
pub record Held (n h : ℕ) : Type 0 where
  pub small : n ≤ 4294967295 → h ≡ n
  pub large : 4294967295 ≤ n → h ≡ 4294967295
