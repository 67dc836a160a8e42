-- The calls of a board as a caller makes them, in the course of time: each on the numbers that the last one left, and on the
-- images and the state that are lent, which may be changed from outside in between.
use Rattle.std.specs.Prelude.{ℕ, ◌+◌, ◌*◌, List, [], ◌∷◌, ◌≡◌, ℤ, pos, length}
use Rattle.model.specs.Says.Calls.{Call, cycle, after, log_after}
use Rattle.model.specs.Rules.Machine.{reset_of}
use Rattle.model.specs.Rules.Outcome.{Outcome, accepted}
use Rattle.board.specs.Board.{Yield, took, load_of, mark_place_of, turn_of}
use Rattle.board.specs.Events.{Event, load, mark, turn, change, Scene, NotLoaded}
use Rattle.board.specs.Numbers.{PartAt, StretchIs, OwnWords, OwnSamples, start_at, size_at}
use Rattle.board.specs.Record.{board_of, load_record, mark_record, turn_record}

-- The numbers of the record, and the images and the state that the next call is lent.
pub record NumberScene : Type 0 where
  pub numbers : List ℕ
  pub images : List ℕ
  pub state : List ℤ

-- What it stands for.
abbrev pub scene_of : NumberScene → Scene
scene_of m = record { board = board_of m.numbers; images = m.images; state = m.state }

-- What a load, a mark and a turn answer.
abbrev pub load_answer : NumberScene → ℕ → ℕ → ℕ → Outcome ℕ
load_answer m k start size = (load_of (board_of m.numbers) m.images m.state k start size).answer

abbrev pub mark_answer : NumberScene → ℕ → Outcome ℕ
mark_answer m k = (mark_place_of (board_of m.numbers) k).answer

abbrev pub turn_answer : NumberScene → List ℤ → Outcome Yield
turn_answer m samples = (turn_of (board_of m.numbers) m.images m.state samples).answer

-- What each leaves, by its contract; and what a list of events leaves.
unfoldable pub after_call : NumberScene → Event → NumberScene
after_call m (load k start size) =
    record {
      numbers = load_record m.numbers k start size (load_answer m k start size);
      images = m.images;
      state = (load_of (board_of m.numbers) m.images m.state k start size).left;
    }
after_call m (mark k) =
    record { numbers = mark_record m.numbers k (mark_answer m k); images = m.images; state = m.state }
after_call m (turn samples) =
    record {
      numbers = turn_record m.numbers (turn_answer m samples);
      images = m.images;
      state = (turn_of (board_of m.numbers) m.images m.state samples).left;
    }
after_call m (change images state) = record { numbers = m.numbers; images = images; state = state }

unfoldable pub after_calls : NumberScene → List Event → NumberScene
after_calls m [] = m
after_calls m (e ∷ es) = after_calls (after_call m e) es

-- The sum of what the events of a list count for; every event of a list does something.
unfoldable pub total_in : (Scene → Event → ℕ) → NumberScene → List Event → ℕ
total_in f m [] = 0
total_in f m (e ∷ es) = f (scene_of m) e + total_in f (after_call m e) es

unfoldable pub ThroughoutIn : (NumberScene → Event → Type 0) → NumberScene → List Event → Type 0
ThroughoutIn P m [] = Unit {0}
ThroughoutIn P m (e ∷ es) = P m e × ThroughoutIn P (after_call m e) es

-- Place k is not loaded again: a load that names it is refused.
abbrev pub NotLoadedIn : ℕ → NumberScene → Event → Type 0
NotLoadedIn k m e = NotLoaded k (scene_of m) e

-- Two lists have the same n elements from one on.
pub record SamePart {A : Type 0} (none : A) (from n : ℕ) (xs ys : List A) : Type 0 where
  pub part : List A
  pub before : PartAt none xs from n part
  pub after : PartAt none ys from n part

-- The stretch and the words of place k are not changed from outside, and it is not loaded again.
unfoldable pub UntouchedIn : ℕ → NumberScene → Event → Type 0
UntouchedIn k m (load j start size) = NotLoadedIn k m (load j start size)
UntouchedIn k m (mark j) = Unit {0}
UntouchedIn k m (turn samples) = Unit {0}
UntouchedIn k m (change images state) =
    SamePart 0 (start_at m.numbers k) (size_at m.numbers k) m.images images ×
    SamePart (pos 0) (65 * k) 65 m.state state

-- The event is a turn that ran place k.
abbrev pub RunsPlace : ℕ → NumberScene → Event → Type 0
RunsPlace k m (load j start size) = ⊥
RunsPlace k m (mark j) = ⊥
RunsPlace k m (turn samples) = (n : ℕ) × (turn_answer m samples ≡ accepted (took k (accepted n)))
RunsPlace k m (change images state) = ⊥

-- The cycles of the program of place k alone, and what they answered: one for each turn of a list that ran it, with the place's
-- samples.
pub data RunsOf (k : ℕ) : NumberScene → List Event → List Call → List (Outcome ℕ) → Type 0 where
  none : {m : NumberScene} → RunsOf k m [] [] []
  other : {m : NumberScene} {e : Event} {es : List Event} {cs : List Call} {os : List (Outcome ℕ)} → ¬ RunsPlace k m e →
      RunsOf k (after_call m e) es cs os → RunsOf k m (e ∷ es) cs os
  ran : {m : NumberScene} {samples own : List ℤ} {es : List Event} {cs : List Call} {os : List (Outcome ℕ)} →
      (r : RunsPlace k m (turn samples)) → OwnSamples k samples own → RunsOf k (after_call m (turn samples)) es cs os →
      RunsOf k m (turn samples ∷ es) (cycle own ∷ cs) (accepted r.0 ∷ os)

-- Place k from a load on that is not refused, its stretch and its words not changed from outside and it not loaded again: the
-- image loaded, its words before the load and after the events, the cycles of its program alone and what they answered.
pub record FromLoad (m : NumberScene) (k start size : ℕ) (es : List Event) (image : List ℕ) (old words : List ℤ)
    (cs : List Call) (os : List (Outcome ℕ)) : Type 0 where
  pub seventeen : length m.numbers ≡ 17
  pub loads : load_answer m k start size ≡ accepted 0
  pub untouched : ThroughoutIn (UntouchedIn k) (after_call m (load k start size)) es
  pub stretch : StretchIs m.images start size image
  pub before : OwnWords k m.state old
  pub after : OwnWords k (after_calls m (load k start size ∷ es)).state words
  pub runs : RunsOf k (after_call m (load k start size)) es cs os

-- The words of a place are those that a reset on its image alone and then these cycles leave, and none of them is refused.
pub record AsAlone (image : List ℕ) (old words : List ℤ) (cs : List Call) : Type 0 where
  pub resets : (reset_of image old).answer ≡ accepted 0
  pub words_are : words ≡ after image (reset_of image old).left cs
  pub cycles : length (log_after image (reset_of image old).left [] cs) ≡ length cs
