-- What each call comes to: it is refused and changes nothing, or it does its job. Assumes nothing.
use Rattle.std.specs.Prelude.{Option, Some, None}
use Prim.Native.Nat.{ℕ, ◌<◌}
use mathlib.Core.Bool.{Bool, true, false}
use mathlib.Core.List.{List, []}
use mathlib.Core.Path.{◌≡◌, refl, sym, ap, ◌∙◌}
use borrow.Author.Tests.{ltb-true}
use lib.Dec.{leb, ltb}
use lib.IntN.{ℤ}
use lib.ListN.{length}
use Rattle.model.specs.Rules.Machine.{Effect}
use Rattle.model.specs.Rules.Outcome.{Outcome, accepted, refused}
use Rattle.model.specs.declared.Fault.{Fault}
use Rattle.board.specs.Board.{
  place_at,
  place_words,
  with_words,
  loaded_at,
  marked_at,
  taken_at,
  next_due,
  reset_in,
  run_of,
  BoardEffect,
  Yield,
  idle,
  took,
  turn_with,
}
use Rattle.board.specs.Events.{Scene, load_by, mark_by, turn_by, turn_in}
use Rattle.board.proofs.Called.{
  board_refusal,
  board_done,
  load-place,
  load-state,
  load-refused,
  load-done,
  mark-place,
  mark-loaded,
  mark-done,
  turn-state,
  turn-samples,
  turn-done,
}

abbrev pub call_answer : BoardEffect ℕ → Outcome ℕ
call_answer c = c.answer

abbrev pub turn_answer : BoardEffect Yield → Outcome Yield
turn_answer c = c.answer

-- The reset of a load, and the run of a turn that takes place k.
abbrev pub reset_by : Scene → ℕ → ℕ → ℕ → Effect ℕ ℤ
reset_by s k start size = reset_in s.images start size (place_words k s.state)

abbrev pub run_by : Scene → List ℤ → ℕ → Effect ℕ ℤ
run_by s samples k = run_of s.board s.images s.state samples k

pub data LoadCase (s : Scene) (k start size : ℕ) : Type 0 where
  load-stays : (f : Fault) → load_by s k start size ≡ board_refusal f s.board s.state → LoadCase s k start size
  load_does : k < 4 → leb 260 (length s.state) ≡ true → (n : ℕ) → (reset_by s k start size).answer ≡ accepted n →
      load_by s k start size ≡
      board_done n (loaded_at s.board k start size) (with_words k s.state (reset_by s k start size).left) →
      LoadCase s k start size

pub data MarkCase (s : Scene) (k : ℕ) : Type 0 where
  mark-stays : (f : Fault) → mark_by s k ≡ board_refusal f s.board [] → MarkCase s k
  mark-does : k < 4 → (place_at s.board k).loaded ≡ true → mark_by s k ≡ board_done 0 (marked_at s.board k) [] → MarkCase s k

pub data TurnCase (s : Scene) (samples : List ℤ) : Type 0 where
  turn-stays : (f : Fault) → turn_by s samples ≡ board_refusal f s.board s.state → TurnCase s samples
  turn-idles : next_due s.board ≡ None → turn_by s samples ≡ board_done idle s.board s.state → TurnCase s samples
  turn-takes : (k : ℕ) → next_due s.board ≡ Some k → leb 260 (length s.state) ≡ true → leb 256 (length samples) ≡ true →
      turn_by s samples ≡
      board_done (took k (run_by s samples k).answer) (taken_at s.board k) (with_words k s.state (run_by s samples k).left) →
      TurnCase s samples

pub load-case : (s : Scene) (k start size : ℕ) → LoadCase s k start size
load-case s k start size = place (ltb k 4) refl
  where
    ran : ltb k 4 ≡ true → leb 260 (length s.state) ≡ true → (o : Outcome ℕ) → (reset_by s k start size).answer ≡ o →
        LoadCase s k start size
    ran p q (accepted n) h =
        load_does (ltb-true k 4 p) q n h (load-done s.board s.images s.state k start size p q n h)
    ran p q (refused f) h = load-stays f (load-refused s.board s.images s.state k start size p q f h)

    words : ltb k 4 ≡ true → (t : Bool) → leb 260 (length s.state) ≡ t → LoadCase s k start size
    words p true q = ran p q (reset_by s k start size).answer refl
    words p false q = load-stays _ (load-state s.board s.images s.state k start size p q)

    place : (t : Bool) → ltb k 4 ≡ t → LoadCase s k start size
    place true p = words p (leb 260 (length s.state)) refl
    place false p = load-stays _ (load-place s.board s.images s.state k start size p)

pub mark-case : (s : Scene) (k : ℕ) → MarkCase s k
mark-case s k = place (ltb k 4) refl
  where
    loaded : ltb k 4 ≡ true → (t : Bool) → (place_at s.board k).loaded ≡ t → MarkCase s k
    loaded p true q = mark-does (ltb-true k 4 p) q (mark-done s.board k p q)
    loaded p false q = mark-stays _ (mark-loaded s.board k p q)

    place : (t : Bool) → ltb k 4 ≡ t → MarkCase s k
    place true p = loaded p (place_at s.board k).loaded refl
    place false p = mark-stays _ (mark-place s.board k p)

pub turn-case : (s : Scene) (samples : List ℤ) → TurnCase s samples
unfolding turn_with
turn-case s samples = words (leb 260 (length s.state)) refl
  where
    due : leb 260 (length s.state) ≡ true → leb 256 (length samples) ≡ true → (d : Option ℕ) → next_due s.board ≡ d →
        TurnCase s samples
    due p q (Some k) h = turn-takes k h p q (turn-done s.board s.images s.state samples p q (Some k) h)
    due p q None h = turn-idles h (turn-done s.board s.images s.state samples p q None h)

    lent : leb 260 (length s.state) ≡ true → (t : Bool) → leb 256 (length samples) ≡ t → TurnCase s samples
    lent p true q = due p q (next_due s.board) refl
    lent p false q = turn-stays _ (turn-samples s.board s.images s.state samples p q)

    words : (t : Bool) → leb 260 (length s.state) ≡ t → TurnCase s samples
    words true p = lent p (leb 256 (length samples)) refl
    words false p = turn-stays _ (turn-state s.board s.images s.state samples p)

-- A turn that has come to an effect answers what that answers.
pub answered : (s : Scene) (samples : List ℤ) {y : Yield} {c : BoardEffect Yield} → turn_in s samples ≡ accepted y →
    turn_by s samples ≡ c → c.answer ≡ accepted y
answered s samples h e = sym (ap turn_answer e) ∙ h
