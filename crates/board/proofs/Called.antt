-- What the board's calls answer and leave, by their tests. Assumes nothing.
use Rattle.std.specs.Prelude.{Option}
use Prim.Native.Nat.{ℕ}
use mathlib.Core.Bool.{true, false}
use mathlib.Core.List.{List, []}
use mathlib.Core.Path.{◌≡◌}
use lib.Dec.{leb, ltb}
use lib.IntN.{ℤ}
use lib.ListN.{length}
use Rattle.model.specs.Rules.Outcome.{accepted, refused, ◌▷◌, provided}
use Rattle.model.specs.declared.Fault.{Fault}
use Rattle.board.specs.Board.{
  place_at,
  place_words,
  with_words,
  loaded_at,
  marked_at,
  next_due,
  reset_in,
  BoardEffect,
  load_of,
  mark_place_of,
  turn_with,
  turn_of,
}
use Rattle.board.specs.Board.{Board}

-- a refusal leaves the record and the state as they were
abbrev pub board_refusal : {A : Type 0} → Fault → Board → List ℤ → BoardEffect A
board_refusal f b state = record { answer = refused f; board = b; left = state }

abbrev pub numbered : ℕ → Fault
numbered n = record { number = n; place = 0 }

abbrev pub board_done : {A : Type 0} → A → Board → List ℤ → BoardEffect A
board_done a b state = record { answer = accepted a; board = b; left = state }

module _ (b : Board) (images : List ℕ) (state : List ℤ) (k start size : ℕ) where
  pub load-place : ltb k 4 ≡ false → load_of b images state k start size ≡ board_refusal (numbered 26) b state
  unfolding load_of provided ◌▷◌
  load-place p = rw p

  pub load-state : ltb k 4 ≡ true → leb 260 (length state) ≡ false →
      load_of b images state k start size ≡ board_refusal (numbered 21) b state
  unfolding load_of provided ◌▷◌
  load-state p q = rw (p, q)

  pub load-refused : ltb k 4 ≡ true → leb 260 (length state) ≡ true → (f : Fault) →
      (reset_in images start size (place_words k state)).answer ≡ refused f →
      load_of b images state k start size ≡ board_refusal f b state
  unfolding load_of provided ◌▷◌
  load-refused p q f h = rw (p, q, h)

  pub load-done : ltb k 4 ≡ true → leb 260 (length state) ≡ true → (n : ℕ) →
      (reset_in images start size (place_words k state)).answer ≡ accepted n →
      load_of b images state k start size ≡
      board_done n (loaded_at b k start size) (with_words k state (reset_in images start size (place_words k state)).left)
  unfolding load_of provided ◌▷◌
  load-done p q n h = rw (p, q, h)

module _ (b : Board) (k : ℕ) where
  pub mark-place : ltb k 4 ≡ false → mark_place_of b k ≡ board_refusal (numbered 26) b []
  unfolding mark_place_of provided ◌▷◌
  mark-place p = rw p

  pub mark-loaded : ltb k 4 ≡ true → (place_at b k).loaded ≡ false → mark_place_of b k ≡ board_refusal (numbered 28) b []
  unfolding mark_place_of provided ◌▷◌
  mark-loaded p q = rw (p, q)

  pub mark-done : ltb k 4 ≡ true → (place_at b k).loaded ≡ true → mark_place_of b k ≡ board_done 0 (marked_at b k) []
  unfolding mark_place_of provided ◌▷◌
  mark-done p q = rw (p, q)

module _ (b : Board) (images : List ℕ) (state samples : List ℤ) where
  pub turn-state : leb 260 (length state) ≡ false → turn_of b images state samples ≡ board_refusal (numbered 21) b state
  unfolding turn_of provided ◌▷◌
  turn-state p = rw p

  pub turn-samples : leb 260 (length state) ≡ true → leb 256 (length samples) ≡ false →
      turn_of b images state samples ≡ board_refusal (numbered 23) b state
  unfolding turn_of provided ◌▷◌
  turn-samples p q = rw (p, q)

  pub turn-done : leb 260 (length state) ≡ true → leb 256 (length samples) ≡ true → (d : Option ℕ) → next_due b ≡ d →
      let w = turn_with b images state samples d in turn_of b images state samples ≡ board_done w.yields w.leaves w.words
  unfolding turn_of provided ◌▷◌
  turn-done p q d e = rw (p, q, e)
