-- The record that the array holds after a call is the one that the call leaves. Assumes nothing.
use Prim.Native.Nat.{ℕ, zero, suc, ◌+◌, ◌*◌, ◌/◌, ◌%◌, ◌≤◌, ◌<◌}
use mathlib.Core.Bool.{Bool, true, false, cond}
use mathlib.Core.List.{List, [], ◌∷◌}
use mathlib.Core.Path.{◌≡◌, refl, sym, ap, ◌∙◌}
use native.Mathlib.Omega.{arith}
use borrow.Author.Tests.{ltb-true}
use lib.Dec.{ltb}
use lib.IntN.{ℤ}
use lib.ListN.{length, get_or, set, length-set}
use lib.Seq.{get_or-set_same, get_or-set_other}
use Rattle.board.specs.Board.{
  new_board,
  place_at,
  count_up,
  place_with,
  with_due,
  taken_place,
  loaded_at,
  marked_at,
  taken_at,
  load_of,
  mark_place_of,
  turn_of,
}
use Rattle.board.specs.Board.{Place}
use Rattle.board.proofs.Cases.{
  LoadCase,
  load-stays,
  load_does,
  load-case,
  MarkCase,
  mark-stays,
  mark-does,
  mark-case,
  TurnCase,
  turn-stays,
  turn-idles,
  turn-takes,
  turn-case,
}
use Rattle.board.proofs.Due.{next-below}
use Rattle.board.specs.Record.{
  count_in,
  place_from,
  board_of,
  new_words,
  loaded_words,
  marked_words,
  taken_words,
  load_record,
  mark_record,
  turn_record,
}
use Rattle.board.proofs.Places.{place-held}

-- A place by its four numbers, and the record by its places.
abbrev place_in : List ℕ → ℕ → Place
place_in w k = place_from (get_or w (4 * k) 0) (get_or w (4 * k + 1) 0) (get_or w (4 * k + 2) 0) (get_or w (4 * k + 3) 0)

by-places : (w : List ℕ) {a b c d : Place} {last : ℕ} → place_in w 0 ≡ a → place_in w 1 ≡ b → place_in w 2 ≡ c →
    place_in w 3 ≡ d →
    get_or w 16 0 ≡ last →
    board_of w ≡ record { places = a ∷ (b ∷ (c ∷ (d ∷ []))); last = last }
unfolding board_of
by-places w p q r s l = cc

by-numbers : {f g a b s t m n : ℕ} → f ≡ g → a ≡ b → s ≡ t → m ≡ n → place_from f a s m ≡ place_from g b t n
by-numbers p q r s = cc

-- An array whose numbers are another's but for those of one place and the place last taken.
abbrev Elsewhere : List ℕ → List ℕ → ℕ → Type 0
Elsewhere w x k = (i : ℕ) → i < 16 → (i / 4 ≡ k → ⊥) → get_or x i 0 ≡ get_or w i 0

other_place : (w x : List ℕ) (k : ℕ) → Elsewhere w x k → (j : ℕ) → j < 4 → (j ≡ k → ⊥) → place_in x j ≡ place_in w j
other_place w x k same j lt ne =
    by-numbers (at (4 * j) (omega arith) (omega arith)) (at (4 * j + 1) (omega arith) (omega arith))
    (at (4 * j + 2) (omega arith) (omega arith)) (at (4 * j + 3) (omega arith) (omega arith))
  where
    at : (i : ℕ) → 4 * j ≤ i → i < 4 * j + 4 → get_or x i 0 ≡ get_or w i 0
    at i low high = same i (omega arith) (λ e. ne (omega arith))

place_set : (w x : List ℕ) (k : ℕ) → k < 4 → Elsewhere w x k → (p : Place) (last : ℕ) → place_in x k ≡ p → get_or x 16 0 ≡ last →
    board_of x ≡ record { places = set (board_of w).places k p; last = last }
unfolding board_of
place_set w x zero lt same p last own l =
    by-places x own (o 1 (omega arith) (λ e. omega arith)) (o 2 (omega arith) (λ e. omega arith))
    (o 3 (omega arith) (λ e. omega arith)) l
  where
    o : (j : ℕ) → j < 4 → (j ≡ 0 → ⊥) → place_in x j ≡ place_in w j
    o = other_place w x 0 same
place_set w x (suc zero) lt same p last own l =
    by-places x (o 0 (omega arith) (λ e. omega arith)) own (o 2 (omega arith) (λ e. omega arith))
    (o 3 (omega arith) (λ e. omega arith)) l
  where
    o : (j : ℕ) → j < 4 → (j ≡ 1 → ⊥) → place_in x j ≡ place_in w j
    o = other_place w x 1 same
place_set w x (suc (suc zero)) lt same p last own l =
    by-places x (o 0 (omega arith) (λ e. omega arith)) (o 1 (omega arith) (λ e. omega arith)) own
    (o 3 (omega arith) (λ e. omega arith)) l
  where
    o : (j : ℕ) → j < 4 → (j ≡ 2 → ⊥) → place_in x j ≡ place_in w j
    o = other_place w x 2 same
place_set w x (suc (suc (suc zero))) lt same p last own l =
    by-places x (o 0 (omega arith) (λ e. omega arith)) (o 1 (omega arith) (λ e. omega arith))
    (o 2 (omega arith) (λ e. omega arith)) own l
  where
    o : (j : ℕ) → j < 4 → (j ≡ 3 → ⊥) → place_in x j ≡ place_in w j
    o = other_place w x 3 same
place_set w x (suc (suc (suc (suc k)))) lt same p last own l = absurd (omega arith)

-- The numbers of a place once a turn has taken it.
count_fits : (n : ℕ) → count_in n % 4294967296 ≡ count_in n
unfolding count_up
count_fits n = go (ltb (n % 4294967296) 4294967295) refl
  where
    go : (t : Bool) → ltb (n % 4294967296) 4294967295 ≡ t →
        cond t (n % 4294967296 + 1) (n % 4294967296) % 4294967296 ≡ cond t (n % 4294967296 + 1) (n % 4294967296)
    go true e = omega (arith, ltb-true (n % 4294967296) 4294967295 e)
    go false e = omega arith

taken-numbers : (f start size n : ℕ) → place_from (f % 2) start size (count_in n) ≡ taken_place (place_from f start size n)
taken-numbers f start size n =
    let loaded : f % 2 % 2 ≡ f % 2 = omega arith in
    let due : f % 2 / 2 % 2 ≡ 0 = omega arith in
    let count = count_fits n in
    cc

module _ (w : List ℕ) (long : length w ≡ 17) (k : ℕ) (lt : k < 4) where
  abbrev flags : ℕ
  flags = get_or w (4 * k) 0 % 2

  abbrev count : ℕ
  count = count_in (get_or w (4 * k + 3) 0)

  -- the numbers that are set, and the others
  pub taken-other : (i : ℕ) → (i ≡ 4 * k → ⊥) → (i ≡ 4 * k + 3 → ⊥) → (i ≡ 16 → ⊥) → get_or (taken_words w k) i 0 ≡ get_or w i 0
  unfolding taken_words
  taken-other i p q r =
      get_or-set_other (set (set w (4 * k) flags) (4 * k + 3) count) 16 i k 0 r ∙
      get_or-set_other (set w (4 * k) flags) (4 * k + 3) i count 0 q ∙
      get_or-set_other w (4 * k) i flags 0 p

  pub taken-flags : get_or (taken_words w k) (4 * k) 0 ≡ flags
  unfolding taken_words
  taken-flags =
      get_or-set_other (set (set w (4 * k) flags) (4 * k + 3) count) 16 (4 * k) k 0 (λ e. omega arith) ∙
      get_or-set_other (set w (4 * k) flags) (4 * k + 3) (4 * k) count 0 (λ e. omega arith) ∙
      get_or-set_same w (4 * k) flags 0 (omega arith)

  pub taken-count : get_or (taken_words w k) (4 * k + 3) 0 ≡ count
  unfolding taken_words
  taken-count =
      get_or-set_other (set (set w (4 * k) flags) (4 * k + 3) count) 16 (4 * k + 3) k 0 (λ e. omega arith) ∙
      get_or-set_same (set w (4 * k) flags) (4 * k + 3) count 0 (omega (arith, length-set w (4 * k) flags))

  pub taken-last : get_or (taken_words w k) 16 0 ≡ k
  unfolding taken_words
  taken-last =
      get_or-set_same (set (set w (4 * k) flags) (4 * k + 3) count) 16 k 0
      (omega (arith, length-set w (4 * k) flags, length-set (set w (4 * k) flags) (4 * k + 3) count))

  own-place : place_in (taken_words w k) k ≡ taken_place (place_in w k)
  own-place =
      by-numbers taken-flags (taken-other (4 * k + 1) (λ e. omega arith) (λ e. omega arith) (λ e. omega arith))
      (taken-other (4 * k + 2) (λ e. omega arith) (λ e. omega arith) (λ e. omega arith)) taken-count ∙
      taken-numbers (get_or w (4 * k) 0) (get_or w (4 * k + 1) 0) (get_or w (4 * k + 2) 0) (get_or w (4 * k + 3) 0)

  taken-held : board_of (taken_words w k) ≡ taken_at (board_of w) k
  unfolding taken_at
  taken-held =
      place_set w (taken_words w k) k lt
      (λ i l ne. taken-other i (λ e. ne (omega arith)) (λ e. ne (omega arith)) (λ e. omega arith))
      (taken_place (place_at (board_of w) k)) k (own-place ∙ sym (ap taken_place (place-held w k lt))) taken-last

module _ (w : List ℕ) (long : length w ≡ 17) (k : ℕ) (lt : k < 4) (start size : ℕ) where
  -- the numbers of a place once it is loaded
  abbrev one : List ℕ
  one = set w (4 * k) 1

  abbrev two : List ℕ
  two = set one (4 * k + 1) start

  abbrev three : List ℕ
  three = set two (4 * k + 2) size

  pub load-other : (i : ℕ) → i < 17 → (i / 4 ≡ k → ⊥) → get_or (loaded_words w k start size) i 0 ≡ get_or w i 0
  unfolding loaded_words
  load-other i l ne =
      get_or-set_other three (4 * k + 3) i 0 0 (λ e. ne (omega arith)) ∙
      get_or-set_other two (4 * k + 2) i size 0 (λ e. ne (omega arith)) ∙
      get_or-set_other one (4 * k + 1) i start 0 (λ e. ne (omega arith)) ∙
      get_or-set_other w (4 * k) i 1 0 (λ e. ne (omega arith))

  pub load-flags : get_or (loaded_words w k start size) (4 * k) 0 ≡ 1
  unfolding loaded_words
  load-flags =
      get_or-set_other three (4 * k + 3) (4 * k) 0 0 (λ e. omega arith) ∙
      get_or-set_other two (4 * k + 2) (4 * k) size 0 (λ e. omega arith) ∙
      get_or-set_other one (4 * k + 1) (4 * k) start 0 (λ e. omega arith) ∙
      get_or-set_same w (4 * k) 1 0 (omega arith)

  pub load-start : get_or (loaded_words w k start size) (4 * k + 1) 0 ≡ start
  unfolding loaded_words
  load-start =
      get_or-set_other three (4 * k + 3) (4 * k + 1) 0 0 (λ e. omega arith) ∙
      get_or-set_other two (4 * k + 2) (4 * k + 1) size 0 (λ e. omega arith) ∙
      get_or-set_same one (4 * k + 1) start 0 (omega (arith, length-set w (4 * k) 1))

  pub load-size : get_or (loaded_words w k start size) (4 * k + 2) 0 ≡ size
  unfolding loaded_words
  load-size =
      get_or-set_other three (4 * k + 3) (4 * k + 2) 0 0 (λ e. omega arith) ∙
      get_or-set_same two (4 * k + 2) size 0 (omega (arith, length-set w (4 * k) 1, length-set one (4 * k + 1) start))

  pub load-count : get_or (loaded_words w k start size) (4 * k + 3) 0 ≡ 0
  unfolding loaded_words
  load-count =
      get_or-set_same three (4 * k + 3) 0 0
      (omega (arith, length-set w (4 * k) 1, length-set one (4 * k + 1) start, length-set two (4 * k + 2) size))

  loaded-held : board_of (loaded_words w k start size) ≡ loaded_at (board_of w) k start size
  unfolding loaded_at board_of
  loaded-held =
      place_set w (loaded_words w k start size) k lt (λ i l ne. load-other i (omega arith) ne) (place_with start size)
      (get_or w 16 0)
      (by-numbers load-flags load-start load-size load-count) (load-other 16 (omega arith) (λ e. omega arith))

pub mark-other : (w : List ℕ) (k i : ℕ) → (i ≡ 4 * k → ⊥) → get_or (marked_words w k) i 0 ≡ get_or w i 0
mark-other w k i ne = get_or-set_other w (4 * k) i 3 0 ne

module _ (w : List ℕ) (long : length w ≡ 17) (k : ℕ) (lt : k < 4) where
  pub mark-flags : get_or (marked_words w k) (4 * k) 0 ≡ 3
  mark-flags = get_or-set_same w (4 * k) 3 0 (omega arith)

  marked-held : (place_at (board_of w) k).loaded ≡ true → board_of (marked_words w k) ≡ marked_at (board_of w) k
  unfolding marked_at board_of
  marked-held loaded =
      place_set w (marked_words w k) k lt (λ i l ne. mark-other w k i (λ e. ne (omega arith)))
      (with_due true (place_at (board_of w) k)) (get_or w 16 0)
      (by-numbers mark-flags (at 1 (omega arith)) (at 2 (omega arith)) (at 3 (omega arith)) ∙
      due (place_at (board_of w) k) (get_or w (4 * k) 0) _ _ _ loaded (place-held w k lt))
      (mark-other w k 16 (λ e. omega arith))
    where
      at : (n : ℕ) → 0 < n → get_or (marked_words w k) (4 * k + n) 0 ≡ get_or w (4 * k + n) 0
      at n pos = mark-other w k (4 * k + n) (λ e. omega arith)

      due : (p : Place) (f start size count : ℕ) → p.loaded ≡ true → p ≡ place_from f start size count →
          place_from 3 start size count ≡ with_due true p
      due p f start size count l e =
          let a : p.start ≡ start = ap (λ (x : Place). x.start) e in
          let s : p.size ≡ size = ap (λ (x : Place). x.size) e in
          let n : p.count ≡ count % 4294967296 = ap (λ (x : Place). x.count) e in
          cc

-- The record that the array holds after each call is the one that the call leaves.
pub new-held : board_of new_words ≡ new_board
unfolding board_of
new-held = refl

pub load-held : (w : List ℕ) → length w ≡ 17 → (images : List ℕ) (state : List ℤ) (k start size : ℕ) →
    let load = load_of (board_of w) images state k start size in
    board_of (load_record w k start size load.answer) ≡ load.board
load-held w long images state k start size =
    go (load-case (record { board = board_of w; images = images; state = state }) k start size)
  where
    go : LoadCase (record { board = board_of w; images = images; state = state }) k start size →
        let load = load_of (board_of w) images state k start size in
        board_of (load_record w k start size load.answer) ≡ load.board
    go (load-stays f e) = rw e
    go (load_does lt q n h e) = rw e (loaded-held w long k lt start size)

pub mark-held : (w : List ℕ) → length w ≡ 17 → (k : ℕ) →
    let mark = mark_place_of (board_of w) k in
    board_of (mark_record w k mark.answer) ≡ mark.board
mark-held w long k = go (mark-case (record { board = board_of w; images = []; state = [] }) k)
  where
    go : MarkCase (record { board = board_of w; images = []; state = [] }) k →
        let mark = mark_place_of (board_of w) k in
        board_of (mark_record w k mark.answer) ≡ mark.board
    go (mark-stays f e) = rw e
    go (mark-does lt l e) = rw e (marked-held w long k lt l)

pub turn-held : (w : List ℕ) → length w ≡ 17 → (images : List ℕ) (state samples : List ℤ) →
    let turn = turn_of (board_of w) images state samples in
    board_of (turn_record w turn.answer) ≡ turn.board
turn-held w long images state samples =
    go (turn-case (record { board = board_of w; images = images; state = state }) samples)
  where
    go : TurnCase (record { board = board_of w; images = images; state = state }) samples →
        let turn = turn_of (board_of w) images state samples in
        board_of (turn_record w turn.answer) ≡ turn.board
    go (turn-stays f e) = rw e
    go (turn-idles n e) = rw e
    go (turn-takes k n p q e) = rw e (taken-held w long k (next-below (board_of w) k n))
