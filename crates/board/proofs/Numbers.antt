-- What the calls leave of the numbers and the state is what the paper's words say, and nothing else is. Assumes nothing.
use Rattle.std.specs.Prelude.{Some, None}
use Prim.Native.Nat.{ℕ, ◌+◌, ◌-◌, ◌*◌, ◌/◌, ◌%◌, ◌≤◌, ◌<◌}
use mathlib.Core.Bool.{Bool, true, false, cond}
use mathlib.Core.List.{List}
use mathlib.Core.Logic.{◌⊎◌, inl, inr}
use mathlib.Core.Path.{◌≡◌, refl, sym, ap, subst, ◌∙◌}
use native.Mathlib.Decide.{dec_lt}
use native.Mathlib.Omega.{arith}
use borrow.Author.Tests.{eqb-true, eqb-false, ltb-true, ltb-false}
use lib.Dec.{eqb, ltb}
use lib.IntN.{ℤ, pos}
use lib.ListN.{length, get_or, take, drop, length-set, length-drop}
use lib.Seq.{length-take-le, get_or-take, get_or-drop, ext_get_or}
use Rattle.model.specs.Rules.Machine.{stretch}
use Rattle.board.specs.Board.{with_words, place_at, place_after, count_up, next_due}
use Rattle.board.proofs.Due.{next-below, reached, none-due}
use Rattle.board.proofs.Words.{put-length, words-own, words-elsewhere}
use Rattle.board.specs.Record.{board_of, due_in, loaded_in, count_in, loaded_words, marked_words, taken_words}
use Rattle.board.specs.Numbers.{
  PartAt,
  StretchIs,
  WordsSet,
  flags_at,
  count_at,
  last_of,
  Loaded,
  Due,
  PlaceSet,
  LoadedSet,
  MarkedSet,
  Cleared,
  Counted,
  TakenSet,
  NextPlace,
  NoneDue,
}
use Rattle.board.proofs.Places.{due-held}
use Rattle.board.proofs.Held.{
  load-flags,
  load-start,
  load-size,
  load-count,
  load-other,
  mark-flags,
  mark-other,
  taken-flags,
  taken-count,
  taken-last,
  taken-other,
}

-- A part that lies inside is there, and is one.
module _ {A : Type 0} (none : A) (whole : List A) (from n : ℕ) where
  pub part-there : from + n ≤ length whole → PartAt none whole from n (take n (drop from whole))
  part-there le =
      record {
        inside = le;
        size = length-take-le n (drop from whole) (rw length-drop (omega arith));
        elements = λ i lt. get_or-take n (drop from whole) i none lt ∙ get_or-drop from whole i none;
      }

  pub part-one : {p q : List A} → PartAt none whole from n p → PartAt none whole from n q → p ≡ q
  part-one {p} {q} a b =
      ext_get_or none p q (a.size ∙ sym b.size)
      (λ i lt. let l : i < n = omega (arith, a.size) in a.elements i l ∙ sym (b.elements i l))

  pub part-is : {p : List A} → PartAt none whole from n p → take n (drop from whole) ≡ p
  part-is a = part-one (part-there a.inside) a

-- A stretch that lies inside is the part from its start on.
pub stretch-there : (images : List ℕ) (start size : ℕ) → start + size ≤ length images →
    StretchIs images start size (stretch images start (start + size))
stretch-there images start size le =
    let e : size ≡ start + size - start = omega arith in
    subst (λ (n : ℕ). StretchIs images start size (take n (drop start images))) e (part-there 0 images start size le)

pub stretch-is : {images image : List ℕ} {start size : ℕ} → StretchIs images start size image →
    stretch images start (start + size) ≡ image
stretch-is {images} {image} {start} {size} a = part-one 0 images start size (stretch-there images start size a.inside) a

-- The state with other words for a place, and no other state.
pub words-set : (k : ℕ) (state words : List ℤ) → k < 4 → 260 ≤ length state → length words ≡ 65 →
    WordsSet k state words (with_words k state words)
words-set k state words lt le size =
    record {
      size = long;
      own =
          rw (words-own k state words lt le size) at
          (part-there (pos 0) (with_words k state words) (65 * k) 65 (omega (arith, long)));
      others = λ i apart. words-elsewhere k state words lt le size i (elsewhere i apart);
    }
  where
    long : length (with_words k state words) ≡ length state
    long = put-length k state words lt le size

    elsewhere : (i : ℕ) → (i < 65 * k) ⊎ (65 * k + 65 ≤ i) → i / 65 ≡ k → ⊥
    elsewhere i (inl l) e = omega arith
    elsewhere i (inr l) e = omega arith

pub words-set-one : {k : ℕ} {state words a b : List ℤ} → WordsSet k state words a → WordsSet k state words b → a ≡ b
words-set-one {k} {state} {words} {a} {b} p q =
    ext_get_or (pos 0) a b (p.size ∙ sym q.size) (λ i lt. at i (dec_lt i (65 * k)) (dec_lt i (65 * k + 65)))
  where
    at : (i : ℕ) → Dec (i < 65 * k) → Dec (i < 65 * k + 65) → get_or a i (pos 0) ≡ get_or b i (pos 0)
    at i (yes l) h = p.others i (inl l) ∙ sym (q.others i (inl l))
    at i (no g) (no h) = let l : 65 * k + 65 ≤ i = omega arith in p.others i (inr l) ∙ sym (q.others i (inr l))
    at i (no g) (yes h) =
        let e : 65 * k + (i - 65 * k) ≡ i = omega arith in
        let l : i - 65 * k < 65 = omega arith in
        ap (λ (v : ℕ). get_or a v (pos 0)) (sym e) ∙ sym (p.own.elements (i - 65 * k) l) ∙ q.own.elements (i - 65 * k) l ∙
        ap (λ (v : ℕ). get_or b v (pos 0)) e

-- The numbers with others for a place, and no others.
pub place-set-one : {k f s z c l : ℕ} {w a b : List ℕ} → length w ≡ 17 → k < 4 → PlaceSet k f s z c l w a →
    PlaceSet k f s z c l w b → a ≡ b
place-set-one {k} {f} {s} {z} {c} {l} {w} {a} {b} long lt p q =
    ext_get_or 0 a b (p.long ∙ sym q.long)
    (λ i h. at i (omega (arith, p.long)) (dec_lt i (4 * k)) (dec_lt i (4 * k + 4)) (dec_lt i 16))
  where
    own : (i : ℕ) → 4 * k ≤ i → i < 4 * k + 4 → Dec (i < 4 * k + 1) → Dec (i < 4 * k + 2) → Dec (i < 4 * k + 3) →
        get_or a i 0 ≡ get_or b i 0
    own i g h (yes x) y v =
        let e : i ≡ 4 * k = omega arith in rw e (p.flags-are ∙ sym q.flags-are)
    own i g h (no x) (yes y) v =
        let e : i ≡ 4 * k + 1 = omega arith in rw e (p.start_is ∙ sym q.start_is)
    own i g h (no x) (no y) (yes v) =
        let e : i ≡ 4 * k + 2 = omega arith in rw e (p.size_is ∙ sym q.size_is)
    own i g h (no x) (no y) (no v) =
        let e : i ≡ 4 * k + 3 = omega arith in rw e (p.count-is ∙ sym q.count-is)

    at : (i : ℕ) → i < 17 → Dec (i < 4 * k) → Dec (i < 4 * k + 4) → Dec (i < 16) → get_or a i 0 ≡ get_or b i 0
    at i h (yes x) y v = p.others i (omega arith) (inl x) ∙ sym (q.others i (omega arith) (inl x))
    at i h (no x) (yes y) v = own i (omega arith) y (dec_lt i (4 * k + 1)) (dec_lt i (4 * k + 2)) (dec_lt i (4 * k + 3))
    at i h (no x) (no y) (yes v) =
        let g : 4 * k + 4 ≤ i = omega arith in p.others i v (inr g) ∙ sym (q.others i v (inr g))
    at i h (no x) (no y) (no v) = let e : i ≡ 16 = omega arith in rw e (p.last-is ∙ sym q.last-is)

-- Flags and counts.
pub loaded-true : (flags : ℕ) → loaded_in flags ≡ true → Loaded flags
loaded-true flags e = record { rest = flags / 2; is = omega (arith, eqb-true (flags % 2) 1 e) }

pub loaded-false : (flags : ℕ) → loaded_in flags ≡ false → ¬ Loaded flags
loaded-false flags e l = eqb-false (flags % 2) 1 e (omega (arith, l.is))

due-true : (flags : ℕ) → due_in flags ≡ true → Due flags
due-true flags e =
    record { low = flags % 2; high = flags / 4; one = omega arith; is = omega (arith, eqb-true (flags / 2 % 2) 1 e) }

due-false : (flags : ℕ) → due_in flags ≡ false → ¬ Due flags
due-false flags e d = eqb-false (flags / 2 % 2) 1 e (omega (arith, d.one, d.is))

cleared : (flags : ℕ) → Cleared flags (flags % 2)
cleared flags =
    record {
      loaded = λ l. omega (arith, l.is);
      vacant = λ n. go (eqb (flags % 2) 1) refl n;
    }
  where
    go : (t : Bool) → eqb (flags % 2) 1 ≡ t → ¬ Loaded flags → flags % 2 ≡ 0
    go true e n = absurd (n (loaded-true flags e))
    go false e n = omega (arith, eqb-false (flags % 2) 1 e)

cleared-one : {flags a b : ℕ} → Cleared flags a → Cleared flags b → a ≡ b
cleared-one {flags} {a} {b} p q = go (loaded_in flags) refl
  where
    go : (t : Bool) → loaded_in flags ≡ t → a ≡ b
    go true e = let l = loaded-true flags e in p.loaded l ∙ sym (q.loaded l)
    go false e = let n = loaded-false flags e in p.vacant n ∙ sym (q.vacant n)

counted : (number : ℕ) → Counted number (count_in number)
unfolding count_up
counted number = go (ltb (number % 4294967296) 4294967295) refl
  where
    go : (t : Bool) → ltb (number % 4294967296) 4294967295 ≡ t →
        Counted number (cond t (number % 4294967296 + 1) (number % 4294967296))
    go true e =
        record {
          count = number % 4294967296;
          high = number / 4294967296;
          bits = omega arith;
          is = omega arith;
          below = λ l. refl;
          most = λ h. omega (arith, ltb-true (number % 4294967296) 4294967295 e);
        }
    go false e =
        record {
          count = number % 4294967296;
          high = number / 4294967296;
          bits = omega arith;
          is = omega arith;
          below = λ l. omega (arith, ltb-false (number % 4294967296) 4294967295 e);
          most = λ h. h;
        }

counted-one : {number a b : ℕ} → Counted number a → Counted number b → a ≡ b
counted-one {number} {a} {b} p q = go (dec_lt p.count 4294967295)
  where
    same : p.count ≡ q.count
    same = omega (arith, p.bits, q.bits, p.is, q.is)

    go : Dec (p.count < 4294967295) → a ≡ b
    go (yes l) = p.below l ∙ ap (λ (c : ℕ). c + 1) same ∙ sym (q.below (rw same at l))
    go (no g) =
        let e : p.count ≡ 4294967295 = omega (arith, p.bits) in p.most e ∙ sym (q.most (sym same ∙ e))

pub counted-most : (number : ℕ) → count_in number ≤ 4294967295
counted-most number = let c = counted number in go c (dec_lt c.count 4294967295)
  where
    go : (c : Counted number (count_in number)) → Dec (c.count < 4294967295) → count_in number ≤ 4294967295
    go c (yes l) = omega (arith, c.below l)
    go c (no g) = omega (arith, c.most (omega (arith, c.bits)))

-- What the calls set, and nothing else.
module _ (w : List ℕ) (long : length w ≡ 17) (k : ℕ) (lt : k < 4) where
  apart : (i : ℕ) → (i < 4 * k) ⊎ (4 * k + 4 ≤ i) → i / 4 ≡ k → ⊥
  apart i (inl l) e = omega arith
  apart i (inr l) e = omega arith

  pub loaded-set : (start size : ℕ) → LoadedSet k start size w (loaded_words w k start size)
  unfolding loaded_words
  loaded-set start size =
      record {
        long = simp length-set;
        flags-are = load-flags w long k lt start size;
        start_is = load-start w long k lt start size;
        size_is = load-size w long k lt start size;
        count-is = load-count w long k lt start size;
        last-is = load-other w long k lt start size 16 (omega arith) (λ e. omega arith);
        others = λ i l a. load-other w long k lt start size i (omega arith) (apart i a);
      }

  pub marked-set : MarkedSet k w (marked_words w k)
  marked-set =
      record {
        long = length-set w (4 * k) 3;
        flags-are = mark-flags w long k lt;
        start_is = mark-other w k (4 * k + 1) (λ e. omega arith);
        size_is = mark-other w k (4 * k + 2) (λ e. omega arith);
        count-is = mark-other w k (4 * k + 3) (λ e. omega arith);
        last-is = mark-other w k 16 (λ e. omega arith);
        others = λ i l a. mark-other w k i (λ e. apart i a (omega arith));
      }

  pub taken-set : TakenSet k w (taken_words w k)
  unfolding taken_words
  taken-set =
      record {
        cleared = rw (taken-flags w long k lt) (cleared (flags_at w k));
        counted = rw (taken-count w long k lt) (counted (count_at w k));
        set =
            record {
              long = simp length-set;
              flags-are = refl;
              start_is = taken-other w long k lt (4 * k + 1) (λ e. omega arith) (λ e. omega arith) (λ e. omega arith);
              size_is = taken-other w long k lt (4 * k + 2) (λ e. omega arith) (λ e. omega arith) (λ e. omega arith);
              count-is = refl;
              last-is = taken-last w long k lt;
              others =
                  λ i l a. taken-other w long k lt i (λ e. apart i a (omega arith)) (λ e. apart i a (omega arith))
                  (λ e. omega arith);
            };
      }

  pub taken-set-one : {a b : List ℕ} → TakenSet k w a → TakenSet k w b → a ≡ b
  taken-set-one {a} {b} p q =
      place-set-one long lt p.set
      (rw (cleared-one p.cleared q.cleared, counted-one p.counted q.counted) q.set)

-- The next due place, and no other.
module _ (w : List ℕ) where
  not-due : (j : ℕ) → j < 4 → (place_at (board_of w) j).due ≡ false → ¬ Due (flags_at w j)
  not-due j lt e = due-false (flags_at w j) (sym (due-held w j lt) ∙ e)

  pub next_place : (k : ℕ) → next_due (board_of w) ≡ Some k → NextPlace w k
  unfolding board_of
  next_place k e =
      let r = reached (board_of w) k e in
      let lt = next-below (board_of w) k e in
      let due : (place_at (board_of w) k).due ≡ true = ap (λ (i : ℕ). (place_at (board_of w) i).due) (sym r.here) ∙ r.is-due in
      record {
        distance = r.ahead + 1;
        some = omega arith;
        most = omega (arith, r.few);
        ahead = record { place = lt; rounds = (last_of w + 1 + r.ahead) / 4; is = omega (arith, r.here) };
        due = due-true (flags_at w k) (sym (due-held w k lt) ∙ due);
        between =
            λ d j some near a.
            let here : place_after (board_of w) (d - 1) ≡ j = omega (arith, a.is, a.place) in
            not-due j a.place
            (ap (λ (i : ℕ). (place_at (board_of w) i).due) (sym here) ∙ r.before (d - 1) (omega arith));
      }

  pub next-none : next_due (board_of w) ≡ None → NoneDue w
  unfolding board_of
  next-none e j lt =
      let i = (j + 3 - last_of w % 4) % 4 in
      let here : place_after (board_of w) i ≡ j = omega arith in
      not-due j lt (ap (λ (i : ℕ). (place_at (board_of w) i).due) (sym here) ∙ none-due (board_of w) e i (omega arith))

  pub next_one : {k j : ℕ} → NextPlace w k → NextPlace w j → k ≡ j
  next_one {k} {j} p q = go (dec_lt p.distance q.distance) (dec_lt q.distance p.distance)
    where
      go : Dec (p.distance < q.distance) → Dec (q.distance < p.distance) → k ≡ j
      go (yes l) r = absurd (q.between p.distance k p.some l p.ahead p.due)
      go (no g) (yes l) = absurd (p.between q.distance j q.some l q.ahead q.due)
      go (no g) (no h) = omega (arith, p.ahead.is, q.ahead.is, p.ahead.place, q.ahead.place)
