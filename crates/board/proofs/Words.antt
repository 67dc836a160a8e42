-- The words and samples of each place: one place's words are put in without touching another's. Assumes nothing.
use Prim.Native.Nat.{ℕ, ◌+◌, ◌-◌, ◌*◌, ◌/◌, ◌≤◌, ◌<◌}
use mathlib.Core.List.{List, ◌++◌}
use mathlib.Core.Path.{◌≡◌, sym, ap, ◌∙◌}
use native.Mathlib.Decide.{dec_lt}
use native.Mathlib.Omega.{arith}
use borrow.Rule.Slice.PartMut.{put_mid, put_same, same_len_mid}
use lib.IntN.{ℤ, pos}
use lib.ListN.{length, get_or, take, drop, length-drop, get_or-append}
use lib.Seq.{length-take-le, take_at, drop_at, get_or-take, get_or-drop, get_or-append-add, ext_get_or}
use Rattle.board.specs.Board.{place_words, place_samples, with_words}

within : (a n : ℕ) → a + n - a ≡ n
within a n = omega arith

-- the code's part of the state, and the state with it put back
pub part-words : (k : ℕ) (state : List ℤ) → take (65 * k + 65 - 65 * k) (drop (65 * k) state) ≡ place_words k state
part-words k state = ap (λ (n : ℕ). take n (drop (65 * k) state)) (within (65 * k) 65)

pub part-samples : (k : ℕ) (samples : List ℤ) → take (64 * k + 64 - 64 * k) (drop (64 * k) samples) ≡ place_samples k samples
part-samples k samples = ap (λ (n : ℕ). take n (drop (64 * k) samples)) (within (64 * k) 64)

pub put-words : (k : ℕ) (state words : List ℤ) → put_mid (65 * k) (65 * k + 65 - 65 * k) state words ≡ with_words k state words
put-words k state words = ap (λ (n : ℕ). put_mid (65 * k) n state words) (within (65 * k) 65)

pub words_same : (k : ℕ) (state : List ℤ) → with_words k state (place_words k state) ≡ state
words_same k state = put_same (65 * k) 65 state

pub words-length : (k : ℕ) (state : List ℤ) → k < 4 → 260 ≤ length state → length (place_words k state) ≡ 65
words-length k state lt le = length-take-le 65 (drop (65 * k) state) (rw length-drop (omega arith))

pub samples-length : (k : ℕ) (samples : List ℤ) → k < 4 → 256 ≤ length samples → length (place_samples k samples) ≡ 64
samples-length k samples lt le = length-take-le 64 (drop (64 * k) samples) (rw length-drop (omega arith))

-- A place's words once they are put in, and another's.
module _ (k : ℕ) (state words : List ℤ) (lt : k < 4) (le : 260 ≤ length state) (size : length words ≡ 65) where
  rest : List ℤ
  rest = drop 65 (drop (65 * k) state)

  front : length (take (65 * k) state) ≡ 65 * k
  front = length-take-le (65 * k) state (omega arith)

  pub put-length : length (with_words k state words) ≡ length state
  put-length = same_len_mid (65 * k) 65 state words (size ∙ sym (words-length k state lt le))

  pub words-own : place_words k (with_words k state words) ≡ words
  unfolding rest
  words-own = ap (take 65) (drop_at (take (65 * k) state) (words ++ rest) (65 * k) front) ∙ take_at words rest 65 size

  low : (i : ℕ) → i < 65 * k → get_or (with_words k state words) i (pos 0) ≡ get_or state i (pos 0)
  unfolding rest
  low i l = get_or-append (take (65 * k) state) (words ++ rest) (pos 0) i (rw front l) ∙ get_or-take (65 * k) state i (pos 0) l

  high : (i : ℕ) → 65 * k + 65 ≤ i → get_or (with_words k state words) i (pos 0) ≡ get_or state i (pos 0)
  unfolding rest
  high i l =
      let p : i ≡ length (take (65 * k) state) + (i - 65 * k) = omega (arith, front) in
      let q : i - 65 * k ≡ length words + (i - 65 * k - 65) = omega (arith, size) in
      let r : 65 * k + (65 + (i - 65 * k - 65)) ≡ i = omega arith in
      ap (λ (n : ℕ). get_or (with_words k state words) n (pos 0)) p ∙
      get_or-append-add (take (65 * k) state) (words ++ rest) (i - 65 * k) (pos 0) ∙
      ap (λ (n : ℕ). get_or (words ++ rest) n (pos 0)) q ∙
      get_or-append-add words rest (i - 65 * k - 65) (pos 0) ∙
      get_or-drop 65 (drop (65 * k) state) (i - 65 * k - 65) (pos 0) ∙
      get_or-drop (65 * k) state (65 + (i - 65 * k - 65)) (pos 0) ∙
      ap (λ (n : ℕ). get_or state n (pos 0)) r

  -- the words that are no place's own stay
  pub words-elsewhere : (i : ℕ) → (i / 65 ≡ k → ⊥) → get_or (with_words k state words) i (pos 0) ≡ get_or state i (pos 0)
  words-elsewhere i ne = go (dec_lt i (65 * k))
    where
      go : Dec (i < 65 * k) → get_or (with_words k state words) i (pos 0) ≡ get_or state i (pos 0)
      go (yes l) = low i l
      go (no g) = high i (omega (arith, ne))

  pub words-other : (j : ℕ) → j < 4 → (j ≡ k → ⊥) → place_words j (with_words k state words) ≡ place_words j state
  words-other j l ne =
      ext_get_or (pos 0) (place_words j (with_words k state words)) (place_words j state) (many ∙ sym (words-length j state l le))
      (λ i h. at i (rw many at h))
    where
      many : length (place_words j (with_words k state words)) ≡ 65
      many = words-length j (with_words k state words) l (rw put-length le)

      at : (i : ℕ) → i < 65 → get_or (place_words j (with_words k state words)) i (pos 0) ≡ get_or (place_words j state) i (pos 0)
      at i h =
          get_or-take 65 (drop (65 * j) (with_words k state words)) i (pos 0) h ∙
          get_or-drop (65 * j) (with_words k state words) i (pos 0) ∙
          words-elsewhere (65 * j + i) (λ e. ne (omega arith)) ∙
          sym (get_or-take 65 (drop (65 * j) state) i (pos 0) h ∙ get_or-drop (65 * j) state i (pos 0))
