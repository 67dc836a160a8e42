-- Where the parts of an image stand, and what is read there. Assumes nothing.
use Prim.Native.Nat.{ℕ, zero, suc, ◌+◌, ◌-◌, ◌*◌, ◌/◌, ◌%◌, ◌^◌, ◌≤◌, ◌<◌}
use mathlib.Core.Bool.{Bool, true, false, cond}
use mathlib.Core.List.{List, [], ◌∷◌, ◌++◌, append_assoc, append-nil}
use mathlib.Core.Path.{◌≡◌, refl, sym, ap, subst, ◌∙◌}
use native.Mathlib.Nat.{add-zero}
use native.Mathlib.Numerals.{add-one}
use native.Mathlib.Omega.{arith}
use borrow.Author.Tests.{ltb-true, ltb-false}
use lib.Dec.{ltb}
use lib.IntN.{ℤ, pos, negsuc}
use lib.ListN.{length, get_or, take, drop, set, length-append, length-drop, get_or-append}
use lib.Seq.{sets, get_or-drop, drop-drop, drop-append_seam, drop-append-le, drop-append-add, take_at, take_all}
use mir.Syntax.{w32}
use mir.Val.{to_z, SFits}
use mir.ValLaws.{to_z_pos, to_z-neg}
use Rattle.model.specs.Rules.Image.{
  signal_code,
  codes,
  run_list,
  run_lists,
  joined,
  offsets,
  records,
  lists_at,
  rows_at,
  codes_at,
  length_of,
  head,
  image_of,
}
use Rattle.model.specs.Rules.Machine.{stretch, hyper_of, count_of, list_offset, code_offset, list_of, code_of}
use Rattle.model.specs.Rules.Program.{Program, Signal, count, signal_at, no_signal}
use Rattle.model.specs.Rules.Schedule.{Schedule}
use Rattle.model.specs.Rules.Search.{join_from}
use Rattle.model.specs.Rules.Table.{by_low, table_bytes}
use Rattle.model.specs.Rules.Word.{bits_of, word_of, byte_at, two_at, four_at, word_at, two_bytes, four_bytes, word_bytes}
use Rattle.model.proofs.Basics.Outcomes.{table-length, table_at}
use Rattle.model.proofs.Images.Bounds.{Bounded}

-- A part stands in a list at a place.
pub record Stands (s : List ℕ) (at : ℕ) (part : List ℕ) : Type 0 where
  pub rest : List ℕ
  pub is : drop at s ≡ part ++ rest

pub all_of : (s : List ℕ) → Stands s 0 s
all_of s = record { rest = []; is = sym (append-nil s) }

module _ {s : List ℕ} {at : ℕ} where
  pub front : (xs ys : List ℕ) → Stands s at (xs ++ ys) → Stands s at xs
  front xs ys h = record { rest = ys ++ h.rest; is = h.is ∙ append_assoc xs ys h.rest }

  pub behind : (xs ys : List ℕ) → Stands s at (xs ++ ys) → Stands s (at + length xs) ys
  behind xs ys h =
      record {
        rest = h.rest;
        is = sym (drop-drop (length xs) at s) ∙ ap (drop (length xs)) (h.is ∙ append_assoc xs ys h.rest) ∙
            drop-append_seam xs (ys ++ h.rest);
      }

  pub within : {xs zs : List ℕ} (i : ℕ) → i ≤ length xs → Stands s at xs → Stands xs i zs → Stands s (at + i) zs
  within {xs} {zs} i le h g =
      record {
        rest = g.rest ++ h.rest;
        is = sym (drop-drop i at s) ∙ ap (drop i) h.is ∙ drop-append-le i xs h.rest le ∙
            ap (λ (l : List ℕ). l ++ h.rest) g.is ∙ append_assoc zs g.rest h.rest;
      }

  pub inside : {part : List ℕ} → 0 < length part → Stands s at part → at + length part ≤ length s
  inside {part} some h = omega (arith, length-drop at s, simp length-append at (ap length h.is))

  pub byte-from : {part : List ℕ} (i : ℕ) → i < length part → Stands s at part → byte_at s (at + i) ≡ byte_at part i
  byte-from {part} i lt h =
      sym (get_or-drop at s i 0) ∙ ap (λ (l : List ℕ). get_or l i 0) h.is ∙ get_or-append part h.rest 0 i lt

  pub byte-here : {b : ℕ} {part : List ℕ} → Stands s at (b ∷ part) → byte_at s at ≡ b
  byte-here {b} {part} h = ap (byte_at s) (sym (add-zero at)) ∙ byte-from {part = b ∷ part} 0 (omega arith) h

stretch-is : {s part : List ℕ} {from : ℕ} (to : ℕ) → to ≡ from + length part → Stands s from part → stretch s from to ≡ part
stretch-is {part} {from} to e h =
    ap (take (to - from)) h.is ∙ take_at part h.rest (to - from) (omega arith)

-- A number of two bytes, and a word, read back from their bytes.
two-number : (n : ℕ) → n ≤ 65535 → n % 256 + 256 * (n / 256 % 256) ≡ n
two-number n h = omega arith

pub two-at : {s : List ℕ} {at : ℕ} (n : ℕ) → n ≤ 65535 → Stands s at (two_bytes n) → two_at s at ≡ n
unfolding two_at two_bytes
two-at n le h = rw (byte-here h, byte-from 1 (omega arith) h) (two-number n le)

bits_below : (w : ℤ) → bits_of w < 2 ^ 32
unfolding bits_of
bits_below (pos n) = omega arith
bits_below (negsuc n) = omega arith

low : (n : ℕ) → n ≡ n % 256 + 256 * (n / 256)
low n = omega arith

four-digits : (n a b c i j k : ℕ) → n ≡ i + 256 * a → a ≡ j + 256 * b → b ≡ k + 256 * c → n < 2 ^ 32 →
    i + 256 * j + 65536 * k + 16777216 * (c % 256) ≡ n
four-digits n a b c i j k p q r l =
    let g : c < 256 = omega arith in
    let e : c % 256 ≡ c = omega arith in
    rw e (omega arith)

four-number : (n : ℕ) → n < 2 ^ 32 →
    n % 256 + 256 * (n / 256 % 256) + 65536 * (n / 65536 % 256) + 16777216 * (n / 16777216 % 256) ≡ n
four-number n h =
    let a : n / 65536 ≡ n / 256 / 256 = omega arith in
    let b : n / 16777216 ≡ n / 256 / 256 / 256 = omega arith in
    rw (a, b) (four-digits n _ _ _ _ _ _ (low n) (low (n / 256)) (low (n / 256 / 256)) h)

pub four-at : {s : List ℕ} {at : ℕ} (n : ℕ) → n < 2 ^ 32 → Stands s at (four_bytes n) → four_at s at ≡ n
unfolding four_at four_bytes
four-at n lt h =
    rw (byte-here h, byte-from 1 (omega arith) h, byte-from 2 (omega arith) h, byte-from 3 (omega arith) h) (four-number n lt)

-- A word is read from its own bits.
pub word-bits : (w : ℤ) → SFits w32 w → word_of (bits_of w) ≡ w
unfolding word_of bits_of
word-bits (pos n) f = ap (to_z w32) (less n f.sfits) ∙ to_z_pos w32 n f.sfits
  where
    less : (n : ℕ) → n < 2 ^ 31 → n % 2 ^ 32 ≡ n
    less n h = omega arith
word-bits (negsuc n) f = ap (to_z w32) (less n f.sfits) ∙ to_z-neg w32 n f.sfits
  where
    less : (n : ℕ) → n < 2 ^ 31 → 2 ^ 32 - suc (n % 2 ^ 32) ≡ 2 ^ 32 - suc n
    less n h = omega arith

pub word-at : {s : List ℕ} {at : ℕ} (w : ℤ) → SFits w32 w → Stands s at (word_bytes w) → word_at s at ≡ w
unfolding word_at word_bytes
word-at w f h = ap word_of (four-at (bits_of w) (bits_below w) h) ∙ word-bits w f

-- Bytes put one stretch after the other.
pub sets-append : (l : List ℕ) (i : ℕ) (xs ys : List ℕ) → sets l i (xs ++ ys) ≡ sets (sets l i xs) (i + length xs) ys
sets-append l i [] ys = rw add-zero
sets-append l i (x ∷ xs) ys =
    let e : suc i + length xs ≡ i + suc (length xs) = omega arith in
    sets-append (set l i x) (suc i) xs ys ∙ ap (λ (j : ℕ). sets (sets (set l i x) (suc i) xs) j ys) e

-- Where f does not look at the number, it does not matter where the count starts.
join-shift : {A B : Type 0} (f : A → List B) (i : ℕ) (xs : List A) →
    join_from (suc i) (λ i x. f x) xs ≡ join_from i (λ i x. f x) xs
unfolding join_from
join-shift f i [] = refl
join-shift f i (x ∷ xs) = ap (f x ++◌) (join-shift f (suc i) xs)

pub joined-cons : (x : List ℕ) (xs : List (List ℕ)) → joined (x ∷ xs) ≡ x ++ joined xs
unfolding join_from
joined-cons x xs = ap (x ++◌) (join-shift (λ y. y) 0 xs)

-- Joined parts, from part x on, and the length of the first ones.
joined_at : (xs : List (List ℕ)) (x : ℕ) → x < length xs →
    drop (length (joined (take x xs))) (joined xs) ≡ get_or xs x [] ++ joined (drop (suc x) xs)
unfolding join_from
joined_at [] x h = absurd (omega arith)
joined_at (y ∷ ys) zero h = joined-cons y ys
joined_at (y ∷ ys) (suc x) h =
    rw (joined-cons y ys, joined-cons y (take x ys), length-append)
    (drop-append-add y (joined ys) (length (joined (take x ys))) ∙ joined_at ys x (omega arith))

pub part_at : (xs : List (List ℕ)) (x : ℕ) → x < length xs → Stands (joined xs) (length (joined (take x xs))) (get_or xs x [])
part_at xs x h = record { rest = joined (drop (suc x) xs); is = joined_at xs x h }

pub parts_next : (xs : List (List ℕ)) (x : ℕ) → x < length xs →
    length (joined (take (suc x) xs)) ≡ length (joined (take x xs)) + length (get_or xs x [])
unfolding join_from
parts_next [] x h = absurd (omega arith)
parts_next (y ∷ ys) zero h = ap length (append-nil y) ∙ omega arith
parts_next (y ∷ ys) (suc x) h =
    rw (joined-cons y (take (suc x) ys), joined-cons y (take x ys))
    (simp length-append (omega (arith, parts_next ys x (omega arith))))

pub parts-most : (xs : List (List ℕ)) (x : ℕ) → length (joined (take x xs)) ≤ length (joined xs)
unfolding join_from
parts-most xs zero = omega arith
parts-most [] (suc x) = omega arith
parts-most (y ∷ ys) (suc x) =
    rw (joined-cons y ys, joined-cons y (take x ys)) (simp length-append (omega (arith, parts-most ys x)))

-- Parts that follow one another from `start` on, each where its offset says.
module _ (s : List ℕ) (start : ℕ) (xs : List (List ℕ)) (offset : ℕ → ℕ)
    (starts : (x : ℕ) → x ≤ length xs → offset x ≡ start + length (joined (take x xs))) where
  offset-next : (x : ℕ) → x < length xs → offset (x + 1) ≡ offset x + length (get_or xs x [])
  offset-next x lt =
      rw (starts x (omega arith), starts (x + 1) (omega arith), add-one x) (omega (arith, parts_next xs x lt))

  offset-rises : (x : ℕ) → x < length xs → offset x ≤ offset (x + 1)
  offset-rises x lt = omega (arith, offset-next x lt)

  part-stretch : Stands s start (joined xs) → (x : ℕ) → x < length xs → stretch s (offset x) (offset (x + 1)) ≡ get_or xs x []
  part-stretch h x lt =
      stretch-is (offset (x + 1)) (offset-next x lt)
      (rw (starts x (omega arith)) (within (length (joined (take x xs))) (parts-most xs x) h (part_at xs x lt)))

-- The offsets of parts.
offsets-length : (at : ℕ) (xs : List (List ℕ)) → length (offsets at xs) ≡ suc (length xs)
unfolding offsets
offsets-length at [] = refl
offsets-length at (x ∷ xs) = ap suc (offsets-length (at + length x) xs)

pub offset_at : (at : ℕ) (xs : List (List ℕ)) (x : ℕ) → x ≤ length xs →
    get_or (offsets at xs) x 0 ≡ at + length (joined (take x xs))
unfolding offsets join_from
offset_at at [] zero h = omega arith
offset_at at [] (suc x) h = absurd (omega arith)
offset_at at (y ∷ ys) zero h = omega arith
offset_at at (y ∷ ys) (suc x) h =
    rw (joined-cons y (take x ys), length-append) (offset_at (at + length y) ys x (omega arith) ∙ omega arith)

-- A record, and the bytes of an offset.
records-length : (xs : List Signal) (os : List ℕ) → length xs ≤ length os → length (records xs os) ≡ 6 * length xs
unfolding records word_bytes four_bytes two_bytes
records-length [] os h = omega arith
records-length (x ∷ xs) [] h = absurd (omega arith)
records-length (x ∷ xs) (o ∷ os) h = omega (arith, records-length xs os (omega arith))

record-from : (xs : List Signal) (os : List ℕ) (x : ℕ) → x < length xs → x < length os →
    drop (6 * x) (records xs os) ≡
    (word_bytes (get_or xs x no_signal).initial ++ two_bytes (get_or os x 0)) ++ records (drop (suc x) xs) (drop (suc x) os)
unfolding records word_bytes four_bytes two_bytes
record-from [] os x h g = absurd (omega arith)
record-from (y ∷ ys) [] x h g = absurd (omega arith)
record-from (y ∷ ys) (o ∷ os) zero h g = refl
record-from (y ∷ ys) (o ∷ os) (suc x) h g =
    ap (λ (k : ℕ). drop k (records (y ∷ ys) (o ∷ os))) (six x) ∙ record-from ys os x (omega arith) (omega arith)
  where
    six : (x : ℕ) → 6 * suc x ≡ suc (suc (suc (suc (suc (suc (6 * x))))))
    six x = omega arith

record-at : (xs : List Signal) (os : List ℕ) (x : ℕ) → x < length xs → x < length os →
    Stands (records xs os) (6 * x) (word_bytes (get_or xs x no_signal).initial ++ two_bytes (get_or os x 0))
record-at xs os x h g = record { rest = records (drop (suc x) xs) (drop (suc x) os); is = record-from xs os x h g }

pairs-length : (i : ℕ) (os : List ℕ) → length (join_from i (λ i o. two_bytes o) os) ≡ 2 * length os
unfolding join_from two_bytes
pairs-length i [] = omega arith
pairs-length i (o ∷ os) = omega (arith, pairs-length (suc i) os)

pair-from : (os : List ℕ) (c : ℕ) → c < length os →
    drop (2 * c) (join_from 0 (λ i o. two_bytes o) os) ≡
    two_bytes (get_or os c 0) ++ join_from 0 (λ i o. two_bytes o) (drop (suc c) os)
unfolding join_from two_bytes
pair-from [] c h = absurd (omega arith)
pair-from (o ∷ os) zero h = ap (λ (l : List ℕ). two_bytes o ++ l) (join-shift two_bytes 0 os)
pair-from (o ∷ os) (suc c) h =
    ap (λ (k : ℕ). drop k (join_from 0 (λ i o. two_bytes o) (o ∷ os))) (two c) ∙
    ap (drop (2 * c)) (join-shift two_bytes 0 os) ∙ pair-from os c (omega arith)
  where
    two : (c : ℕ) → 2 * suc c ≡ suc (suc (2 * c))
    two c = omega arith

pair-at : (os : List ℕ) (c : ℕ) → c < length os → Stands (join_from 0 (λ i o. two_bytes o) os) (2 * c) (two_bytes (get_or os c 0))
pair-at os c h = record { rest = join_from 0 (λ i o. two_bytes o) (drop (suc c) os); is = pair-from os c h }

-- Lists of one element each, joined.
ones-length : {A B : Type 0} (f : ℕ → A → B) (i : ℕ) (xs : List A) → length (join_from i (λ i x. f i x ∷ []) xs) ≡ length xs
unfolding join_from
ones-length f i [] = refl
ones-length f i (x ∷ xs) = ap suc (ones-length f (suc i) xs)

ones-at : {A B : Type 0} (f : ℕ → A → B) (i : ℕ) (xs : List A) (x : ℕ) (a : A) (b : B) → x < length xs →
    get_or (join_from i (λ i x. f i x ∷ []) xs) x b ≡ f (i + x) (get_or xs x a)
unfolding join_from
ones-at f i [] x a b h = absurd (omega arith)
ones-at f i (y ∷ ys) zero a b h = ap (λ (k : ℕ). f k y) (omega arith)
ones-at f i (y ∷ ys) (suc x) a b h =
    ones-at f (suc i) ys x a b (omega arith) ∙ ap (λ (k : ℕ). f k (get_or ys x a)) (omega arith)

pub codes-length : (p : Program) → length (codes p) ≡ count p
unfolding codes
codes-length p = ones-length (λ x signal. signal_code x signal.body) 0 p.signals

code_is : (p : Program) (x : ℕ) → x < count p → get_or (codes p) x [] ≡ signal_code x (signal_at p x).body
unfolding codes
code_is p x lt =
    ones-at (λ x signal. signal_code x signal.body) 0 p.signals x no_signal [] lt ∙
    ap (λ (k : ℕ). signal_code k (signal_at p x).body) (omega arith)

module _ (p : Program) (s : Schedule) (h : ℕ) where
  pub lists_length : length (run_lists p s h) ≡ h
  unfolding run_lists
  lists_length = table-length h (run_list p s)

  pub list-is : (c : ℕ) → c < h → get_or (run_lists p s h) c [] ≡ run_list p s c
  unfolding run_lists
  list-is c lt = table_at h (run_list p s) c [] lt

  -- Where the codes of the signals and the run lists start, and where the last one ends.
  abbrev pub code_start : ℕ → ℕ
  code_start x = codes_at p s h + length (joined (take x (codes p)))

  abbrev pub list_start : ℕ → ℕ
  list_start c = lists_at (count p) h + length (joined (take c (run_lists p s h)))

  -- The parts of the image.
  records_part : List ℕ
  records_part = records p.signals (offsets (codes_at p s h) (codes p))

  offsets_part : List ℕ
  offsets_part = join_from 0 (λ i o. two_bytes o) (offsets (lists_at (count p) h) (run_lists p s h))

  lists_part : List ℕ
  lists_part = joined (run_lists p s h)

  table_part : List ℕ
  table_part = table_bytes (by_low p.rows)

  codes_part : List ℕ
  codes_part = joined (codes p)

  image-is : image_of p s h ≡
      (h ∷ count p ∷ two_bytes (length_of p s h)) ++ (records_part ++ (offsets_part ++ (lists_part ++ (table_part ++ codes_part))))
  unfolding image_of head records_part offsets_part lists_part table_part codes_part
  image-is = refl

  records-part-length : length records_part ≡ 6 * count p
  unfolding records_part
  records-part-length = records-length p.signals _ (omega (arith, offsets-length (codes_at p s h) (codes p), codes-length p))

  offsets-part-length : length offsets_part ≡ 2 * (h + 1)
  unfolding offsets_part
  offsets-part-length =
      pairs-length 0 (offsets (lists_at (count p) h) (run_lists p s h)) ∙
      omega (arith, offsets-length (lists_at (count p) h) (run_lists p s h), lists_length)

  head-on : Stands (image_of p s h) 0
      ((h ∷ count p ∷ two_bytes (length_of p s h)) ++ (records_part ++ (offsets_part ++ (lists_part ++ (table_part ++ codes_part)))))
  head-on = subst (Stands (image_of p s h) 0) image-is (all_of (image_of p s h))

  records-on : Stands (image_of p s h) 4 (records_part ++ (offsets_part ++ (lists_part ++ (table_part ++ codes_part))))
  unfolding two_bytes
  records-on = behind (h ∷ count p ∷ two_bytes (length_of p s h)) _ head-on

  offsets-on : Stands (image_of p s h) (4 + 6 * count p) (offsets_part ++ (lists_part ++ (table_part ++ codes_part)))
  offsets-on = rw records-part-length at (behind records_part _ records-on)

  lists-on : Stands (image_of p s h) (lists_at (count p) h) (lists_part ++ (table_part ++ codes_part))
  lists-on = rw offsets-part-length at (behind offsets_part _ offsets-on)

  lists-stand : Stands (image_of p s h) (lists_at (count p) h) (joined (run_lists p s h))
  unfolding lists_part
  lists-stand = front lists_part (table_part ++ codes_part) lists-on

  table_on : Stands (image_of p s h) (rows_at p s h) (table_part ++ codes_part)
  unfolding rows_at lists_part
  table_on = behind lists_part (table_part ++ codes_part) lists-on

  -- The table stands after the lists, the codes after the table.
  pub table-stands : Stands (image_of p s h) (rows_at p s h) (table_bytes (by_low p.rows))
  unfolding table_part
  table-stands = front table_part codes_part table_on

  codes-stand : Stands (image_of p s h) (codes_at p s h) (joined (codes p))
  unfolding codes_at table_part codes_part
  codes-stand = behind table_part codes_part table_on

  pub lists-byte : (i : ℕ) → i < length (joined (run_lists p s h)) →
      byte_at (image_of p s h) (lists_at (count p) h + i) ≡ byte_at (joined (run_lists p s h)) i
  lists-byte i lt = byte-from i lt lists-stand

  pub image-length : length (image_of p s h) ≡ length_of p s h
  unfolding length_of codes_at rows_at two_bytes lists_part table_part codes_part
  image-length =
      ap length image-is ∙
      simp length-append (omega (arith, records-part-length, offsets-part-length))

  pub image-hyper : hyper_of (image_of p s h) ≡ h
  image-hyper = ap hyper_of image-is

  pub image-count : count_of (image_of p s h) ≡ count p
  image-count = ap count_of image-is

  module _ (bounded : Bounded p s h) where
    pub length-bytes : two_at (image_of p s h) 2 ≡ length (image_of p s h)
    length-bytes =
        two-at (length_of p s h) (omega (arith, bounded.size))
        (behind (h ∷ count p ∷ []) _ (front (h ∷ count p ∷ two_bytes (length_of p s h)) _ head-on)) ∙
        sym image-length

    -- The record of signal x.
    record-stands : (x : ℕ) → x < count p →
        Stands (image_of p s h) (4 + 6 * x) (word_bytes (signal_at p x).initial ++ two_bytes (code_start x))
    unfolding records_part
    record-stands x lt =
        let os = offsets (codes_at p s h) (codes p) in
        let n = codes-length p in
        let m = offsets-length (codes_at p s h) (codes p) in
        within (6 * x) (omega (arith, records-part-length)) (front records_part _ records-on)
        (rw (offset_at (codes_at p s h) (codes p) x (omega arith)) at (record-at p.signals os x lt (omega arith)))

    pub image-initial : (x : ℕ) → x < count p → word_at (image_of p s h) (4 + 6 * x) ≡ (signal_at p x).initial
    image-initial x lt = word-at _ (bounded.initials x lt) (front (word_bytes (signal_at p x).initial) _ (record-stands x lt))

    -- The offsets that the image gives.
    pub list-offset : (c : ℕ) → c ≤ h → list_offset (image_of p s h) c ≡ list_start c
    unfolding list_offset offsets_part length_of codes_at rows_at
    list-offset c le =
        let os = offsets (lists_at (count p) h) (run_lists p s h) in
        let n = lists_length in
        let m = offsets-length (lists_at (count p) h) (run_lists p s h) in
        let e : get_or os c 0 ≡ list_start c = offset_at (lists_at (count p) h) (run_lists p s h) c (omega arith) in
        ap (λ (k : ℕ). two_at (image_of p s h) (4 + 6 * k + 2 * c)) image-count ∙
        two-at (get_or os c 0) (rw e (omega (arith, parts-most (run_lists p s h) c, bounded.size)))
        (within (2 * c) (omega (arith, offsets-part-length)) (front offsets_part _ offsets-on) (pair-at os c (omega arith))) ∙
        e

    pub code-offset : (x : ℕ) → x ≤ count p → code_offset (image_of p s h) x ≡ code_start x
    unfolding code_offset length_of word_bytes four_bytes
    code-offset x le =
        ap (λ (n : ℕ). cond (ltb x n) (two_at (image_of p s h) (8 + 6 * x)) (length (image_of p s h))) image-count ∙
        go (ltb x (count p)) refl
      where
        go : (b : Bool) → ltb x (count p) ≡ b → cond b (two_at (image_of p s h) (8 + 6 * x)) (length (image_of p s h)) ≡ code_start x
        go true e =
            ap (two_at (image_of p s h)) (omega arith) ∙
            two-at (code_start x) (omega (arith, parts-most (codes p) x, bounded.size))
            (behind (word_bytes (signal_at p x).initial) _ (record-stands x (ltb-true x (count p) e)))
        go false e =
            let q : x ≡ count p = omega (arith, ltb-false x (count p) e) in
            image-length ∙
            ap (λ (l : List (List ℕ)). codes_at p s h + length (joined l))
            (sym (take_all x (codes p) (omega (arith, codes-length p))))

    lists-start : (c : ℕ) → c ≤ length (run_lists p s h) → list_offset (image_of p s h) c ≡ list_start c
    lists-start c le = list-offset c (omega (arith, lists_length))

    codes-start : (x : ℕ) → x ≤ length (codes p) → code_offset (image_of p s h) x ≡ code_start x
    codes-start x le = code-offset x (omega (arith, codes-length p))

    -- The stretches between them.
    pub list-stretch : (c : ℕ) → c < h → list_of (image_of p s h) c ≡ run_list p s c
    unfolding list_of
    list-stretch c lt =
        part-stretch (image_of p s h) (lists_at (count p) h) (run_lists p s h) (list_offset (image_of p s h)) lists-start lists-stand c
        (omega (arith, lists_length)) ∙
        list-is c lt

    pub code-stretch : (x : ℕ) → x < count p → code_of (image_of p s h) x ≡ signal_code x (signal_at p x).body
    unfolding code_of
    code-stretch x lt =
        part-stretch (image_of p s h) (codes_at p s h) (codes p) (code_offset (image_of p s h)) codes-start codes-stand x
        (omega (arith, codes-length p)) ∙
        code_is p x lt

    pub list-rises : (c : ℕ) → c < h → list_offset (image_of p s h) c ≤ list_offset (image_of p s h) (c + 1)
    list-rises c lt =
        offset-rises (image_of p s h) (lists_at (count p) h) (run_lists p s h) (list_offset (image_of p s h)) lists-start c
        (omega (arith, lists_length))

    pub code-rises : (x : ℕ) → x < count p → code_offset (image_of p s h) x ≤ code_offset (image_of p s h) (x + 1)
    code-rises x lt =
        offset-rises (image_of p s h) (codes_at p s h) (codes p) (code_offset (image_of p s h)) codes-start x
        (omega (arith, codes-length p))
