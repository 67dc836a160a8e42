-- The area that is written holds the table, and any area that passes the test holds rows that cover. Assumes nothing.
use mathlib.Core.Path.{◌≡◌, refl, ap, ap₂, ◌∙◌, subst}
use mathlib.Core.Bool.{Bool, true, false, ◌&&◌, ◌||◌, and-eq-true_iff}
use mathlib.Core.List.{List, [], ◌∷◌, ◌++◌}
use mathlib.Core.Logic.{◌⊎◌, inl, inr, ⊎_elim}
use Prim.Native.Nat.{ℕ, zero, suc, ◌+◌, ◌*◌, ◌≤◌, ◌<◌}
use native.Mathlib.Decide.{dec_lt}
use native.Mathlib.Omega.{arith}
use borrow.Author.Tests.{le-leb, leb-true, eqb-true, eq-eqb}
use lib.Dec.{eqb, leb}
use lib.IntN.{ℤ, suc_ℤ}
use lib.ListN.{length, length-append}
use lib.Signed.{le_z}
use Rattle.model.specs.Rules.Cover.{edge, chained, area_ok, greatest_word}
use Rattle.model.specs.Rules.Search.{all_below, join_from}
use Rattle.model.specs.Rules.Table.{
  Row,
  contains,
  table_word,
  row_at,
  row_from,
  by_low,
  rows_from,
  area_rows,
  row_bytes,
  table_bytes,
}
use Rattle.model.specs.Rules.Word.{byte_at, word_bytes, four_bytes, eq_z}
use Rattle.model.specs.Says.Rows.{AllUpright, Covers, SameWords, Alike}
use Rattle.model.specs.Says.Words.{IsWord}
use Rattle.model.proofs.Basics.Outcomes.{table-length, table_at}
use Rattle.model.proofs.Images.Stretches.{Stands, front, behind, inside, byte-here, word-at}
use Rattle.model.proofs.Rows.Rule.{sorted, found_in, length-same}
use Rattle.model.proofs.Rows.Sorted.{InOrder, chained-true, true-chained, sorted-chained}
use Rattle.model.proofs.Texts.Commands.{word_fits}

-- The rows that stand from `start` on.
module _ (image : List ℕ) (start count : ℕ) where
  pub rows-length : length (rows_from image start count) ≡ count
  unfolding rows_from
  rows-length = table-length count (λ n. row_from image 0 (start + 12 * n))

  pub rows_at : (n : ℕ) → n < count → row_at (rows_from image start count) n ≡ row_from image 0 (start + 12 * n)
  unfolding rows_from
  rows_at n l = table_at count (λ n. row_from image 0 (start + 12 * n)) n _ l

-- Row n follows the one before it.
abbrev pub follows : List Row → ℕ → Bool
follows rows n = eq_z (row_at rows n).low (edge rows n) && le_z (row_at rows n).low (row_at rows n).high

pub all_same : (n : ℕ) (test another : ℕ → Bool) → ((k : ℕ) → k < n → test k ≡ another k) → all_below n test ≡ all_below n another
unfolding all_below
all_same zero test another e = refl
all_same (suc n) test another e = rw (all_same n test another (λ k l. e k (omega arith)), e n (omega arith))

-- The bytes of rows.
abbrev pub rows_bytes : ℕ → List Row → List ℕ
rows_bytes i rows = join_from i (λ n row. row_bytes row) rows

pub row-length : (r : Row) → length (row_bytes r) ≡ 12
unfolding row_bytes word_bytes four_bytes
row-length r = refl

pub bytes-length : (i : ℕ) (rows : List Row) → length (rows_bytes i rows) ≡ 12 * length rows
unfolding join_from
bytes-length i [] = refl
bytes-length i (row ∷ rows) =
    length-append (row_bytes row) (rows_bytes (suc i) rows) ∙ omega (arith, row-length row, bytes-length (suc i) rows)

pub table-bytes : (rows : List Row) → length (table_bytes rows) ≡ 1 + 12 * length rows
unfolding table_bytes
table-bytes rows = omega (arith, bytes-length 0 rows)

pub sorted-bytes : (rows : List Row) → length (table_bytes (by_low rows)) ≡ 1 + 12 * length rows
sorted-bytes rows = omega (arith, table-bytes (by_low rows), length-same (sorted rows))

either : (t u : Bool) → u ≡ true → (t || u) ≡ true
either true u e = refl
either false u e = e

-- Rows with the same words.
contains-alike : (a b : Row) (w : ℤ) → SameWords a b → contains a w ≡ contains b w
unfolding contains
contains-alike a b w s = rw (s.low, s.high)

pub table-alike : (xs ys : List Row) (w : ℤ) → Alike xs ys → table_word xs w ≡ table_word ys w
unfolding table_word
table-alike [] [] w a = refl
table-alike [] (y ∷ ys) w a = let l = a.long in absurd (omega arith)
table-alike (x ∷ xs) [] w a = let l = a.long in absurd (omega arith)
table-alike (x ∷ xs) (y ∷ ys) w a =
    let s = a.each 0 (omega arith) in
    let l = a.long in
    let rest = table-alike xs ys w (record { long = omega arith; each = λ n b. a.each (suc n) (omega arith) }) in
    rw (contains-alike x y w s, s.result, rest)

edge-alike : (xs ys : List Row) → Alike xs ys → (n : ℕ) → n ≤ length xs → edge xs n ≡ edge ys n
edge-alike xs ys a zero l = refl
edge-alike xs ys a (suc n) l = ap suc_ℤ (a.each n (omega arith)).high

pub chained-alike : (xs ys : List Row) → Alike xs ys → chained xs ≡ chained ys
unfolding chained
chained-alike xs ys a =
    ap₂ ◌&&◌ (all_same (length xs) (follows xs) (follows ys) (λ n l. same n l) ∙ ap (λ n. all_below n (follows ys)) a.long)
    (ap (λ z. eq_z z (suc_ℤ greatest_word)) (edge-alike xs ys a (length xs) (omega arith) ∙ ap (edge ys) a.long))
  where
    same : (n : ℕ) → n < length xs → follows xs n ≡ follows ys n
    same n l = let s = a.each n l in rw (s.low, s.high, edge-alike xs ys a n (omega arith))

-- Row n of bytes one after the other.
row-stands : {s : List ℕ} (at i : ℕ) (rows : List Row) (n : ℕ) → n < length rows → Stands s at (rows_bytes i rows) →
    Stands s (at + 12 * n) (row_bytes (row_at rows n))
unfolding join_from
row-stands at i [] n l h = absurd (omega arith)
row-stands {s} at i (row ∷ rows) zero l h =
    let e : at ≡ at + 12 * 0 = omega arith in
    subst (λ (k : ℕ). Stands s k (row_bytes row)) e (front (row_bytes row) (rows_bytes (suc i) rows) h)
row-stands {s} at i (row ∷ rows) (suc n) l h =
    let k = row-length row in
    let e : at + length (row_bytes row) + 12 * n ≡ at + 12 * suc n = omega arith in
    subst (λ (k : ℕ). Stands s k (row_bytes (row_at rows n))) e
    (row-stands (at + length (row_bytes row)) (suc i) rows n (omega arith) (behind (row_bytes row) (rows_bytes (suc i) rows) h))

pub record RowWords (row : Row) : Type 0 where
  pub low_word : IsWord row.low
  pub high_word : IsWord row.high
  pub result-word : IsWord row.result

row_read : {s : List ℕ} (at place : ℕ) (row : Row) → RowWords row → Stands s at (row_bytes row) → SameWords (row_from s place at)
    row
unfolding row_bytes word_bytes four_bytes
row_read {s} at place row f h =
    let tail = behind (word_bytes row.low) (word_bytes row.high ++ word_bytes row.result) h in
    let e : at + 4 + 4 ≡ at + 8 = omega arith in
    record {
      low = word-at row.low f.low_word (front (word_bytes row.low) (word_bytes row.high ++ word_bytes row.result) h);
      high = word-at row.high f.high_word (front (word_bytes row.high) (word_bytes row.result) tail);
      result =
          word-at row.result f.result-word
          (subst (λ (k : ℕ). Stands s k (word_bytes row.result)) e
          (behind (word_bytes row.high) (word_bytes row.result) tail));
    }

-- The area of rows of words holds them.
module _ (image : List ℕ) (at : ℕ) (rows : List Row) (h : Stands image at (table_bytes rows))
    (words : (n : ℕ) → n < length rows → RowWords (row_at rows n)) where
  count-read : byte_at image at ≡ length rows
  unfolding table_bytes
  count-read = byte-here h

  rows-stand : Stands image (at + 1) (rows_bytes 0 rows)
  unfolding table_bytes
  rows-stand = behind (length rows ∷ []) (rows_bytes 0 rows) h

  rows-read : Alike (rows_from image (at + 1) (length rows)) rows
  rows-read =
      record {
        long = rows-length image (at + 1) (length rows);
        each = λ n l. each n (rw (rows-length image (at + 1) (length rows)) at l);
      }
    where
      each : (n : ℕ) → n < length rows → SameWords (row_at (rows_from image (at + 1) (length rows)) n) (row_at rows n)
      each n l =
          rw (rows_at image (at + 1) (length rows) n l)
          (row_read (at + 1 + 12 * n) 0 (row_at rows n) (words n l) (row-stands (at + 1) 0 rows n l rows-stand))

  pub area-alike : Alike (area_rows image at) rows
  unfolding area_rows
  area-alike = rw count-read rows-read

  pub area-written : length rows ≤ 32 → (length rows ≡ 0) ⊎ (chained rows ≡ true) → area_ok image at ≡ true
  unfolding area_ok table_bytes
  area-written l k =
      let room : at + length (table_bytes rows) ≤ length image = inside (omega arith) h in
      let n = bytes-length 0 rows in
      rw (
        count-read,
        le-leb (at + 1) (length image) (omega arith),
        le-leb (length rows) 32 l,
        le-leb
            (at + 1 + 12 * length rows) (length image) (omega arith),
      )
      (⊎_elim (λ e. rw (eq-eqb (length rows) 0 e)) (λ e. either (eqb (length rows) 0) (chained (area_rows image at))
      (chained-alike (area_rows image at) rows area-alike ∙ e)) k)

-- The written area is well formed.
pub area-accepted : (image : List ℕ) (at : ℕ) (rows : List Row) → Stands image at (table_bytes (by_low rows)) → length rows ≤ 32 →
    AllUpright rows → ((n : ℕ) → n < length rows → IsWord (row_at rows n).result) → (0 < length rows → Covers rows) → area_ok
    image at ≡ true
area-accepted image at rows h l up results c =
    let e = length-same (sorted rows) in
    area-written image at (by_low rows) h (λ n b. let q = found_in (sorted rows) n b in subst RowWords q.2
    (words q.0 q.1)) (omega arith)
    (go (dec_lt 0 (length rows)))
  where
    words : (n : ℕ) → n < length rows → RowWords (row_at rows n)
    words n b = let u = up n b in record { low_word = u.low_word; high_word = u.high_word; result-word = results n b }

    go : Dec (0 < length rows) → (length (by_low rows) ≡ 0) ⊎ (chained (by_low rows) ≡ true)
    go (yes p) = inr (sorted-chained rows up (c p))
    go (no p) = let e = length-same (sorted rows) in inl (omega arith)

-- An area that passes the test, of any bytes: no row, or rows in order that cover.
pub area-true : (image : List ℕ) (at : ℕ) → area_ok image at ≡ true →
    (byte_at image at ≤ 32) × (at + 1 + 12 * byte_at image at ≤ length image) ×
    ((byte_at image at ≡ 0) ⊎ InOrder (area_rows image at))
unfolding area_ok area_rows
area-true image at e =
    let count = byte_at image at in
    let p = (and-eq-true_iff (leb (at + 1) (length image)) _).0 e in
    let q = (and-eq-true_iff (leb count 32) _).0 p.1 in
    let r = (and-eq-true_iff (leb (at + 1 + 12 * count) (length image)) _).0 q.1 in
    (leb-true count 32 q.0, leb-true (at + 1 + 12 * count) (length image) r.0, go (eqb count 0) refl r.1)
  where
    words : (n : ℕ) → n < length (rows_from image (at + 1) (byte_at image at)) →
        IsWord (row_at (rows_from image (at + 1) (byte_at image at)) n).low × IsWord
        (row_at (rows_from image (at + 1) (byte_at image at)) n).high
    words n l =
        rw (rows_at image (at + 1) (byte_at image at) n (rw (rows-length image (at + 1) (byte_at image at)) at l))
        (word_fits image (at + 1 + 12 * n), word_fits image (at + 1 + 12 * n + 4))

    go : (t : Bool) → eqb (byte_at image at) 0 ≡ t → t || chained (rows_from image (at + 1) (byte_at image at)) ≡ true →
        (byte_at image at ≡ 0) ⊎ InOrder (rows_from image (at + 1) (byte_at image at))
    go true f k = inl (eqb-true (byte_at image at) 0 f)
    go false f k = inr (chained-true (rows_from image (at + 1) (byte_at image at)) words k)

pub true-area : (image : List ℕ) (at : ℕ) → at + 1 ≤ length image → byte_at image at ≤ 32 → at + 1 + 12 * byte_at image at ≤
    length image →
    (byte_at image at ≡ 0) ⊎ InOrder (area_rows image at) → area_ok image at ≡ true
unfolding area_ok
true-area image at h k l o =
    rw (le-leb (at + 1) (length image) h, le-leb (byte_at image at) 32 k, le-leb (at + 1 + 12 * byte_at image at) (length image) l)
    (⊎_elim (λ e. rw (eq-eqb (byte_at image at) 0 e)) (λ e. either (eqb (byte_at image at) 0) (chained (area_rows image at))
    (true-chained (area_rows image at) e)) o)
