-- What the proofs of several functions cite: words in a wider type, and the rows of bytes. Assumes nothing.
use mathlib.Core.Path.{◌≡◌, refl, sym, ap, ◌∙◌}
use mathlib.Core.Bool.{Bool, true, false}
use mathlib.Core.List.{List}
use Prim.Native.Nat.{ℕ, zero, suc, ◌+◌, ◌≤◌, ◌<◌}
use native.Mathlib.Numerals.{add-one}
use native.Mathlib.Omega.{arith}
use borrow.Author.Rules.{sfits_of}
use borrow.Author.Tests.{eqb-true, eqb-false}
use lib.Dec.{eqb}
use lib.IntN.{ℤ, pos, negsuc, suc_ℤ, ◌+ℤ◌, +ℤ_one}
use lib.ListN.{length}
use lib.Signed.{mag, le_z}
use mir.Facts.{to_z-of_z, of_z-to_z, sfits_to_z, sfits_widen}
use mir.Syntax.{w32, w64}
use mir.Val.{to_z, of_z, Fits, SFits}
use Rattle.model.specs.Rules.Search.{all_below}
use Rattle.model.specs.Rules.Word.{eq_z}
use Rattle.model.proofs.Basics.Tests.{first-fails, second-fails}
use Rattle.model.proofs.Pairs.Decide.{all-fails}
use Rattle.model.proofs.Basics.Outcomes.{table-length, table_at}
use Rattle.model.proofs.Rows.Area.{follows}
use Rattle.model.specs.Rules.Cover.{edge, chained, greatest_word}
use Rattle.model.specs.Rules.Table.{Row, row_at}
use Rattle.word.proofs.Locals.{eq_z-other}
use Rattle.rows.specs.Rows.{text_row, text_rows}
use Rattle.model.proofs.Rows.Levels.{true-eq_z}

-- A word in a wider type.
pub long : {z : ℤ} → SFits w32 z → SFits w64 z
long f = sfits_widen {w = w32} {w' = w64} tt f

mag-next : (z : ℤ) → mag (suc_ℤ z) ≤ mag z + 1
mag-next (pos n) = omega arith
mag-next (negsuc zero) = omega arith
mag-next (negsuc (suc n)) = omega arith

pub next-long : {z : ℤ} → SFits w32 z → SFits w64 (suc_ℤ z)
next-long {z} f = let l = f.sfits in sfits_of {w = w64} (omega (arith, mag-next z))

pub plus-long : {z : ℤ} → SFits w32 z → SFits w64 (z +ℤ pos 1)
plus-long {z} f = rw (+ℤ_one z) (next-long f)

-- Equal bits are equal numbers.
pub same-long : {a b : ℤ} → SFits w64 a → SFits w64 b → of_z w64 a ≡ of_z w64 b → a ≡ b
same-long fa fb h = sym (to_z-of_z fa) ∙ ap (to_z w64) h ∙ to_z-of_z fb

-- The rows of a text.
module _ (text offsets : List ℕ) (count : ℕ) where
  pub text-length : length (text_rows text offsets count) ≡ count
  unfolding text_rows
  text-length = table-length count (text_row text offsets)

  pub text_at : (n : ℕ) → n < count → row_at (text_rows text offsets count) n ≡ text_row text offsets n
  unfolding text_rows
  text_at n l = table_at count (text_row text offsets) n _ l

pub edge-next : (rows : List Row) (n : ℕ) → edge rows (n + 1) ≡ suc_ℤ (row_at rows n).high
edge-next rows n = rw (add-one n)

-- What a loop's signed variable is, by its bits.
pub by_bits : {b : ℕ} {e r : ℤ} → to_z w64 b ≡ e → SFits w64 r → of_z w64 r ≡ b → r ≡ e
by_bits t f h = sym (to_z-of_z f) ∙ ap (to_z w64) h ∙ t

pub bits_by : {b : ℕ} {e : ℤ} → Fits w64 b → to_z w64 b ≡ e → of_z w64 e ≡ b
bits_by {b} f t = ap (of_z w64) (sym t) ∙ of_z-to_z {w = w64} {n = b} f

pub fits_by : {b : ℕ} {e : ℤ} → Fits w64 b → to_z w64 b ≡ e → SFits w64 e
fits_by {b} f t = rw (← t) (sfits_to_z {w = w64} {n = b} f)

-- A test on the bits is the test on the numbers.
pub same_test : {a b : ℤ} → SFits w64 a → SFits w64 b → eqb (of_z w64 a) (of_z w64 b) ≡ eq_z a b
same_test {a} {b} fa fb = go (eqb (of_z w64 a) (of_z w64 b)) refl
  where
    go : (t : Bool) → eqb (of_z w64 a) (of_z w64 b) ≡ t → t ≡ eq_z a b
    go true e = sym (true-eq_z a b (same-long fa fb (eqb-true (of_z w64 a) (of_z w64 b) e)))
    go false e = sym (eq_z-other a b (λ q. eqb-false (of_z w64 a) (of_z w64 b) e (ap (of_z w64) q)))

-- The test of rows that follow one another, as a loop decides it.
module _ (rows : List Row) where
  pub low-wrong : (n : ℕ) → n < length rows → eq_z (row_at rows n).low (edge rows n) ≡ false → chained rows ≡ false
  unfolding chained
  low-wrong n l e =
      first-fails (all_below (length rows) (follows rows)) _
      (all-fails (length rows) (follows rows) n l (first-fails (eq_z (row_at rows n).low (edge rows n))
      (le_z (row_at rows n).low (row_at rows n).high) e))

  pub high-wrong : (n : ℕ) → n < length rows → le_z (row_at rows n).low (row_at rows n).high ≡ false → chained rows ≡ false
  unfolding chained
  high-wrong n l e =
      first-fails (all_below (length rows) (follows rows)) _
      (all-fails (length rows) (follows rows) n l (second-fails (eq_z (row_at rows n).low (edge rows n))
      (le_z (row_at rows n).low (row_at rows n).high) e))

  pub last-edge : all_below (length rows) (follows rows) ≡ true → chained rows ≡ eq_z (edge rows (length rows)) (suc_ℤ greatest_word)
  unfolding chained
  last-edge e = rw e
