-- The rows in the image of an accepted pair are the program's; what TABLE yields on it is what it yields in the program, for any
-- number. Assumes nothing.
use Prim.Native.Nat.{ℕ, suc, ◌≤◌, ◌<◌}
use mathlib.Core.Bool.{true, false≢true, and-eq-true_iff}
use mathlib.Core.List.{List}
use mathlib.Core.Logic.{◌⊎◌, inl, inr}
use mathlib.Core.Path.{◌≡◌, refl, sym, subst, ◌∙◌}
use native.Mathlib.Decide.{dec_lt}
use native.Mathlib.Omega.{arith}
use borrow.Author.Rules.{sfits_of}
use borrow.Author.Tests.{leb-true}
use lib.IntN.{ℤ, pos, negsuc}
use lib.ListN.{length}
use lib.Signed.{le_z}
use mir.Syntax.{w32}
use Rattle.model.specs.Rules.Image.{image_of, rows_at}
use Rattle.model.specs.Rules.Machine.{rows_in}
use Rattle.model.specs.Rules.Program.{Program}
use Rattle.model.specs.Rules.Schedule.{Schedule}
use Rattle.model.specs.Rules.Table.{Row, contains, table_word, unary_word, row_at, by_low}
use Rattle.model.specs.Says.Feasible.{Feasible, Multiple}
use Rattle.model.specs.Says.Rows.{Upright, AllUpright, Covers, Rising, Alike}
use Rattle.model.specs.Says.Words.{IsWord}
use Rattle.model.specs.declared.Unary.{Unary}
use Rattle.model.specs.declared.Unary.TheVariants.{Negate, Table}
use Rattle.theorems_images.specs.Tables.{StoresRows}
use Rattle.model.proofs.Images.Bounds.{Bounded}
use Rattle.model.proofs.Images.Formed.{table-offset}
use Rattle.model.proofs.Images.Stretches.{table-stands}
use Rattle.model.proofs.Rows.Area.{RowWords, table-alike, area-alike}
use Rattle.model.proofs.Rows.Levels.{lies-contains}
use Rattle.model.proofs.Rows.Rule.{times, none-times, once-times, table_same, sorted, found_in, length-same}
use Rattle.model.proofs.Rows.Sorted.{sorted-order}

-- A row contains only words.
low-bound : (low : ℤ) (n : ℕ) → IsWord low → le_z low (negsuc n) ≡ true → IsWord (negsuc n)
low-bound (pos m) n f h = absurd (false≢true h)
low-bound (negsuc m) n f h = let l = f.sfits in sfits_of {w = w32} (omega (arith, leb-true n m h))

high-bound : (high : ℤ) (n : ℕ) → IsWord high → le_z (pos n) high ≡ true → IsWord (pos n)
high-bound (pos m) n f h = let l = f.sfits in sfits_of {w = w32} (omega (arith, leb-true n m h))
high-bound (negsuc m) n f h = absurd (false≢true h)

contained-word : (r : Row) → Upright r → (z : ℤ) → contains r z ≡ true → IsWord z
unfolding contains
contained-word r u (pos n) h = high-bound r.high n u.high_word ((and-eq-true_iff (le_z r.low (pos n)) _).0 h).1
contained-word r u (negsuc n) h = low-bound r.low n u.low_word ((and-eq-true_iff (le_z r.low (negsuc n)) _).0 h).0

-- No number lies in two of the rows.
module _ (rows : List Row) (up : AllUpright rows) (covers : 0 < length rows → Covers rows) where
  at-most-once : (z : ℤ) → times rows z ≤ 1
  at-most-once z = none (dec_word z)
    where
      dec_word : (z : ℤ) → IsWord z ⊎ (IsWord z → ⊥)
      dec_word (pos n) = go (dec_lt n 2147483648)
        where
          go : Dec (n < 2147483648) → IsWord (pos n) ⊎ (IsWord (pos n) → ⊥)
          go (yes l) = inl (sfits_of {w = w32} (omega arith))
          go (no l) = inr (λ f. let k = f.sfits in omega arith)
      dec_word (negsuc n) = go (dec_lt n 2147483648)
        where
          go : Dec (n < 2147483648) → IsWord (negsuc n) ⊎ (IsWord (negsuc n) → ⊥)
          go (yes l) = inl (sfits_of {w = w32} (omega arith))
          go (no l) = inr (λ f. let k = f.sfits in omega arith)

      some : IsWord z → Dec (0 < length rows) → times rows z ≤ 1
      some f (yes l) = omega (arith, once-times rows z (covers l z f))
      some f (no l) = omega (arith, none-times rows z (λ n k. omega (arith, k.inside)))

      none : IsWord z ⊎ (IsWord z → ⊥) → times rows z ≤ 1
      none (inl f) = some f (dec_lt 0 (length rows))
      none (inr u) = omega (
        arith,
        none-times rows z (λ n k. u
            (contained-word (row_at rows n) (up n k.inside) z (lies-contains k))),
      )

module _ (p : Program) (s : Schedule) (h : ℕ) (acc : Feasible p s) (whole : Multiple p h) (bounded : Bounded p s h) where
  row_words : (n : ℕ) → n < length p.rows → RowWords (row_at p.rows n)
  row_words n l =
      let u = bounded.upright n l in
      record { low_word = u.low_word; high_word = u.high_word; result-word = bounded.results n l }

  -- The rows that stand in the image have the words of the program's by rising low.
  rows_alike : Alike (rows_in (image_of p s h)) (by_low p.rows)
  rows_alike =
      rw (table-offset p s h acc whole bounded)
      (area-alike (image_of p s h) (rows_at p s h) (by_low p.rows) (table-stands p s h)
      (λ n l. let q = found_in (sorted p.rows) n l in subst RowWords q.2 (row_words q.0 q.1)))

  pub rows-stored : StoresRows p.rows (rows_in (image_of p s h))
  rows-stored =
      record {
        ordered = by_low p.rows;
        reordered = sorted p.rows;
        alike = rows_alike;
        rising = rising;
      }
    where
      rising : Rising (rows_in (image_of p s h))
      rising n l =
          let inside : suc n < length (by_low p.rows) = omega (arith, rows_alike.long) in
          let covers = bounded.covers (omega (arith, length-same (sorted p.rows))) in
          rw ((rows_alike.each n (omega arith)).low, (rows_alike.each (suc n) l).low)
          ((sorted-order p.rows bounded.upright covers).1 n inside)

  pub table-of-image : (z : ℤ) → table_word (rows_in (image_of p s h)) z ≡ table_word p.rows z
  table-of-image z =
      table-alike (rows_in (image_of p s h)) (by_low p.rows) z rows_alike ∙
      sym (table_same (sorted p.rows) z (at-most-once p.rows bounded.upright bounded.covers z))

  pub unary-alike : (operator : Unary) (z : ℤ) →
      unary_word (rows_in (image_of p s h)) operator z ≡ unary_word p.rows operator z
  unary-alike Negate z = refl
  unary-alike Table z = table-of-image z
