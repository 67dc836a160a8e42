-- The rows by rising low, found by following their edges, and their bytes one after the other. Assumes nothing.
use Rattle.std.specs.Prelude.{Option, Some, None}
use mathlib.Core.Path.{◌≡◌, refl, sym, ap, ap₂, ◌∙◌}
use mathlib.Core.Bool.{Bool, true, true≢false, and-eq-true_iff}
use mathlib.Core.List.{List, [], ◌∷◌, ◌++◌, append_assoc, append-nil}
use Prim.Native.Nat.{ℕ, suc, ◌+◌, ◌*◌, ◌%◌, ◌≤◌, ◌<◌}
use native.Mathlib.Numerals.{add-one}
use native.Mathlib.Omega.{arith}
use lib.IntN.{ℤ}
use lib.ListN.{length, take, set}
use lib.Seq.{sets, take-suc, take-length, length-take-le}
use lib.Signed.{le_z}
use Rattle.model.specs.Rules.Search.{found_or, join_from, all_below}
use Rattle.model.specs.Rules.Word.{eq_z, word_bytes, four_bytes}
use Rattle.model.proofs.Pairs.Decide.{is-first, all_true}
use Rattle.model.specs.Rules.Cover.{starting_at, edge, chained}
use Rattle.model.specs.Rules.Table.{Row, contains, row_at, row_from, by_low, row_bytes, table_bytes}
use Rattle.model.specs.Says.Rows.{Upright, AllUpright, Covers}
use Rattle.model.proofs.Images.Stretches.{sets-append}
use Rattle.model.proofs.Rows.Area.{follows, rows_bytes, bytes-length}
use Rattle.model.proofs.Rows.Levels.{eq_z-true, true-eq_z, level-contains, contains-lies, upright-level}
use Rattle.model.proofs.Rows.Rule.{sorted, found_in}
use Rattle.model.proofs.Rows.Decided.{covers-disjoint}
use Rattle.model.proofs.Rows.Sorted.{sorted-chained}

low-in : (r : Row) → Upright r → contains r r.low ≡ true
low-in r u = level-contains r r.low u u.low_word (omega arith) (upright-level r u)

module _ (rows : List Row) (up : AllUpright rows) (c : Covers rows) where
  starts-at : (i : ℕ) → i < length (by_low rows) → (row_at (by_low rows) i).low ≡ edge (by_low rows) i
  unfolding chained
  starts-at i l =
      let s = by_low rows in
      let p = (and-eq-true_iff (all_below (length s) (follows s)) _).0 (sorted-chained rows up c) in
      let q = (and-eq-true_iff (eq_z (row_at s i).low (edge s i)) (le_z (row_at s i).low (row_at s i).high)).0
      (all_true (length s) (follows s) p.0 i l) in
      eq_z-true (row_at s i).low (edge s i) q.0

  -- The row that starts at edge i is row i by rising low.
  pub next_row : (i : ℕ) → i < length (by_low rows) → (n : ℕ) → n ≡ found_or 0 (starting_at rows (edge (by_low rows) i)) →
      (n < length rows) × (row_at rows n ≡ row_at (by_low rows) i)
  unfolding starting_at
  next_row i l n e = go (starting_at rows z) refl e
    where
      z : ℤ
      z = edge (by_low rows) i

      test : ℕ → Bool
      test n = eq_z (row_at rows n).low z

      m : (m : ℕ) × (m < length rows) × (row_at rows m ≡ row_at (by_low rows) i)
      m = found_in (sorted rows) i l

      starts : (row_at rows m.0).low ≡ z
      starts = ap (λ (r : Row). r.low) m.2 ∙ starts-at i l

      go : (f : Option ℕ) → starting_at rows z ≡ f → n ≡ found_or 0 f → (n < length rows) × (row_at rows n ≡ row_at (by_low rows) i)
      go None q e =
          absurd (true≢false (sym (true-eq_z (row_at rows m.0).low z starts) ∙ is-first (length rows) test None q m.0
          (omega arith) (omega (arith, m.1))))
      go (Some k) q e =
          let h = is-first (length rows) test (Some k) q in
          let lk : k < length rows = omega arith in
          let lows : (row_at rows k).low ≡ (row_at rows m.0).low = eq_z-true (row_at rows k).low z h.2 ∙ sym starts in
          let w = (row_at rows m.0).low in
          let same : k ≡ m.0 =
          covers-disjoint rows c w (up m.0 m.1).low_word k m.0
          (contains-lies rows w k lk (rw lows at (low-in (row_at rows k) (up k lk))))
          (contains-lies rows w m.0 m.1 (low-in (row_at rows m.0) (up m.0 m.1))) in
          (omega arith, ap (row_at rows) (e ∙ same) ∙ m.2)

bytes-more : (i : ℕ) (rows : List Row) (r : Row) → rows_bytes i (rows ++ (r ∷ [])) ≡ rows_bytes i rows ++ row_bytes r
unfolding join_from
bytes-more i [] r = append-nil (row_bytes r)
bytes-more i (row ∷ rows) r = ap (λ xs. row_bytes row ++ xs) (bytes-more (suc i) rows r) ∙ sym
    (append_assoc (row_bytes row) (rows_bytes (suc i) rows) (row_bytes r))

-- One row more.
pub one_more : (out₀ out : List ℕ) (to i : ℕ) (rows : List Row) → i < length rows → out ≡ sets out₀ to
    (rows_bytes 0 (take i rows)) →
    sets out (to + 12 * i) (row_bytes (row_at rows i)) ≡ sets out₀ to (rows_bytes 0 (take (i + 1) rows))
one_more out₀ out to i rows l e =
    let n : length (rows_bytes 0 (take i rows)) ≡ 12 * i = bytes-length 0 (take i rows) ∙ ap (λ k. 12 * k)
    (length-take-le i rows (omega arith)) in
    ap (λ (z : List ℕ). sets z (to + 12 * i) (row_bytes (row_at rows i))) e
    ∙ ap (λ (k : ℕ). sets (sets out₀ to (rows_bytes 0 (take i rows))) (to + k) (row_bytes (row_at rows i))) (sym n)
    ∙ sym (sets-append out₀ to (rows_bytes 0 (take i rows)) (row_bytes (row_at rows i)))
    ∙ ap (sets out₀ to) (sym (bytes-more 0 (take i rows) (row_at rows i)) ∙ ap (rows_bytes 0)
    (sym (ap (λ k. take k rows) (add-one i) ∙ take-suc rows i _ l)))

-- All of them, after the count.
pub all-written : (out₀ : List ℕ) (to count : ℕ) (rows : List Row) → length rows ≡ count → count ≤ 32 →
    sets (set out₀ to (count % 256)) (to + 1) (rows_bytes 0 (take count rows)) ≡ sets out₀ to (table_bytes rows)
unfolding table_bytes
all-written out₀ to count rows e l =
    let b : count % 256 ≡ length rows = omega arith in
    ap₂ (λ (k : ℕ) (xs : List Row). sets (set out₀ to (count % 256)) k (rows_bytes 0 xs)) (add-one to)
    (ap (λ k. take k rows) (sym e) ∙ take-length rows)
    ∙ ap (λ (k : ℕ). sets (set out₀ to k) (suc to) (rows_bytes 0 rows)) b

-- The three words of a row.
pub three-words : (l l₁ l₂ l₃ : List ℕ) (to : ℕ) (a b c : ℤ) → l₁ ≡ sets l to (word_bytes a) → l₂ ≡ sets l₁ (to + 4)
    (word_bytes b) →
    l₃ ≡ sets l₂ (to + 8) (word_bytes c) → l₃ ≡ sets l to (word_bytes a ++ (word_bytes b ++ word_bytes c))
unfolding word_bytes four_bytes
three-words l l₁ l₂ l₃ to a b c p q r =
    r ∙ ap (λ (z : List ℕ). sets z (to + 8) (word_bytes c)) (q ∙ ap (λ (z : List ℕ). sets z (to + 4) (word_bytes b)) p)
    ∙ ap (λ (k : ℕ). sets (sets (sets l to (word_bytes a)) (to + 4) (word_bytes b)) k (word_bytes c)) e
    ∙ sym (sets-append (sets l to (word_bytes a)) (to + 4) (word_bytes b) (word_bytes c))
    ∙ sym (sets-append l to (word_bytes a) (word_bytes b ++ word_bytes c))
  where
    e : to + 8 ≡ to + 4 + 4
    e = omega arith

-- The place is not written.
pub row-bytes : (text : List ℕ) (place at : ℕ) → row_bytes (row_from text 0 at) ≡ row_bytes (row_from text place at)
unfolding row_bytes
row-bytes text place at = refl
