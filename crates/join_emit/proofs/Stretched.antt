-- Tables that follow one another, joined, are one table joined. Assumes nothing.
use Prim.Native.Nat.{ℕ, zero, suc, ◌+◌, ◌-◌, ◌≤◌, ◌<◌}
use mathlib.Core.List.{List, ◌∷◌, ◌++◌}
use mathlib.Core.Path.{◌≡◌, refl, sym, ap, ap₂, ◌∙◌}
use native.Mathlib.Omega.{arith}
use Rattle.model.specs.Rules.Image.{joined}
use Rattle.model.specs.Rules.Search.{table, table_from, join_from}
use Rattle.model.proofs.Images.Stretches.{joined-cons}
use Rattle.join_code.proofs.Pieces.{joined-append}

table-split : {A : Type 0} (f : ℕ → A) (i m n : ℕ) → table_from i (m + n) f ≡ table_from i m f ++ table_from (i + m) n f
unfolding table_from
table-split f i zero n =
    let a : 0 + n ≡ n = omega arith in
    let b : i + 0 ≡ i = omega arith in
    rw (a, b) refl
table-split f i (suc m) n =
    let a : suc m + n ≡ suc (m + n) = omega arith in
    let b : i + suc m ≡ suc i + m = omega arith in
    rw (a, b) (ap (λ l. f i ∷ l) (table-split f (suc i) m n))

-- Tables that agree between two numbers.
same-within : {A : Type 0} (f g : ℕ → A) (i n : ℕ) → ((c : ℕ) → i ≤ c → c < i + n → f c ≡ g c) → table_from i n f ≡ table_from i n g
unfolding table_from
same-within f g i zero e = refl
same-within f g i (suc n) e =
    ap₂ ◌∷◌ (e i (omega arith) (omega arith)) (same-within f g (suc i) n (λ c le lt. e c (omega arith) (omega arith)))

module _ (m : ℕ) (b : ℕ → ℕ) (rises : (k : ℕ) → k < m → b k ≤ b (k + 1)) (each : ℕ → ℕ → List ℕ) (whole : ℕ → List ℕ)
    (same : (k x : ℕ) → k < m → b k ≤ x → x < b (k + 1) → each k x ≡ whole x) where
  from : (n k : ℕ) → k + n ≤ m →
      (b k ≤ b (k + n)) ×
      (joined (table_from k n (λ j. joined (table_from (b j) (b (j + 1) - b j) (each j)))) ≡
      joined (table_from (b k) (b (k + n) - b k) whole))
  unfolding table_from join_from
  from zero k le =
      let a : k + 0 ≡ k = omega arith in
      let c : b k - b k ≡ 0 = omega arith in
      rw (a, c) (omega arith, refl)
  from (suc n) k le =
      let a : k + suc n ≡ suc k + n = omega arith in
      let s : suc k ≡ k + 1 = omega arith in
      let ih = rw s at (from n (suc k) (omega arith)) in
      let r = rises k (omega arith) in
      let c : b (k + 1 + n) - b k ≡ (b (k + 1) - b k) + (b (k + 1 + n) - b (k + 1)) = omega (arith, ih.0) in
      let d : b k + (b (k + 1) - b k) ≡ b (k + 1) = omega arith in
      rw (a, s) (
        omega (arith, ih.0),
        joined-cons (joined (table_from (b k) (b (k + 1) - b k) (each k)))
            (table_from (k + 1) n (λ j. joined (table_from (b j) (b (j + 1) - b j) (each j)))) ∙
            ap₂ ◌++◌
            (ap joined
            (same-within (each k) whole (b k) (b (k + 1) - b k) (λ x lo hi. same k x (omega arith) lo (omega arith))))
            ih.1 ∙
            sym
            (ap (λ (z : ℕ). joined (table_from (b k) z whole)) c ∙
            ap joined (table-split whole (b k) (b (k + 1) - b k) (b (k + 1 + n) - b (k + 1))) ∙
            joined-append (table_from (b k) (b (k + 1) - b k) whole) _ ∙
            ap (λ (z : ℕ).
            joined (table_from (b k) (b (k + 1) - b k) whole) ++ joined (table_from z (b (k + 1 + n) - b (k + 1)) whole)) d),
      )

  pub all-stretches : b 0 ≡ 0 →
      joined (table m (λ j. joined (table_from (b j) (b (j + 1) - b j) (each j)))) ≡ joined (table (b m) whole)
  unfolding table
  all-stretches z =
      let a : 0 + m ≡ m = omega arith in
      let c : b m - b 0 ≡ b m = omega (arith, z) in
      (rw a at (from m 0 (omega arith))).1 ∙ ap (λ (k : ℕ). joined (table_from (b 0) k whole)) c ∙
      ap (λ (k : ℕ). joined (table_from k (b m) whole)) z
