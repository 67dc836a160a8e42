-- Numbers below n that go to different numbers below m are no more than m. Assumes nothing.
use mathlib.Core.Path.{◌≡◌, refl, sym, ap, ◌∙◌}
use mathlib.Core.Bool.{Bool, true, false, cond}
use mathlib.Core.List.{List}
use Prim.Native.Nat.{ℕ, zero, suc, ◌≤◌, ◌<◌}
use native.Mathlib.Omega.{arith}
use lib.Dec.{eqb}
use lib.ListN.{length, get_or}
use borrow.Author.Tests.{eqb-true, eqb-false}
use Rattle.model.specs.Rules.Reads.{rank}
use Rattle.model.proofs.Pairs.Decide.{rank-at}

-- The number m is given up for what the last one goes to.
abbrev around : (ℕ → ℕ) → ℕ → ℕ → ℕ → ℕ
around f n m i = cond (eqb (f i) m) (f n) (f i)

module _ (f : ℕ → ℕ) (n m : ℕ) (low : (i : ℕ) → i < suc n → f i < suc m)
    (apart : (i j : ℕ) → i < suc n → j < suc n → f i ≡ f j → i ≡ j) where
  around-low : (i : ℕ) → i < n → around f n m i < m
  around-low i lt = go (eqb (f i) m) refl
    where
      go : (b : Bool) → eqb (f i) m ≡ b → cond b (f n) (f i) < m
      go true e =
          let z : f n ≡ m → ⊥ = λ q. absurd (omega (arith, apart i n (omega arith) (omega arith) (eqb-true (f i) m e ∙ sym q))) in
          omega (arith, low n (omega arith), z)
      go false e = omega (arith, low i (omega arith), eqb-false (f i) m e)

  around-apart : (i j : ℕ) → i < n → j < n → around f n m i ≡ around f n m j → i ≡ j
  around-apart i j li lj = go (eqb (f i) m) (eqb (f j) m) refl refl
    where
      go : (b c : Bool) → eqb (f i) m ≡ b → eqb (f j) m ≡ c → cond b (f n) (f i) ≡ cond c (f n) (f j) → i ≡ j
      go true true e g q = apart i j (omega arith) (omega arith) (eqb-true (f i) m e ∙ sym (eqb-true (f j) m g))
      go true false e g q = absurd (omega (arith, apart n j (omega arith) (omega arith) q))
      go false true e g q = absurd (omega (arith, apart i n (omega arith) (omega arith) q))
      go false false e g q = apart i j (omega arith) (omega arith) q

pub pigeons : (m n : ℕ) (f : ℕ → ℕ) → ((i : ℕ) → i < n → f i < m) →
    ((i j : ℕ) → i < n → j < n → f i ≡ f j → i ≡ j) → n ≤ m
pigeons m zero f low apart = omega arith
pigeons zero (suc n) f low apart = absurd (omega (arith, low 0 (omega arith)))
pigeons (suc m) (suc n) f low apart =
    let h = pigeons m n (around f n m) (around-low f n m low apart) (around-apart f n m low apart) in omega arith

-- An order in which every signal stands once has as many places as there are signals.
pub order-length : (order : List ℕ) (n : ℕ) → ((x : ℕ) → x < n → rank order x < length order) →
    ((j : ℕ) → j < length order → rank order (get_or order j 0) ≡ j) → ((j : ℕ) → j < length order → get_or order j 0 < n) →
    length order ≡ n
order-length order n put once only =
    let a = pigeons n (length order) (λ j. get_or order j 0) only
    (λ i j li lj e. sym (once i li) ∙ ap (rank order) e ∙ once j lj) in
    let b = pigeons (length order) n (rank order) put
    (λ x y lx ly e. sym (rank-at order x (put x lx)) ∙ ap (λ j. get_or order j 0) e ∙ rank-at order y (put y ly)) in
    omega arith
