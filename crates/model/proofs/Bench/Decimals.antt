-- Digits by tens: how long decimals are. Assumes nothing.
use Prim.Native.Nat.{ℕ, zero, suc, ◌/◌, ◌%◌, ◌^◌, ◌≤◌, ◌<◌}
use mathlib.Core.Bool.{Bool, true, false}
use mathlib.Core.List.{List, [], ◌∷◌, ◌++◌}
use mathlib.Core.Path.{◌≡◌, refl, ap, ◌∙◌}
use native.Mathlib.Omega.{arith}
use borrow.Author.Tests.{ltb-true, ltb-false, lt-ltb, le-ltb}
use lib.Dec.{ltb}
use lib.IntN.{ℤ, pos, negsuc}
use lib.ListN.{length, length-append}
use lib.Signed.{mag}
use Rattle.model.specs.Rules.Decimal.{digit, digits_up_to, natural, decimal}

-- The digits of n by the test whether it is below 10, where f more are allowed.
abbrev digits_by : ℕ → ℕ → Bool → List ℕ
digits_by f n b = elim b [ true ↦ digit n ∷ [] | false ↦ digits_up_to f (n / 10) ++ (digit (n % 10) ∷ []) ]

-- More digits allowed change nothing.
enough : (f g n : ℕ) → n < f → n < g → digits_up_to f n ≡ digits_up_to g n
unfolding digits_up_to
enough zero g n hf hg = absurd (omega arith)
enough (suc f) zero n hf hg = absurd (omega arith)
enough (suc f) (suc g) n hf hg = go (ltb n 10) refl (λ a b. enough f g (n / 10) a b)
  where
    go : (b : Bool) → ltb n 10 ≡ b → (n / 10 < f → n / 10 < g → digits_up_to f (n / 10) ≡ digits_up_to g (n / 10)) →
        digits_by f n b ≡ digits_by g n b
    go true e ih = refl
    go false e ih =
        let ten = ltb-false n 10 e in
        ap (λ (l : List ℕ). l ++ (digit (n % 10) ∷ [])) (ih (omega arith) (omega arith))

pub natural-one : (n : ℕ) → n < 10 → natural n ≡ digit n ∷ []
unfolding natural digits_up_to
natural-one n h = ap (digits_by n n) (lt-ltb n 10 h)

pub natural-more : (n : ℕ) → 10 ≤ n → natural n ≡ natural (n / 10) ++ (digit (n % 10) ∷ [])
unfolding natural digits_up_to
natural-more n h =
    ap (digits_by n n) (le-ltb n 10 h) ∙
    ap (λ (l : List ℕ). l ++ (digit (n % 10) ∷ [])) (enough n (suc (n / 10)) (n / 10) (omega arith) (omega arith))

-- A number below 10^k has at most k digits.
pub natural-length : (k n : ℕ) → n < 10 ^ suc k → length (natural n) ≤ suc k
natural-length zero n h = rw (natural-one n (omega arith)) (omega arith)
natural-length (suc k) n h = go (ltb n 10) refl (λ l. natural-length k (n / 10) l)
  where
    go : (b : Bool) → ltb n 10 ≡ b → (n / 10 < 10 ^ suc k → length (natural (n / 10)) ≤ suc k) → length (natural n) ≤ suc (suc k)
    go true e ih = rw (natural-one n (ltb-true n 10 e)) (omega arith)
    go false e ih = rw (natural-more n (ltb-false n 10 e)) (simp length-append (omega (arith, ih (omega arith))))

pub decimal-length : (z : ℤ) → mag z < 2 ^ 31 → length (decimal z) ≤ 11
unfolding decimal
decimal-length (pos k) m = omega (arith, natural-length 9 k (omega arith))
decimal-length (negsuc k) m = omega (arith, natural-length 9 (suc k) (omega arith))
