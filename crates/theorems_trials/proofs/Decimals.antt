-- Decimals say their number and their word. Assumes nothing.
use Prim.Native.Nat.{ℕ, zero, suc, ◌+◌, ◌-◌, ◌*◌, ◌/◌, ◌%◌, ◌≤◌, ◌<◌}
use mathlib.Core.Bool.{Bool, true, false}
use mathlib.Core.List.{List, [], ◌∷◌, ◌++◌}
use mathlib.Core.Path.{◌≡◌, refl, sym, ap, ◌∙◌}
use native.Mathlib.Omega.{arith}
use borrow.Author.Tests.{ltb-true, ltb-false}
use lib.Dec.{ltb}
use lib.IntN.{ℤ, pos, negsuc}
use lib.ListN.{length, get_or, length-append, get_or-append}
use Rattle.model.specs.Says.Feasible.{All}
use Rattle.model.specs.Rules.Decimal.{digit, natural, decimal}
use Rattle.theorems_trials.specs.Decimals.{value_of, SaysNumber, SaysWord}
use Rattle.model.proofs.Basics.All.{all_append}
use Rattle.model.proofs.Bench.Decimals.{natural-one, natural-more}

-- What holds below 10, and of n where it holds of n / 10, holds of every number.
by-tens-up-to : (Q : ℕ → Type 0) → ((n : ℕ) → n < 10 → Q n) → ((n : ℕ) → 10 ≤ n → Q (n / 10) → Q n) → (f n : ℕ) → n < f → Q n
by-tens-up-to Q low high zero n h = absurd (omega arith)
by-tens-up-to Q low high (suc f) n h = go (ltb n 10) refl (λ l. by-tens-up-to Q low high f (n / 10) l)
  where
    go : (b : Bool) → ltb n 10 ≡ b → (n / 10 < f → Q (n / 10)) → Q n
    go true e ih = low n (ltb-true n 10 e)
    go false e ih = let ten = ltb-false n 10 e in high n ten (ih (omega arith))

pub by-tens : (Q : ℕ → Type 0) → ((n : ℕ) → n < 10 → Q n) → ((n : ℕ) → 10 ≤ n → Q (n / 10) → Q n) → (n : ℕ) → Q n
by-tens Q low high n = by-tens-up-to Q low high (suc n) n (omega arith)

-- Digits read one more.
value-more : (v : ℕ) (ds : List ℕ) (d : ℕ) → value_of v (ds ++ (d ∷ [])) ≡ 10 * value_of v ds + (d - 48)
unfolding value_of
value-more v [] d = refl
value-more v (c ∷ ds) d = value-more (10 * v + (c - 48)) ds d

natural-some : (n : ℕ) → 0 < length (natural n)
natural-some =
    by-tens (λ n. 0 < length (natural n)) (λ n l. rw (natural-one n l) (omega arith))
    (λ n l h. rw (natural-more n l) (simp length-append (omega arith)))

-- No number but 0 starts with 0.
natural-first : (n : ℕ) → 0 < n → ¬ (get_or (natural n) 0 0 ≡ 48)
natural-first =
    by-tens (λ n. 0 < n → ¬ (get_or (natural n) 0 0 ≡ 48))
    (λ n l some e. let f : 48 + n ≡ 48 = rw (natural-one n l) at e in absurd (omega arith))
    (λ n l h some e. h (omega arith) (sym (first n l) ∙ e))
  where
    first : (n : ℕ) → 10 ≤ n → get_or (natural n) 0 0 ≡ get_or (natural (n / 10)) 0 0
    first n l =
        ap (λ (ds : List ℕ). get_or ds 0 0) (natural-more n l) ∙
        get_or-append (natural (n / 10)) (digit (n % 10) ∷ []) 0 0 (natural-some (n / 10))

natural-value : (n : ℕ) → value_of 0 (natural n) ≡ n
unfolding value_of
natural-value =
    by-tens (λ n. value_of 0 (natural n) ≡ n) (λ n l. ap (value_of 0) (natural-one n l) ∙ one n)
    (λ n l h. ap (value_of 0) (natural-more n l) ∙ value-more 0 (natural (n / 10)) (digit (n % 10)) ∙ more n h)
  where
    one : (n : ℕ) → value_of 0 (digit n ∷ []) ≡ n
    one n = omega arith

    more : (n : ℕ) → value_of 0 (natural (n / 10)) ≡ n / 10 → 10 * value_of 0 (natural (n / 10)) + (digit (n % 10) - 48) ≡ n
    more n h = omega arith

natural-digits : (n : ℕ) → All (λ d. (48 ≤ d) × (d ≤ 57)) (natural n)
natural-digits =
    by-tens (λ n. All (λ d. (48 ≤ d) × (d ≤ 57)) (natural n))
    (λ n l. rw (natural-one n l) ((omega arith, omega arith), tt))
    (λ n l h. rw (natural-more n l)
    (all_append (λ d. (48 ≤ d) × (d ≤ 57)) (natural (n / 10)) _ h ((omega arith, omega arith), tt)))

-- The digits of a number say it, and a decimal its word.
pub natural-says : (n : ℕ) → SaysNumber n (natural n)
natural-says n =
    record {
      digits = natural-digits n;
      some = natural-some n;
      value = natural-value n;
      shortest = λ long. natural-first n (positive n long);
    }
  where
    positive : (n : ℕ) → 1 < length (natural n) → 0 < n
    positive zero long = absurd (omega (arith, ap length (natural-one 0 (omega arith))))
    positive (suc n) long = omega arith

pub decimal-says : (z : ℤ) → SaysWord z (decimal z)
unfolding decimal
decimal-says (pos n) = SaysWord.plus (natural-says n)
decimal-says (negsuc n) = SaysWord.minus (natural-says (suc n))
