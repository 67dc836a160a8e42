-- Tests of numbers below n. Assumes nothing.
use mathlib.Core.Path.{◌≡◌, refl, sym, ◌∙◌}
use mathlib.Core.Bool.{Bool, ◌&&◌}
use Prim.Native.Nat.{ℕ, zero, suc, ◌≤◌, ◌<◌, max}
use native.Mathlib.Decide.{dec_lt}
use native.Mathlib.Omega.{arith}
use borrow.Author.Tests.{ltb-true, lt-ltb}
use lib.Dec.{ltb}
use Rattle.model.specs.Rules.Search.{all_below}
use Rattle.model.proofs.Basics.Tests.{by, second-fails}

-- two tests that agree below n
pub all_same : (n : ℕ) (test other : ℕ → Bool) → ((k : ℕ) → k < n → test k ≡ other k) → all_below n test ≡ all_below n other
unfolding all_below
all_same zero test other e = refl
all_same (suc n) test other e = rw (all_same n test other (λ k l. e k (omega arith)), e n (omega arith))

-- two numbers below n, by the greater
below-greater : (a b n : ℕ) → a < b → (ltb a n && ltb b n) ≡ ltb b n
below-greater a b n h =
    by (ltb b n) (λ t. rw (t, lt-ltb a n (omega (arith, ltb-true b n t)))) (λ t. second-fails (ltb a n) (ltb b n) t ∙ sym t)

below-least : (a b n : ℕ) → b ≤ a → (ltb a n && ltb b n) ≡ ltb a n
below-least a b n h =
    by (ltb a n) (λ t. rw (t, lt-ltb b n (omega (arith, ltb-true a n t)))) (λ t. rw t)

pub both-below : (a b n : ℕ) → (ltb a n && ltb b n) ≡ ltb (max a b) n
both-below a b n = go (dec_lt a b)
  where
    go : Dec (a < b) → (ltb a n && ltb b n) ≡ ltb (max a b) n
    go (yes h) = let e : max a b ≡ b = omega arith in rw e (below-greater a b n h)
    go (no h) = let e : max a b ≡ a = omega arith in rw e (below-least a b n (omega arith))
