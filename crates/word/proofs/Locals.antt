-- What a signed local's bits give back, and the steps from a test on words to the definitions. Assumes nothing.
use mathlib.Core.Path.{◌≡◌, refl, sym, ap, ap₂, ◌∙◌}
use mathlib.Core.Bool.{Bool, true, false, cond}
use Prim.Native.Nat.{ℕ, suc, ◌-◌, ◌%◌, ◌^◌, ◌<◌}
use native.Mathlib.Omega.{arith}
use native.Mathlib.Decide.{dec_lt, ℕ_discrete}
use borrow.Author.Tests.{ltb-true, lt-ltb, le-ltb, eq-eqb, ne_eqb}
use lib.Dec.{ltb, eqb}
use lib.IntN.{ℤ, pos, negsuc}
use lib.Signed.{lt_z, mag}
use mir.Syntax.{w32}
use mir.Val.{to_z, of_z, SFits, bool_byte}
use mir.Facts.{to_z-of_z}
use borrow.Author.Rules.{sfits_of}
use Rattle.std.specs.Int.{int_min, int_max}
use Rattle.model.specs.Rules.Word.{bits_of, bit_word, eq_z, min_word, max_word}

-- a test on two words, of their bits
pub test : {a b : ℤ} {t : Bool} → SFits w32 a → SFits w32 b → lt_z (to_z w32 (of_z w32 a)) (to_z w32 (of_z w32 b)) ≡ t → lt_z a b ≡ t
test fa fb h = simp (to_z-of_z fa, to_z-of_z fb) at h

-- a word's bits
pub bits-of_z : {z : ℤ} → SFits w32 z → of_z w32 z ≡ bits_of z
unfolding bits_of
bits-of_z {z = pos n} f = plain n f.sfits
  where
    plain : (n : ℕ) → n < 2 ^ 31 → n ≡ n % 2 ^ 32
    plain n h = omega arith
bits-of_z {z = negsuc n} f = minus n f.sfits
  where
    minus : (n : ℕ) → n < 2 ^ 31 → 2 ^ 32 - suc n ≡ 2 ^ 32 - suc (n % 2 ^ 32)
    minus n h = omega arith

-- a word below 0 is -1 - n
pub record Minus (z : ℤ) : Type 0 where
  pub n : ℕ
  pub out : 4294967295 - n ≡ bits_of z
  pub small : n < 2 ^ 31

pub minus : {z : ℤ} → SFits w32 z → lt_z (to_z w32 (of_z w32 z)) (pos 0) ≡ true → Minus z
unfolding bits_of
minus {z = pos n} f h = absurd (never (ltb-true n 0 (rw (to_z-of_z f) at h)))
  where
    never : n < 0 → ⊥
    never p = omega arith
minus {z = negsuc n} f h = record { n = n; small = f.sfits; out = out n f.sfits }
  where
    out : (n : ℕ) → n < 2 ^ 31 → 4294967295 - n ≡ bits_of (negsuc n)
    out n h = omega arith

-- a test as a number
pub bit_of : (t : Bool) → pos (bool_byte t) ≡ bit_word t
bit_of true = refl
bit_of false = refl

-- the library's lesser and greater of two numbers: where both tests fail, the numbers are equal
by_order : (x y : ℕ) {u v : ℤ} → (x ≡ y → u ≡ v) → cond (ltb x y) u v ≡ cond (ltb y x) v u
by_order x y {u} {v} same = go (dec_lt x y) (dec_lt y x)
  where
    go : Dec (x < y) → Dec (y < x) → cond (ltb x y) u v ≡ cond (ltb y x) v u
    go (yes p) q = simp (lt-ltb x y p, le-ltb y x (omega arith))
    go (no p) (yes q) = simp (lt-ltb y x q, le-ltb x y (omega arith))
    go (no p) (no q) = simp (le-ltb x y (omega arith), le-ltb y x (omega arith)) (sym (same (omega arith)))

pub least_of : (a b : ℤ) → int_min a b ≡ min_word a b
unfolding min_word
least_of (pos a) (pos b) = by_order b a (ap pos)
least_of (pos a) (negsuc b) = refl
least_of (negsuc a) (pos b) = refl
least_of (negsuc a) (negsuc b) = by_order a b (λ e. ap negsuc (sym e))

pub greatest_of : (a b : ℤ) → int_max a b ≡ max_word a b
unfolding max_word
greatest_of (pos a) (pos b) = by_order b a (λ e. ap pos (sym e))
greatest_of (pos a) (negsuc b) = refl
greatest_of (negsuc a) (pos b) = refl
greatest_of (negsuc a) (negsuc b) = by_order a b (ap negsuc)

-- equal words, and equal bits
pub same_bits : {a b : ℤ} → SFits w32 a → SFits w32 b → of_z w32 a ≡ of_z w32 b → a ≡ b
same_bits fa fb h = sym (to_z-of_z fa) ∙ ap (to_z w32) h ∙ to_z-of_z fb

eq_z-refl : (a : ℤ) → eq_z a a ≡ true
eq_z-refl (pos a) = eq-eqb a a refl
eq_z-refl (negsuc a) = eq-eqb a a refl

pub eq_z-same : {a b : ℤ} → a ≡ b → eq_z a b ≡ true
eq_z-same {a} h = ap (eq_z a) (sym h) ∙ eq_z-refl a

pub eq_z-other : (a b : ℤ) → (a ≡ b → ⊥) → eq_z a b ≡ false
eq_z-other (pos a) (pos b) h = ne_eqb a b (λ e. h (ap pos e))
eq_z-other (pos a) (negsuc b) h = refl
eq_z-other (negsuc a) (pos b) h = refl
eq_z-other (negsuc a) (negsuc b) h = ne_eqb a b (λ e. h (ap negsuc e))

pub test-same : {a b : ℤ} → SFits w32 a → SFits w32 b → of_z w32 a ≡ of_z w32 b → eq_z a b ≡ true
test-same fa fb h = eq_z-same (same_bits fa fb h)

pub test-other : (a b : ℤ) → (of_z w32 a ≡ of_z w32 b → ⊥) → eq_z a b ≡ false
test-other a b h = eq_z-other a b (λ e. h (ap (of_z w32) e))

-- the test of two words' bits
pub eq_bits : {a b : ℤ} → SFits w32 a → SFits w32 b → eqb (of_z w32 a) (of_z w32 b) ≡ eq_z a b
eq_bits {a} {b} fa fb = go (ℕ_discrete (of_z w32 a) (of_z w32 b))
  where
    go : Dec (of_z w32 a ≡ of_z w32 b) → eqb (of_z w32 a) (of_z w32 b) ≡ eq_z a b
    go (yes h) = eq-eqb _ _ h ∙ sym (test-same fa fb h)
    go (no h) = ne_eqb _ _ h ∙ sym (test-other a b h)

-- a word that a call gave, read back from its bits
pub kept : (z : ℤ) → mag z < 2 ^ 31 → to_z w32 (of_z w32 z) ≡ z
kept z h = to_z-of_z {w = w32} (sfits_of h)

-- what a call of `bits` on a local says
pub of-local : {a : ℤ} {x : ℕ} → SFits w32 a → x ≡ bits_of (to_z w32 (of_z w32 a)) → x ≡ bits_of a
of-local fa h = h ∙ ap bits_of (to_z-of_z fa)

-- the result of a call on two locals
pub of_two : (f : ℤ → ℤ → ℤ) {a b r : ℤ} → SFits w32 a → SFits w32 b → mag r < 2 ^ 31
    → r ≡ f (to_z w32 (of_z w32 a)) (to_z w32 (of_z w32 b)) → to_z w32 (of_z w32 r) ≡ f a b
of_two f {r = r} fa fb fr h = kept r fr ∙ h ∙ ap₂ f (to_z-of_z fa) (to_z-of_z fb)
