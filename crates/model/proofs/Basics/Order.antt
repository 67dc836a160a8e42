-- The order of integers and the tests that decide it. Assumes nothing.
use mathlib.Core.Bool.{Bool, true, false, false≢true, true≢false}
use mathlib.Core.Logic.{◌↔◌}
use mathlib.Core.Path.{◌≡◌, refl, sym, ◌∙◌}
use borrow.Author.Tests.{ltb-true, ltb-false, leb-false, le-leb, lt-leb, lt-ltb}
use lib.Dec.{T}
use lib.IntN.{ℤ, pos, negsuc}
use lib.Signed.{lt_z, le_z, ◌≤ℤ◌, ◌<ℤ◌}

passed : (t : Bool) → T t → t ≡ true
passed true h = refl
passed false h = absurd h

passes : (t : Bool) → t ≡ true → T t
passes true h = tt
passes false h = absurd (false≢true h)

pub le-true : {a b : ℤ} → a ≤ℤ b → le_z a b ≡ true
le-true {a} {b} h = passed (le_z a b) h.le

pub true-le : {a b : ℤ} → le_z a b ≡ true → a ≤ℤ b
true-le {a} {b} h = record { le = passes (le_z a b) h }

pub lt-true : {a b : ℤ} → a <ℤ b → lt_z a b ≡ true
lt-true {a} {b} h = passed (lt_z a b) h.lt

pub true-lt : {a b : ℤ} → lt_z a b ≡ true → a <ℤ b
true-lt {a} {b} h = record { lt = passes (lt_z a b) h }

-- One of two is not above the other.
pub below-not : (a b : ℤ) → lt_z a b ≡ true → le_z b a ≡ false
below-not (pos a) (pos b) h = lt-leb b a (ltb-true a b h)
below-not (pos a) (negsuc b) h = absurd (false≢true h)
below-not (negsuc a) (pos b) h = refl
below-not (negsuc a) (negsuc b) h = lt-leb a b (ltb-true b a h)

pub below_fails : (a b : ℤ) → lt_z a b ≡ false → le_z b a ≡ true
below_fails (pos a) (pos b) h = le-leb b a (ltb-false a b h)
below_fails (pos a) (negsuc b) h = refl
below_fails (negsuc a) (pos b) h = absurd (true≢false h)
below_fails (negsuc a) (negsuc b) h = le-leb a b (ltb-false b a h)

above-not : (a b : ℤ) → le_z a b ≡ false → lt_z b a ≡ true
above-not (pos a) (pos b) h = lt-ltb b a (leb-false a b h)
above-not (pos a) (negsuc b) h = refl
above-not (negsuc a) (pos b) h = absurd (true≢false h)
above-not (negsuc a) (negsuc b) h = lt-ltb a b (leb-false b a h)

pub le_decided : (a b : ℤ) → (le_z a b ≡ true) ↔ (a ≤ℤ b)
le_decided a b = (true-le, le-true)

-- What is not at most b is above it, and the other way.
pub not-le : (a b : ℤ) → ¬ (a ≤ℤ b) → b <ℤ a
not-le a b u = go (le_z a b) refl
  where
    go : (t : Bool) → le_z a b ≡ t → b <ℤ a
    go true e = absurd (u (true-le e))
    go false e = true-lt (above-not a b e)

pub lt_not_le : {a b : ℤ} → b <ℤ a → ¬ (a ≤ℤ b)
lt_not_le {a} {b} l h = true≢false (sym (le-true h) ∙ below-not b a (lt-true l))
