-- Tests by how they come out. Assumes nothing.
use Prim.Native.Nat.{ℕ, suc, ◌-◌, ◌≤◌, ◌<◌}
use mathlib.Core.Bool.{Bool, true, false, ◌&&◌, not, cond}
use mathlib.Core.Path.{◌≡◌, refl, sym}
use native.Mathlib.Omega.{arith}
use lib.Dec.{T, ltb, ltb→lt, nltb→le}
use lib.IntN.{ℤ, pos, negsuc, sub_ℕ}

pub never : {X : Type 0} → false ≡ true → X
never p = absurd (no p)
  where
    no : false ≡ true → ⊥
    no p = let z : ◌≡◌ {A = ℕ} 0 1 = cc in omega arith

pub by : {X : Type 0} (b : Bool) → (b ≡ true → X) → (b ≡ false → X) → X
by true f g = f refl
by false f g = g refl

pub both : (a b : Bool) → (a && b) ≡ true → (a ≡ true) × (b ≡ true)
both true b h = (refl, h)
both false b h = never h

pub first-fails : (a b : Bool) → a ≡ false → (a && b) ≡ false
first-fails true b h = never (sym h)
first-fails false b h = refl

pub second-fails : (a b : Bool) → b ≡ false → (a && b) ≡ false
second-fails true b h = h
second-fails false b h = refl

-- Two tests that pass together come out alike.
pub together : (a b : Bool) → (a ≡ true → b ≡ true) → (b ≡ true → a ≡ true) → a ≡ b
together true b f g = sym (f refl)
together false true f g = g refl
together false false f g = refl

-- a − b of two natural numbers, by which is the larger.
pub sub_by : (a b : ℕ) (P : ℤ → Type 0) → (a < b → P (negsuc (b - suc a))) → (b ≤ a → P (pos (a - b))) → P (sub_ℕ a b)
sub_by a b P f g = go (ltb a b) (λ t. f (ltb→lt a b t)) (λ t. g (nltb→le a b t))
  where
    go : (t : Bool) → (T t → P (negsuc (b - suc a))) → (T (not t) → P (pos (a - b))) →
        P (cond t (negsuc (b - suc a)) (pos (a - b)))
    go true f g = f tt
    go false f g = g tt
