-- What the library gives is the nearest word to a result: by `clamp`, and by an operator that saturates. Assumes nothing.
use mathlib.Core.Path.{◌≡◌, refl, ap, ap₂, ◌∙◌}
use Prim.Native.Nat.{◌^◌, ◌<◌, min}
use native.Mathlib.Decide.{dec_lt}
use native.Mathlib.Omega.{arith}
use borrow.Author.Tests.{lt-ltb, le-ltb}
use lib.IntN.{ℤ, pos, negsuc}
use lib.Signed.{mag}
use mir.Syntax.{w32}
use mir.Val.{to_z, of_z, SFits}
use mir.Facts.{to_z-of_z}
use Rattle.std.specs.Int.{saturate_signed, int_min, int_max}
use Rattle.model.specs.Rules.Word.{nearest}
use Rattle.word.proofs.Locals.{kept}

pub saturated : (z : ℤ) → saturate_signed w32 z ≡ nearest z
unfolding nearest
saturated (pos n) = refl
saturated (negsuc n) = refl

pub clamped : (z : ℤ) → int_max (negsuc 2147483647) (int_min z (pos 2147483647)) ≡ nearest z
unfolding nearest
clamped (pos n) = go (dec_lt 2147483647 n)
  where
    go : Dec (2147483647 < n) → int_max (negsuc 2147483647) (int_min (pos n) (pos 2147483647)) ≡ pos (min n 2147483647)
    go (yes p) = simp (lt-ltb 2147483647 n p) (ap pos (omega arith))
    go (no p) = simp (le-ltb 2147483647 n (omega arith)) (ap pos (omega arith))
clamped (negsuc n) = go (dec_lt 2147483647 n)
  where
    go : Dec (2147483647 < n) → int_max (negsuc 2147483647) (negsuc n) ≡ negsuc (min n 2147483647)
    go (yes p) = simp (lt-ltb 2147483647 n p) (ap negsuc (omega arith))
    go (no p) = simp (le-ltb 2147483647 n (omega arith)) (ap negsuc (omega arith))

pub nearest-small : (z : ℤ) → mag (nearest z) < 2 ^ 31
unfolding nearest
nearest-small (pos n) = omega arith
nearest-small (negsuc n) = omega arith

pub of-result : (f : ℤ → ℤ → ℤ) {a b r : ℤ} → SFits w32 a → SFits w32 b → mag r < 2 ^ 31 →
    r ≡ saturate_signed w32 (f (to_z w32 (of_z w32 a)) (to_z w32 (of_z w32 b))) → to_z w32 (of_z w32 r) ≡ nearest (f a b)
of-result f {r = r} fa fb small e =
    kept r small ∙ e ∙ saturated _ ∙ ap nearest (ap₂ f (to_z-of_z fa) (to_z-of_z fb))
