-- The nearest word is what its name says. Assumes nothing.
use Prim.Native.Nat.{ℕ, zero, suc, ◌+◌, ◌-◌, ◌≤◌}
use mathlib.Core.Logic.{◌↔◌}
use mathlib.Core.Path.{◌≡◌, ap, subst}
use native.Mathlib.Omega.{arith}
use borrow.Author.Rules.{sfits_of}
use lib.IntN.{ℤ, pos, negsuc, nat_abs}
use mir.Syntax.{w32}
use Rattle.model.specs.Rules.Word.{nearest}
use Rattle.model.specs.Says.Words.{IsWord}
use Rattle.theorems_images.specs.Nearest.{WordsRange, distance, NearestWord}
use Rattle.model.proofs.Basics.Order.{le-true, true-le}
use Rattle.model.proofs.Basics.Tests.{sub_by}
use Rattle.model.proofs.Rows.Levels.{word-range, range-word}

pub words-range : WordsRange
words-range z = (
  λ f. let r = word-range z f in (true-le r.0, true-le r.1),
  λ r. range-word z (le-true r.0) (le-true r.1),
)

-- How far two numbers are apart: with one sign, and with two.
apart-pos : (m n : ℕ) → distance (pos m) (pos n) ≡ m - n + (n - m)
apart-pos m zero = omega arith
apart-pos m (suc n) = sub_by m (suc n) (λ z. nat_abs z ≡ m - suc n + (suc n - m)) (λ h. omega arith) (λ h. omega arith)

apart-neg : (m n : ℕ) → distance (negsuc m) (negsuc n) ≡ m - n + (n - m)
apart-neg m n = sub_by (suc n) (suc m) (λ z. nat_abs z ≡ m - n + (n - m)) (λ h. omega arith) (λ h. omega arith)

apart_below : (m n : ℕ) → distance (negsuc m) (pos n) ≡ suc m + n
apart_below m zero = sub_by 0 (suc m) (λ z. nat_abs z ≡ suc m + 0) (λ h. omega arith) (λ h. omega arith)
apart_below m (suc n) = omega arith

apart_above : (m n : ℕ) → distance (pos m) (negsuc n) ≡ suc m + n
apart_above m n = omega arith

none-nearer : (z v : ℤ) → IsWord v → distance (nearest z) z ≤ distance v z
unfolding nearest
none-nearer (pos n) (pos k) h = let l = h.sfits in simp apart-pos (omega arith)
none-nearer (pos n) (negsuc k) h = let l = h.sfits in simp (apart-pos, apart_below) (omega arith)
none-nearer (negsuc n) (pos k) h = let l = h.sfits in simp (apart-neg, apart_above) (omega arith)
none-nearer (negsuc n) (negsuc k) h = let l = h.sfits in simp apart-neg (omega arith)

pub nearest-is : (z : ℤ) → NearestWord z (nearest z)
unfolding nearest
nearest-is (pos n) =
    record {
      word = sfits_of {w = w32} (omega arith);
      itself = λ h. let l = h.sfits in ap pos (omega arith);
      none-nearer = none-nearer (pos n);
    }
nearest-is (negsuc n) =
    record {
      word = sfits_of {w = w32} (omega arith);
      itself = λ h. let l = h.sfits in ap negsuc (omega arith);
      none-nearer = none-nearer (negsuc n);
    }

-- There is no other.
only : (z w : ℤ) → NearestWord z w → nearest z ≡ w
unfolding nearest
only (pos n) (pos m) h =
    let l = h.word.sfits in
    let d = simp apart-pos at (h.none-nearer (nearest (pos n)) (nearest-is (pos n)).word) in
    ap pos (omega arith)
only (pos n) (negsuc m) h =
    let d = simp (apart-pos, apart_below) at (h.none-nearer (nearest (pos n)) (nearest-is (pos n)).word) in
    absurd (omega arith)
only (negsuc n) (pos m) h =
    let d = simp (apart-neg, apart_above) at (h.none-nearer (nearest (negsuc n)) (nearest-is (negsuc n)).word) in
    absurd (omega arith)
only (negsuc n) (negsuc m) h =
    let l = h.word.sfits in
    let d = simp apart-neg at (h.none-nearer (nearest (negsuc n)) (nearest-is (negsuc n)).word) in
    ap negsuc (omega arith)

pub nearest-word : (z w : ℤ) → (nearest z ≡ w) ↔ NearestWord z w
nearest-word z w = (λ e. subst (λ v. NearestWord z v) e (nearest-is z), only z w)
