-- A word by its sign, words one after another, and bytes put one after another. Assumes nothing.
use Prim.Native.Nat.{ℕ, ◌+◌, ◌-◌, ◌^◌, ◌<◌}
use mathlib.Core.Bool.{true, false}
use mathlib.Core.List.{List, [], ◌∷◌, ◌++◌, append_assoc, append-nil}
use mathlib.Core.Path.{◌≡◌, refl, sym, ap, subst, ◌∙◌}
use native.Mathlib.Nat.{mod-eq_of_lt}
use native.Mathlib.Numerals.{add-one}
use native.Mathlib.Omega.{arith}
use borrow.Author.Tests.{ltb-true}
use lib.IntN.{ℤ, pos, negsuc}
use lib.ListN.{length, get_or, take, set, length-append, length-set}
use lib.Seq.{sets, length-sets, take-suc}
use lib.Signed.{mag, lt_z}
use mir.Syntax.{w32}
use mir.Val.{to_z, of_z}
use Rattle.model.specs.Rules.Decimal.{natural, decimal, spaced, line_of}
use Rattle.model.specs.Rules.Word.{bits_of}
use Rattle.model.proofs.Images.Stretches.{sets-append}
use Rattle.word.proofs.Locals.{kept}
use Rattle.decimal.specs.PutBytes.{PutBytes}

-- A negative word, and one that is not.
pub decimal-minus : (z : ℤ) → mag z < 2 ^ 31 → lt_z (to_z w32 (of_z w32 z)) (pos 0) ≡ true → decimal z ≡
    45 ∷ natural (4294967295 - bits_of z + 1)
unfolding decimal bits_of
decimal-minus (pos k) m t = absurd (never (ltb-true k 0 (rw (kept (pos k) m) at t)))
  where
    never : k < 0 → ⊥
    never p = omega arith
decimal-minus (negsuc k) m t = ap (λ (n : ℕ). 45 ∷ natural n) (omega (arith, mod-eq_of_lt {n = k} {m = 2 ^ 32} (omega arith)))

pub decimal-plus : (z : ℤ) → mag z < 2 ^ 31 → lt_z (to_z w32 (of_z w32 z)) (pos 0) ≡ false → decimal z ≡ natural (bits_of z)
unfolding decimal bits_of
decimal-plus (pos k) m t = ap natural (sym (mod-eq_of_lt (omega arith)))
decimal-plus (negsuc k) m t =
    let e : true ≡ false = rw (kept (negsuc k) m) at t in let z : ◌≡◌ {A = ℕ} 0 1 = cc in absurd (omega arith)

-- Words one after another.
spaced-append : (xs ys : List ℤ) → spaced (xs ++ ys) ≡ spaced xs ++ spaced ys
unfolding spaced
spaced-append [] ys = refl
spaced-append (x ∷ xs) ys =
    ap (λ (l : List ℕ). 32 ∷ (decimal x ++ l)) (spaced-append xs ys) ∙
    ap (λ (l : List ℕ). 32 ∷ l) (sym (append_assoc (decimal x) (spaced xs) (spaced ys)))

spaced-one : (w : ℤ) → spaced (w ∷ []) ≡ 32 ∷ (decimal w ++ [])
unfolding spaced
spaced-one w = refl

pub spaced-more : (ws : List ℤ) (i : ℕ) → i < length ws → spaced (take (i + 1) ws) ≡
    spaced (take i ws) ++ (32 ∷ decimal (get_or ws i (pos 0)))
spaced-more ws i h =
    ap spaced (rw add-one (take-suc ws i (pos 0) h)) ∙ spaced-append (take i ws) (get_or ws i (pos 0) ∷ []) ∙
    ap (λ (l : List ℕ). spaced (take i ws) ++ l)
    (spaced-one (get_or ws i (pos 0)) ∙ ap (λ (l : List ℕ). 32 ∷ l) (append-nil (decimal (get_or ws i (pos 0)))))

pub spaced-none : spaced [] ≡ []
unfolding spaced
spaced-none = refl

-- Bytes put one after another.
pub put_then : {l : List ℕ} {at : ℕ} {xs l₁ : List ℕ} {e₁ : ℕ} {ys l₂ : List ℕ} {e₂ : ℕ} → PutBytes l at xs l₁ e₁ →
    PutBytes l₁ e₁ ys l₂ e₂ →
    PutBytes l at (xs ++ ys) l₂ e₂
put_then {l} {at} {xs} {l₁} {e₁} {ys} {l₂} {e₂} p q =
    record {
      holds =
          q.holds ∙ ap (λ (z : List ℕ). sets z e₁ ys) p.holds ∙ ap (λ (j : ℕ). sets (sets l at xs) j ys) p.ends ∙
          sym (sets-append l at xs ys);
      ends = rw (length-append xs ys) (omega (arith, p.ends, q.ends));
      fits = q.fits;
    }

pub put_one : (l : List ℕ) (at b : ℕ) → at < length l → PutBytes l at (b ∷ []) (set l at b) (at + 1)
put_one l at b h = record { holds = refl; ends = refl; fits = rw (length-set l at b) (omega arith) }

pub put-length : {l : List ℕ} {at : ℕ} {xs l₁ : List ℕ} {e : ℕ} → PutBytes l at xs l₁ e → length l₁ ≡ length l
put-length {l} {at} {xs} p = ap length p.holds ∙ length-sets l at xs

pub put_is : {l : List ℕ} {at : ℕ} {xs ys l₁ : List ℕ} {e : ℕ} → xs ≡ ys → PutBytes l at xs l₁ e → PutBytes l at ys l₁ e
put_is {l} {at} {xs} {ys} {l₁} {e} q p = subst (λ (z : List ℕ). PutBytes l at z l₁ e) q p

pub line-is : (j : ℕ) (ws : List ℤ) → line_of j ws ≡ natural j ++ (spaced ws ++ (10 ∷ []))
unfolding line_of
line-is j ws = refl
