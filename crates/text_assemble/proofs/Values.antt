-- Numbers in their range, and the value of an operand by its cases. Assumes nothing.
use Rattle.std.specs.Prelude.{Option, Some, None}
use Prim.Native.Nat.{ℕ, ◌+◌, ◌-◌, ◌^◌, ◌≤◌, ◌<◌, min}
use mathlib.Core.Bool.{Bool, true, false, ◌&&◌}
use mathlib.Core.List.{List, [], ◌∷◌}
use mathlib.Core.Path.{◌≡◌, refl, sym, ap, ◌∙◌}
use native.Mathlib.Decide.{dec_lt}
use native.Mathlib.Omega.{arith}
use borrow.Author.Tests.{lt-ltb, le-ltb, le-leb, lt-leb, eq-eqb, ne_eqb}
use lib.Dec.{leb}
use lib.ListN.{length, drop}
use Rattle.model.specs.Rules.Outcome.{accepted, refuse, ◌▷◌, provided}
use Rattle.model.specs.Rules.TextForm.{token, names, keyword_at, spelled, size, number_of, ranged, signed_of, operand_of}
use Rattle.model.specs.Rules.Word.{byte_at}
use Rattle.model.specs.declared.Operand.{Operand}
use Rattle.model.specs.declared.Operand.TheVariants.{One, Two, Four, Signed, Index, Mode}
use Rattle.model.proofs.Basics.Outcomes.{accepted≢refused, accepted-same}
use Rattle.text_token.specs.Scanning.{held_number}
use Rattle.text_assemble.specs.Assembled.{number_value}

-- A range by its tests.
module _ (place low limit n : ℕ) where
  pub ranged-low : n < low → refuse 43 place ≡ ranged place low limit (Some n)
  unfolding ranged provided ◌▷◌
  ranged-low lt = rw (lt-leb low n lt) refl

  pub ranged-high : limit ≤ n → refuse 43 place ≡ ranged place low limit (Some n)
  unfolding ranged provided ◌▷◌
  ranged-high le = rw (le-ltb n limit le) (go (leb low n))
    where
      go : (b : Bool) → refuse 43 place ≡ (provided (b && false) 43 place ▷ λ _. accepted n)
      go true = refl
      go false = refl

  pub ranged-in : low ≤ n → n < limit → accepted n ≡ ranged place low limit (Some n)
  unfolding ranged provided ◌▷◌
  ranged-in le lt = rw (le-leb low n le, lt-ltb n limit lt) refl

pub ranged-none : (place low limit : ℕ) → refuse 42 place ≡ ranged place low limit None
unfolding ranged
ranged-none place low limit = refl

-- A number that is in its range is below its limit.
pub ranged-below : (place low limit n : ℕ) (number : Option ℕ) → accepted n ≡ ranged place low limit number → n < limit
unfolding ranged
ranged-below place low limit n None e = absurd (accepted≢refused _ n _ (sym e) refl)
ranged-below place low limit n (Some m) e = go (dec_lt m low) (dec_lt m limit)
  where
    go : Dec (m < low) → Dec (m < limit) → n < limit
    go (yes lt) d = absurd (accepted≢refused _ n _ (sym e) (sym (ranged-low place low limit m lt)))
    go (no ge) (yes lt) =
        let same : n ≡ m = accepted-same _ _ (e ∙ sym (ranged-in place low limit m (omega arith) lt)) in omega arith
    go (no ge) (no le) =
        absurd (accepted≢refused _ n _ (sym e) (sym (ranged-high place low limit m (omega arith))))

-- A number held at 2^32 is in a range exactly if it is itself.
pub ranged-held : (place low limit : ℕ) (f : Option ℕ) → limit ≤ 2 ^ 32 → ranged place low limit (held_number f) ≡
    ranged place low limit f
ranged-held place low limit None le = refl
ranged-held place low limit (Some n) le = go (dec_lt n (2 ^ 32))
  where
    go : Dec (n < 2 ^ 32) → ranged place low limit (Some (min n (2 ^ 32))) ≡ ranged place low limit (Some n)
    go (yes lt) = ap (λ (m : ℕ). ranged place low limit (Some m)) same
      where
        same : min n (2 ^ 32) ≡ n
        same = omega arith
    go (no ge) =
        sym (ranged-high place low limit (min n (2 ^ 32)) (omega arith)) ∙ ranged-high place low limit n (omega arith)

-- A word by its first byte.
pub signed-minus : (place : ℕ) (w : List ℕ) → byte_at w 0 ≡ 45 →
    signed_of place w ≡ (ranged place 1 (2 ^ 31 + 1) (number_of (drop 1 w)) ▷ λ n. accepted (2 ^ 32 - n))
signed-minus place w e = rw (eq-eqb (byte_at w 0) 45 e) refl

pub signed-plus : (place : ℕ) (w : List ℕ) → (byte_at w 0 ≡ 45 → ⊥) → signed_of place w ≡ ranged place 0 (2 ^ 31) (number_of w)
signed-plus place w e = rw (ne_eqb (byte_at w 0) 45 e) refl

-- A list whose first byte is no 0 has a byte.
pub some_byte : (w : List ℕ) → byte_at w 0 ≡ 45 → 1 ≤ length w
some_byte [] e = absurd (omega arith)
some_byte (b ∷ bs) e = omega arith

pub limit-small : (o : Operand) → 256 ^ size o ≤ 2 ^ 32
limit-small One = omega arith
limit-small Two = omega arith
limit-small Four = omega arith
limit-small Signed = omega arith
limit-small Index = omega arith
limit-small Mode = omega arith

-- An operand by its name, or by its number.
pub operand-named : (o : Operand) (place : ℕ) (w : List ℕ) (i : ℕ) → spelled w (names o) ≡ Some i →
    operand_of o (token place w) ≡ accepted (keyword_at (names o) i).byte
unfolding operand_of
operand-named o place w i e = rw e refl

pub operand-number : (o : Operand) (place : ℕ) (w : List ℕ) → spelled w (names o) ≡ None →
    operand_of o (token place w) ≡ number_value o place w
unfolding operand_of
operand-number o place w e = rw e refl
