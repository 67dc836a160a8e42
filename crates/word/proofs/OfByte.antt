-- The bytes of the operators with two operands, one by one. Assumes nothing.
use Prim.Native.Nat.{ℕ, ◌≤◌, ◌<◌}
use mathlib.Core.Path.{◌≡◌, sym, subst}
use native.Mathlib.Decide.{dec_lt}
use native.Mathlib.Omega.{arith}

module _ (P : ℕ → Type 0) (add : P 0x30) (sub : P 0x31) (mul : P 0x32) (less : P 0x33) (same : P 0x34) (min : P 0x35)
    (max : P 0x36) (b : ℕ) (low : 0x30 ≤ b) (high : b ≤ 0x36) where
  is : {k : ℕ} → P k → b ≡ k → P b
  is h e = subst P (sym e) h

  pub each-operator : P b
  each-operator = go (dec_lt b 0x31) (dec_lt b 0x32) (dec_lt b 0x33) (dec_lt b 0x34) (dec_lt b 0x35) (dec_lt b 0x36)
    where
      go : Dec (b < 0x31) → Dec (b < 0x32) → Dec (b < 0x33) → Dec (b < 0x34) → Dec (b < 0x35) → Dec (b < 0x36) → P b
      go (yes p) q r s t u = is add (omega arith)
      go (no p) (yes q) r s t u = is sub (omega arith)
      go (no p) (no q) (yes r) s t u = is mul (omega arith)
      go (no p) (no q) (no r) (yes s) t u = is less (omega arith)
      go (no p) (no q) (no r) (no s) (yes t) u = is same (omega arith)
      go (no p) (no q) (no r) (no s) (no t) (yes u) = is min (omega arith)
      go (no p) (no q) (no r) (no s) (no t) (no u) = is max (omega arith)
