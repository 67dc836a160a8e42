-- A byte in a range of a list of widths, or outside it. Assumes nothing.
use mathlib.Core.Bool.{true, false}
use mathlib.Core.Path.{◌≡◌}
use Prim.Native.Nat.{ℕ, ◌≤◌, ◌<◌}
use borrow.Author.Tests.{le-leb, lt-leb, ne_eqb}
use lib.Dec.{eqb}
use native.Mathlib.Omega.{arith}
use Rattle.model.specs.Rules.Width.{within}

module _ (b : ℕ) where
  pub inside : (low high : ℕ) → low ≤ b → b ≤ high → within low high b ≡ true
  inside low high l h = simp (le-leb low b l, le-leb b high h)

  pub under : (low high : ℕ) → b < low → within low high b ≡ false
  under low high l = simp (lt-leb low b l)

  pub over : (low high : ℕ) → low ≤ b → high < b → within low high b ≡ false
  over low high l h = simp (le-leb low b l, lt-leb b high h)

  -- Another byte than n, as it is smaller or greater.
  pub less : (n : ℕ) → b < n → eqb b n ≡ false
  less n h = ne_eqb b n (λ e. omega arith)

  pub more : (n : ℕ) → n < b → eqb b n ≡ false
  more n h = ne_eqb b n (λ e. omega arith)
