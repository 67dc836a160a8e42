-- A table that is filled from an entry on. Assumes nothing.
use Prim.Native.Nat.{ℕ, ◌+◌, ◌<◌}
use mathlib.Core.List.{List}
use mathlib.Core.Path.{◌≡◌, refl, subst, ◌∙◌}
use native.Mathlib.Decide.{dec_lt}
use native.Mathlib.Omega.{arith}
use lib.ListN.{length, get_or, set, length-set}
use lib.Seq.{get_or-set_same, get_or-set_other}
use Rattle.join_gather.specs.Rates.{Filled}

module _ {A : Type 0} (d : A) (f : ℕ → A) (from : ℕ) where
  pub fill_none : (l : List A) → Filled d f from 0 l l
  fill_none l =
      record { long = refl; before = λ y lt. refl; filled = λ y lt. absurd (omega arith); after = λ y le. refl }

  -- One value more.
  pub fill-next : (n : ℕ) (old new : List A) (v : A) → Filled d f from n old new → from + n < length old → v ≡ f n →
      Filled d f from (n + 1) old (set new (from + n) v)
  fill-next n old new v c room e =
      record {
        long = length-set new (from + n) v ∙ c.long;
        before = λ y lt. get_or-set_other new (from + n) y v d (λ q. omega (arith, q)) ∙ c.before y lt;
        filled = λ y lt. go y lt (dec_lt y n);
        after = λ y le. get_or-set_other new (from + n) y v d (λ q. omega (arith, q)) ∙ c.after y (omega arith);
      }
    where
      go : (y : ℕ) → y < n + 1 → Dec (y < n) → get_or (set new (from + n) v) (from + y) d ≡ f y
      go y lt (yes l) = get_or-set_other new (from + n) (from + y) v d (λ q. omega (arith, q)) ∙ c.filled y l
      go y lt (no l) =
          let s : n ≡ y = omega arith in
          subst (λ (z : ℕ). get_or (set new (from + n) v) (from + z) d ≡ f z) s
          (get_or-set_same new (from + n) v d (omega (arith, c.long)) ∙ e)
