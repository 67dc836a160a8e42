-- A table that is filled on from an entry. Assumes nothing.
use Prim.Native.Nat.{ℕ, ◌+◌, ◌<◌}
use mathlib.Core.List.{List}
use mathlib.Core.Path.{◌≡◌, refl, subst, ◌∙◌}
use native.Mathlib.Decide.{dec_lt}
use native.Mathlib.Omega.{arith}
use lib.ListN.{length, get_or, set, length-set}
use lib.Seq.{get_or-set_same, get_or-set_other}
use Rattle.join_gather.specs.Joint.{Copied}

pub copy-none : (f : ℕ → ℕ) (from : ℕ) (l : List ℕ) → Copied f from 0 l l
copy-none f from l = record { long = refl; kept = λ y lt. refl; copied = λ y lt. absurd (omega arith) }

-- One value more.
pub copy-next : (f : ℕ → ℕ) (from n : ℕ) (old new : List ℕ) (v : ℕ) → Copied f from n old new → from + n < length old → v ≡ f n →
    Copied f from (n + 1) old (set new (from + n) v)
copy-next f from n old new v c room e =
    record {
      long = length-set new (from + n) v ∙ c.long;
      kept = λ y lt.
          get_or-set_other new (from + n) y v 0 (λ q. omega (arith, q)) ∙ c.kept y lt;
      copied = λ y lt. go y lt (dec_lt y n);
    }
  where
    go : (y : ℕ) → y < n + 1 → Dec (y < n) → get_or (set new (from + n) v) (from + y) 0 ≡ f y
    go y lt (yes l) = get_or-set_other new (from + n) (from + y) v 0 (λ q. omega (arith, q)) ∙ c.copied y l
    go y lt (no l) =
        let s : n ≡ y = omega arith in
        subst (λ (z : ℕ). get_or (set new (from + n) v) (from + z) 0 ≡ f z) s
        (get_or-set_same new (from + n) v 0 (omega (arith, c.long)) ∙ e)
