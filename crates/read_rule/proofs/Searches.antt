-- Laws of a search from an index on, and of products of small numbers. Assumes nothing.
use Rattle.std.specs.Prelude.{Some, None}
use mathlib.Core.Path.{◌≡◌, refl, sym, ap, ◌∙◌}
use mathlib.Core.Bool.{Bool, true, false, cond}
use Prim.Native.Nat.{ℕ, zero, suc, ◌+◌, ◌*◌, ◌-◌, ◌<◌, ◌≤◌}
use native.Mathlib.Nat.{mul-le-mul_left, mul-le-mul_right, le_trans, sub-zero}
use native.Mathlib.Decide.{dec_lt}
use native.Mathlib.Numerals.{add-one}
use native.Mathlib.Omega.{arith}
use Rattle.model.specs.Rules.Reads.{Rate, line, line_holds}
use Rattle.model.specs.Rules.Search.{first_from, is_found}
use Rattle.model.specs.declared.Index.{Index}
use Rattle.model.specs.declared.Index.TheVariants.{Fixed, Open}
use Rattle.model.specs.declared.Kind.{Kind}
use Rattle.model.proofs.Pairs.Decide.{IsFirst, from_first}
use Rattle.read_rule.specs.Reads.{index_by}

more : (i n : ℕ) → i < n → n - i ≡ suc (n - (i + 1))
more i n h = omega arith

pub search-none : (test : ℕ → Bool) (i n : ℕ) → n ≤ i → first_from i (n - i) test ≡ None
unfolding first_from
search-none test i n h = let e : n - i ≡ 0 = omega arith in rw e

pub search-here : (test : ℕ → Bool) (i n : ℕ) → i < n → test i ≡ true → first_from i (n - i) test ≡ Some i
unfolding first_from
search-here test i n h t = rw (more i n h, t, first_from)

pub search-next : (test : ℕ → Bool) (i n : ℕ) → i < n → test i ≡ false →
    first_from i (n - i) test ≡ first_from (i + 1) (n - (i + 1)) test
unfolding first_from
search-next test i n h t = rw (more i n h, t, first_from) (ap (λ k. first_from k (n - (i + 1)) test) (sym (add-one i)))

-- Indices that fail the test may be passed over.
pub search-from : (test : ℕ → Bool) (n i : ℕ) → ((k : ℕ) → k < i → test k ≡ false) → first_from 0 n test ≡ first_from i (n - i) test
search-from test n zero h = rw sub-zero
search-from test n (suc i) h = search-from test n i (λ k l. h k (omega arith)) ∙ go (dec_lt i n)
  where
    go : Dec (i < n) → first_from i (n - i) test ≡ first_from (suc i) (n - suc i) test
    go (yes l) = rw (add-one i) at (search-next test i n l (h i (omega arith)))
    go (no l) = search-none test i n (omega arith) ∙ sym (search-none test (suc i) n (omega arith))

-- One candidate.
pub search-one : (test : ℕ → Bool) (i : ℕ) → first_from i (i + 1 - i) test ≡ cond (test i) (Some i) None
unfolding first_from
search-one test i = let e : i + 1 - i ≡ 1 = omega arith in rw e (go (test i))
  where
    go : (b : Bool) → elim b [ true ↦ Some i | false ↦ None ] ≡ cond b (Some i) None
    go true = refl
    go false = refl

-- What is found is below the end.
pub search-below : (test : ℕ → Bool) (from to i : ℕ) → first_from from (to - from) test ≡ Some i → i < to
search-below test from to i e = let h : IsFirst from (to - from) test (Some i) = rw e at (from_first from (to - from) test) in
    omega arith

-- A product of small numbers.
pub small_product : (a b : ℕ) → a ≤ 256 → b ≤ 256 → a * b ≤ 65536
small_product a b h g = le_trans (mul-le-mul_left a g) (mul-le-mul_right 256 h)

-- An index is found exactly if the line holds.
pub found-holds : (kind : Kind) (w r : Rate) (n : ℕ) (index : Index) →
    is_found (index_by kind w r n index) ≡ line_holds kind w r n index
found-holds kind w r n (Fixed i) = go (line kind w r i)
  where
    go : (b : Bool) → is_found (cond b (Some i) None) ≡ b
    go true = refl
    go false = refl
found-holds kind w r n Open = refl
