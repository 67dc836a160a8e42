-- The hypercycle found step by step. Assumes nothing.
use Rattle.std.specs.Prelude.{Option, Some}
use Prim.Native.Nat.{ℕ, zero, suc, ◌+◌, ◌-◌, ◌%◌, ◌≤◌, ◌<◌}
use mathlib.Core.Bool.{Bool, true, false, ◌&&◌}
use mathlib.Core.List.{List}
use mathlib.Core.Path.{◌≡◌, refl, sym, ap, ◌∙◌}
use native.Mathlib.Numerals.{add-one, sub-one}
use native.Mathlib.Omega.{arith}
use lib.Dec.{eqb}
use lib.ListN.{length, get_or, drop, drop_of_length-le}
use lib.Seq.{drop-cons}
use Rattle.model.specs.Rules.Outcome.{accepted, refuse}
use Rattle.model.specs.Rules.Program.{Program, Signal, no_signal}
use Rattle.model.specs.Rules.Rates.{is_multiple, hypercycle_of, hypercycle}
use Rattle.model.specs.Rules.Search.{first_from, first_below}

-- The periods from signal s on: the first of them and the rest, or none.
pub multiple-here : (xs : List Signal) (s h : ℕ) → s < length xs →
    is_multiple (drop s xs) h ≡ eqb (h % (get_or xs s no_signal).period) 0 && is_multiple (drop (s + 1) xs) h
unfolding is_multiple
multiple-here xs s h lt = rw (drop-cons xs s no_signal lt, add-one)

pub multiple-over : (xs : List Signal) (s h : ℕ) → length xs ≤ s → is_multiple (drop s xs) h ≡ true
unfolding is_multiple
multiple-over xs s h le = rw (drop_of_length-le xs le)

-- A search that finds what it looks for at once, or goes on.
first-here : (i n : ℕ) (test : ℕ → Bool) → 0 < n → test i ≡ true → first_from i n test ≡ Some i
unfolding first_from
first-here i zero test h e = absurd (omega arith)
first-here i (suc n) test h e = rw (e, first_from)

first-later : (i n : ℕ) (test : ℕ → Bool) → 0 < n → test i ≡ false → first_from i n test ≡ first_from (suc i) (n - 1) test
unfolding first_from
first-later i zero test h e = absurd (omega arith)
first-later i (suc n) test h e = rw (sub-one (suc n)) (rw (e, first_from))

module _ (p : Program) where
  -- What is left of the search for the hypercycle, after the numbers up to h.
  unfoldable pub left_from : ℕ → Option ℕ
  left_from h = first_from h (240 - h) (λ k. is_multiple p.signals (suc k))

  pub cycle_start : hypercycle p ≡ hypercycle_of (left_from 0)
  unfolding hypercycle first_below left_from
  cycle_start = refl

  pub cycle-here : (h : ℕ) → h < 240 → is_multiple p.signals (h + 1) ≡ true → hypercycle_of (left_from h) ≡ accepted (h + 1)
  unfolding left_from
  cycle-here h lt e =
      ap hypercycle_of (first-here h (240 - h) (λ k. is_multiple p.signals (suc k)) (omega arith) (rw add-one at e)) ∙
      ap accepted (sym (add-one h))

  pub cycle-later : (h : ℕ) → h < 240 → is_multiple p.signals (h + 1) ≡ false → left_from h ≡ left_from (h + 1)
  unfolding left_from
  cycle-later h lt e =
      let test : ℕ → Bool = λ k. is_multiple p.signals (suc k) in
      let less : 240 - h - 1 ≡ 240 - (h + 1) = omega arith in
      first-later h (240 - h) test (omega arith) (rw add-one at e) ∙
      ap (λ n. first_from (suc h) n test) less ∙ ap (λ i. first_from i (240 - (h + 1)) test) (sym (add-one h))

  pub cycle-over : (h : ℕ) → h ≡ 240 → hypercycle_of (left_from h) ≡ refuse 9 0
  unfolding left_from first_from
  cycle-over h e = rw e
