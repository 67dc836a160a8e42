-- The hypercycle is the least common multiple of all periods, if that is at most 240. Assumes nothing.
use Rattle.std.specs.Prelude.{Option, Some, None}
use Prim.Native.Nat.{ℕ, zero, suc, ◌%◌, ◌≤◌, ◌<◌, ◌∣◌}
use mathlib.Core.Bool.{Bool, true, false, false≢true, and-eq-true_iff}
use mathlib.Core.List.{List, [], ◌∷◌}
use mathlib.Core.Logic.{◌↔◌}
use mathlib.Core.Path.{◌≡◌, refl, sym, ap, ◌∙◌}
use native.Mathlib.Decide.{dec_le}
use native.Mathlib.Nat.{dvd_iff_mod-eq-zero}
use native.Mathlib.Omega.{arith}
use borrow.Author.Tests.{eqb-true, eq-eqb}
use lib.Dec.{eqb}
use lib.ListN.{length, get_or}
use Rattle.model.specs.Says.Feasible.{Multiple}
use Rattle.model.specs.Says.Feasible.{Least}
use Rattle.model.specs.Rules.Outcome.{accepted, refuse}
use Rattle.model.specs.Rules.Program.{Program, Signal, no_signal}
use Rattle.model.specs.Rules.Rates.{is_multiple, hypercycle_of, hypercycle}
use Rattle.model.specs.Rules.Search.{first_below}
use Rattle.model.proofs.Pairs.Decide.{is-first}
use Rattle.model.proofs.Basics.Outcomes.{accepted≢refused}

-- The test decides whether every period divides h.
multiple-true : (xs : List Signal) (h : ℕ) → is_multiple xs h ≡ true → (x : ℕ) → x < length xs →
    (get_or xs x no_signal).period ∣ h
unfolding is_multiple
multiple-true [] h e x lt = absurd (omega arith)
multiple-true (y ∷ ys) h e zero lt =
    (dvd_iff_mod-eq-zero y.period).1 (eqb-true _ _ ((and-eq-true_iff (eqb (h % y.period) 0) (is_multiple ys h)).0 e).0)
multiple-true (y ∷ ys) h e (suc x) lt =
    multiple-true ys h ((and-eq-true_iff (eqb (h % y.period) 0) (is_multiple ys h)).0 e).1 x (omega arith)

true-multiple : (xs : List Signal) (h : ℕ) → ((x : ℕ) → x < length xs → (get_or xs x no_signal).period ∣ h) →
    is_multiple xs h ≡ true
unfolding is_multiple
true-multiple [] h g = refl
true-multiple (y ∷ ys) h g =
    (and-eq-true_iff (eqb (h % y.period) 0) (is_multiple ys h)).1 (
      eq-eqb _ _ ((dvd_iff_mod-eq-zero y.period).0 (g 0 (omega arith))),
      true-multiple ys h (λ x l. g (suc x) (omega arith)),
    )

module _ (p : Program) where
  test : ℕ → Bool
  test h = is_multiple p.signals (suc h)

  passes : (h : ℕ) → test h ≡ true → Multiple p (suc h)
  unfolding test
  passes h e = record { positive = omega arith; divides = multiple-true p.signals (suc h) e }

  fails : (h : ℕ) → test h ≡ false → Multiple p (suc h) → ⊥
  unfolding test
  fails h e m = false≢true (sym e ∙ true-multiple p.signals (suc h) m.divides)

  never : (n : ℕ) → ((k : ℕ) → 0 ≤ k → k < n → test k ≡ false) → (m : ℕ) → m ≤ n → Multiple p m → ⊥
  never n g zero le v = omega (arith, v.positive)
  never n g (suc m) le v = fails m (g m (omega arith) (omega arith)) v

  found : (k : ℕ) → first_below 240 test ≡ Some k → Least p (suc k)
  found k q =
      let g = is-first 240 test (Some k) q in
      record {
        multiple = passes k g.2;
        bound = omega arith;
        least = λ m v. go m v g.3 (dec_le (suc k) m);
      }
    where
      go : (m : ℕ) → Multiple p m → ((i : ℕ) → 0 ≤ i → i < k → test i ≡ false) → Dec (suc k ≤ m) → suc k ≤ m
      go m v g (yes l) = l
      go m v g (no l) = absurd (never k g m (omega arith) v)

  nowhere : first_below 240 test ≡ None → (m : ℕ) → m ≤ 240 → Multiple p m → ⊥
  nowhere q m le v = never 240 (λ k l h. is-first 240 test None q k l (omega arith)) m le v

  pub hypercycle-least : (h : ℕ) → (hypercycle p ≡ accepted h) ↔ Least p h
  unfolding hypercycle test
  hypercycle-least h = (λ e. forth (first_below 240 test) refl e, λ l. back l (first_below 240 test) refl)
    where
      forth : (f : Option ℕ) → first_below 240 test ≡ f → hypercycle_of f ≡ accepted h → Least p h
      forth (Some k) q e = let same : suc k ≡ h = cc in rw (← same) (found k q)
      forth None q e = absurd (accepted≢refused _ h _ e refl)

      back : Least p h → (f : Option ℕ) → first_below 240 test ≡ f → hypercycle_of f ≡ accepted h
      back l (Some k) q =
          let g = found k q in
          let same : suc k ≡ h = omega (arith, g.least h l.multiple, l.least (suc k) g.multiple) in
          ap accepted same
      back l None q = absurd (nowhere q h l.bound l.multiple)

  pub hypercycle-none : (hypercycle p ≡ refuse 9 0) ↔ ((m : ℕ) → m ≤ 240 → Multiple p m → ⊥)
  unfolding hypercycle test
  hypercycle-none = (λ e. forth (first_below 240 test) refl e, λ h. back h (first_below 240 test) refl)
    where
      forth : (f : Option ℕ) → first_below 240 test ≡ f → hypercycle_of f ≡ refuse 9 0 → (m : ℕ) → m ≤ 240 → Multiple p m → ⊥
      forth (Some k) q e = absurd (accepted≢refused _ (suc k) _ refl e)
      forth None q e = nowhere q

      back : ((m : ℕ) → m ≤ 240 → Multiple p m → ⊥) → (f : Option ℕ) → first_below 240 test ≡ f → hypercycle_of f ≡ refuse 9 0
      back h (Some k) q = let g = found k q in absurd (h (suc k) g.bound g.multiple)
      back h None q = refl
