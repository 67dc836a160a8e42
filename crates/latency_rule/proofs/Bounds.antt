-- The least bound that the runs of a window keep, run after run. Assumes nothing.
use Rattle.std.specs.Prelude.{Option, Some, None}
use Prim.Native.Nat.{ℕ, suc, ◌+◌, ◌≤◌, ◌<◌}
use mathlib.Core.Bool.{Bool, true, false, cond, not, ◌&&◌, ◌||◌, and-eq-true_iff}
use mathlib.Core.Path.{◌≡◌, refl, sym, ap, ◌∙◌}
use native.Mathlib.Decide.{dec_lt}
use native.Mathlib.Numerals.{add-one}
use native.Mathlib.Omega.{arith}
use borrow.Author.Tests.{leb-true, ltb-true, ltb-false, le-leb, le-ltb, lt-leb}
use lib.Dec.{leb, ltb}
use Rattle.model.specs.Rules.Search.{first_from, first_below, is_found, all_below}
use Rattle.model.specs.declared.Mode.{Mode}
use Rattle.model.specs.declared.Mode.TheVariants.{Exists, Backward}
use Rattle.model.proofs.Basics.Tests.{both, together}
use Rattle.model.proofs.Pairs.Decide.{is_found-true, true-is_found}
use Rattle.latency_rule.specs.declared.Route.{Route}
use Rattle.latency_rule.specs.Back.{
  run_latency_by,
  late_by,
  in_time_by,
  timely_by,
  enough_for_none,
  enough_for,
  LeastBound,
}

or_left : (a b : Bool) → a ≡ true → (a || b) ≡ true
or_left a b e = ap (◌|| b) e

or_right : (a b : Bool) → b ≡ true → (a || b) ≡ true
or_right true b e = refl
or_right false b e = e

or-either : {X : Type 0} (a b : Bool) → (a || b) ≡ true → (a ≡ true → X) → (b ≡ true → X) → X
or-either true b e f g = f refl
or-either false b e f g = g e

found-more : (n : ℕ) (test : ℕ → Bool) → is_found (first_below (suc n) test) ≡ (is_found (first_below n test) || test n)
found-more n test =
    together _ _
    (λ e. let h = is_found-true (suc n) test e in split h (dec_lt h.0 n))
    (λ e. or-either _ _ e (λ a. let h = is_found-true n test a in true-is_found (suc n) test h.0 (omega (arith, h.1)) h.2)
    (λ b. true-is_found (suc n) test n (omega arith) b))
  where
    split : (h : (j : ℕ) × (j < suc n) × (test j ≡ true)) → Dec (h.0 < n) → (is_found (first_below n test) || test n) ≡ true
    split h (yes l) = or_left (is_found (first_below n test)) (test n) (true-is_found n test h.0 l h.2)
    split h (no l) = let q : h.0 ≡ n = omega (arith, h.1) in
        or_right (is_found (first_below n test)) (test n) (sym (ap test q) ∙ h.2)

-- A bound is kept with one run more.
later-kept : (b m : ℕ) (f : Option ℕ) → (leb m b && not (late_by b f)) ≡ leb (enough_for Backward m f) b
later-kept b m (Some l) = go (ltb m l) refl
  where
    go : (t : Bool) → ltb m l ≡ t → (leb m b && not (ltb b l)) ≡ leb (cond t l m) b
    go true e =
        together _ _
        (λ h. le-leb l b (omega (arith, not_late (both (leb m b) (not (ltb b l)) h).1)))
        (λ h. (and-eq-true_iff _ _).1
        (le-leb m b (omega (arith, leb-true l b h, ltb-true m l e)), ap not (le-ltb b l (leb-true l b h))))
      where
        not_late : not (ltb b l) ≡ true → l ≤ b
        not_late h = ltb-false b l (off (ltb b l) h)
          where
            off : (t : Bool) → not t ≡ true → t ≡ false
            off true h = sym h
            off false h = refl
    go false e =
        together _ _ (λ h. (both (leb m b) (not (ltb b l)) h).0)
        (λ h. (and-eq-true_iff _ _).1 (h, ap not (le-ltb b l (omega (arith, leb-true m b h, ltb-false m l e)))))
later-kept b m None = go (leb m b)
  where
    go : (t : Bool) → (t && true) ≡ t
    go true = refl
    go false = refl

sooner-kept : (b m : ℕ) (f : Option ℕ) → (leb m b || in_time_by b f) ≡ leb (enough_for Exists m f) b
sooner-kept b m (Some l) = go (ltb l m) refl
  where
    go : (t : Bool) → ltb l m ≡ t → (leb m b || leb l b) ≡ leb (cond t l m) b
    go true e =
        together _ _
        (λ h. or-either (leb m b) (leb l b) h (λ a. le-leb l b (omega (arith, leb-true m b a, ltb-true l m e))) (λ a. a))
        (λ h. or_right (leb m b) (leb l b) h)
    go false e =
        together _ _
        (λ h. or-either (leb m b) (leb l b) h (λ a. a) (λ a. le-leb m b (omega (arith, leb-true l b a, ltb-false l m e))))
        (λ h. or_left (leb m b) (leb l b) h)
sooner-kept b m None = go (leb m b)
  where
    go : (t : Bool) → (t || false) ≡ t
    go true = refl
    go false = refl

module _ (route : Route) (from : ℕ) where
  pub bound-none : (mode : Mode) → LeastBound mode route from 0 (enough_for_none mode)
  unfolding timely_by all_below first_below first_from
  bound-none Backward b lt = sym (le-leb 0 b (omega arith))
  bound-none Exists b lt = sym (lt-leb 1000000000 b lt)

  pub bound-more : (mode : Mode) (i m : ℕ) → LeastBound mode route from i m →
      LeastBound mode route from (i + 1) (enough_for mode m (run_latency_by route (from + i)))
  unfolding timely_by all_below
  bound-more Backward i m h b lt = rw (add-one i) (ap (◌&& not (late_by b (run_latency_by route (from + i)))) (h b lt) ∙
      later-kept b m (run_latency_by route (from + i)))
  bound-more Exists i m h b lt = rw (add-one i) (found-more i _ ∙
      ap (◌|| in_time_by b (run_latency_by route (from + i))) (h b lt) ∙
      sooner-kept b m (run_latency_by route (from + i)))
