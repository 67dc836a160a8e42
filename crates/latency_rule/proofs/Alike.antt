-- Over equal periods every run goes back alike, so that one decides. Assumes nothing.
use Rattle.std.specs.Prelude.{Some, None}
use Prim.Native.Nat.{ℕ, zero, suc, ◌+◌, ◌*◌, ◌-◌, ◌≤◌, ◌<◌}
use mathlib.Core.Bool.{Bool, true, false, not, ◌&&◌, false≢true}
use mathlib.Core.List.{List}
use mathlib.Core.Path.{◌≡◌, refl, sym, ap, ◌∙◌}
use native.Mathlib.Omega.{arith}
use lib.ListN.{get_or}
use Rattle.model.specs.Rules.Latency.{onward, latency_of}
use Rattle.model.specs.Rules.Search.{first_from, first_below, is_found, all_below}
use Rattle.model.specs.declared.Kind.{Kind}
use Rattle.model.specs.declared.Kind.TheVariants.{Now, Last, When, LastWhen, Current}
use Rattle.model.specs.declared.Mode.{Mode}
use Rattle.model.specs.declared.Mode.TheVariants.{Exists, Backward}
use Rattle.model.proofs.Pairs.Decide.{all_true}
use Rattle.read_rule.specs.Lines.{is_plain}
use Rattle.latency_rule.specs.declared.Hop.{Hop}
use Rattle.latency_rule.specs.declared.Route.{Route}
use Rattle.latency_rule.specs.Back.{
  no_hop,
  used_by,
  back_by,
  run_latency_by,
  late_by,
  in_time_by,
  timely_by,
  all_plain,
}

-- A test with one answer.
all-constant : (n : ℕ) (test : ℕ → Bool) (b : Bool) → ((i : ℕ) → test i ≡ b) → all_below (suc n) test ≡ b
unfolding all_below
all-constant zero test b h = h 0
all-constant (suc n) test b h = rw (all-constant n test b h, h (suc n)) (both b)
  where
    both : (b : Bool) → (b && b) ≡ b
    both true = refl
    both false = refl

found-constant : (n i : ℕ) (test : ℕ → Bool) (b : Bool) → ((i : ℕ) → test i ≡ b) → is_found (first_from i (suc n) test) ≡ b
unfolding first_from
found-constant n i test true h = ap (λ b. is_found (elim b [ true ↦ Some i | false ↦ first_from (suc i) n test ])) (h i)
found-constant zero i test false h = ap (λ b. is_found (elim b [ true ↦ Some i | false ↦ None ])) (h i)
found-constant (suc n) i test false h =
    ap (λ b. is_found (elim b [ true ↦ Some i | false ↦ first_from (suc i) (suc n) test ])) (h i) ∙
    found-constant n (suc i) test false h

module _ (hops : List Hop) where
  -- So many elements lie behind any that has enough before it.
  plain_back : (n : ℕ) → ((j : ℕ) → j < n → is_plain (get_or hops j no_hop).kind ≡ true) →
      (d : ℕ) × (d ≤ n) × ((k : ℕ) → n ≤ k → back_by hops n k ≡ Some (k - d))
  unfolding back_by used_by
  plain_back zero h = (0, omega arith, λ k le. ap Some (omega arith))
  plain_back (suc n) h = go (get_or hops n no_hop).kind refl (h n (omega arith)) (plain_back n (λ j lt. h j (omega arith)))
    where
      go : (kind : Kind) → (get_or hops n no_hop).kind ≡ kind → is_plain kind ≡ true →
          (d : ℕ) × (d ≤ n) × ((k : ℕ) → n ≤ k → back_by hops n k ≡ Some (k - d)) →
          (d : ℕ) × (d ≤ suc n) × ((k : ℕ) → suc n ≤ k → back_by hops (suc n) k ≡ Some (k - d))
      go Now e t (d, le, f) = (d, omega arith, λ k g. rw e (f k (omega arith)))
      go Last e t (d, le, f) = (suc d, omega arith, λ k g. rw e (step k g))
        where
          step : (k : ℕ) → suc n ≤ k → onward (λ m. back_by hops n m) k ≡ Some (k - suc d)
          step zero g = absurd (omega arith)
          step (suc m) g = f m (omega arith) ∙ ap Some (omega arith)
      go When e t b = absurd (false≢true t)
      go LastWhen e t b = absurd (false≢true t)
      go Current e t b = absurd (false≢true t)

module _ (route : Route) (equal : route.last.period ≡ route.source.period)
    (plain : all_plain route.hops route.count ≡ true) where
  -- One latency for all runs.
  alike-latency : (l : ℕ) × ((k : ℕ) → route.count ≤ k → run_latency_by route k ≡ Some l)
  unfolding run_latency_by latency_of
  alike-latency = go (plain_back route.hops route.count (all_true route.count _ plain))
    where
      go : (d : ℕ) × (d ≤ route.count) × ((k : ℕ) → route.count ≤ k → back_by route.hops route.count k ≡ Some (k - d)) →
          (l : ℕ) × ((k : ℕ) → route.count ≤ k → run_latency_by route k ≡ Some l)
      go (d, le, f) = (
        d * route.last.period + route.last.phase - route.source.phase + 1,
        λ k g. rw (f k g) (ap Some (same k (omega arith))),
      )
        where
          same : (k : ℕ) → d ≤ k →
              k * route.last.period + route.last.phase - ((k - d) * route.source.period + route.source.phase) + 1 ≡
              d * route.last.period + route.last.phase - route.source.phase + 1
          same k g =
              let e : k ≡ k - d + d = omega arith in
              omega (arith, ap (◌* route.last.period) e, ap ((k - d) *◌) equal)

  timely-alike : (from w : ℕ) → route.count ≤ from → (mode : Mode) (bound : ℕ) →
      timely_by mode bound route from 1 ≡ timely_by mode bound route from (suc w)
  unfolding timely_by first_below
  timely-alike from w g Backward bound =
      let l = alike-latency.0 in
      let t : (i : ℕ) → not (late_by bound (run_latency_by route (from + i))) ≡ not (late_by bound (Some l)) =
      λ i. ap (λ f. not (late_by bound f)) (alike-latency.1 (from + i) (omega arith)) in
      all-constant 0 _ _ t ∙ sym (all-constant w _ _ t)
  timely-alike from w g Exists bound =
      let t : (i : ℕ) → in_time_by bound (run_latency_by route (from + i)) ≡ in_time_by bound (Some alike-latency.0) =
      λ i. ap (in_time_by bound) (alike-latency.1 (from + i) (omega arith)) in
      found-constant 0 0 _ _ t ∙ sym (found-constant w 0 _ _ t)

  pub one-decides : (from window : ℕ) → route.count ≤ from → 1 ≤ window → (mode : Mode) (bound : ℕ) →
      timely_by mode bound route from 1 ≡ timely_by mode bound route from window
  one-decides from zero g le = absurd (omega arith)
  one-decides from (suc w) g le = timely-alike from w g
