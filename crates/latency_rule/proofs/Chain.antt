-- The hops of a chain: going back over them is going back over its reads. Assumes nothing.
use Rattle.std.specs.Prelude.{Option, Some, None}
use Prim.Native.Nat.{ℕ, zero, suc, ◌+◌, ◌*◌, ◌-◌, ◌≤◌, ◌<◌}
use mathlib.Core.Bool.{Bool, true, false, not}
use mathlib.Core.List.{List, [], ◌∷◌}
use mathlib.Core.Path.{◌≡◌, refl, ap, ◌∙◌}
use native.Mathlib.Nat.{le_trans}
use native.Mathlib.Omega.{arith}
use lib.ListN.{length}
use Rattle.model.specs.Says.Feasible.{Met, Feasible}
use Rattle.model.specs.Rules.Latency.{onward, used, back, source, latency_from, run_latency, is_late, is_in_time, is_timely}
use Rattle.model.specs.Rules.Program.{Program, Read, count, signal_at}
use Rattle.model.specs.Rules.Reads.{rate_of, run_cycle, before}
use Rattle.model.specs.Rules.Schedule.{Schedule, phase_of}
use Rattle.model.specs.Rules.Search.{first_below, is_found, all_below}
use Rattle.model.specs.declared.Mode.{Mode}
use Rattle.model.specs.declared.Mode.TheVariants.{Exists, Backward}
use Rattle.model.proofs.Pairs.Rate.{stored-high, bit}
use Rattle.model.proofs.Pairs.Links.{used-is}
use Rattle.model.proofs.Pairs.Links.{ChainMet}
use Rattle.latency_rule.specs.declared.Hop.{Hop}
use Rattle.latency_rule.specs.declared.Route.{Route}
use Rattle.latency_rule.specs.Hops.{HopsOf, RouteOver}
use Rattle.latency_rule.specs.Back.{used_by, back_by, Small, OnwardSmall, latency_by, run_latency_by, late_by, in_time_by, timely_by}

module _ (p : Program) (s : Schedule) where
  back_is : (hops : List Hop) (r k : ℕ) (ρs : List Read) → HopsOf p s hops r ρs → back p s r k ρs ≡ back_by hops (length ρs) k
  unfolding back back_by used_by used
  back_is hops r k [] h = refl
  back_is hops r k (ρ ∷ ρs) h = rw h.0 (go (used p s r k ρ) (λ m. back_is hops ρ.operands.signal m ρs h.1))
    where
      go : (e : ℕ) →
          ((m : ℕ) → back p s ρ.operands.signal m ρs ≡ back_by hops (length ρs) m) →
          onward (λ m. back p s ρ.operands.signal m ρs) e ≡ onward (λ m. back_by hops (length ρs) m) e
      go zero f = refl
      go (suc m) f = f m

  latency-is : (r a k : ℕ) (f : Option ℕ) → latency_from p s r k a f ≡ latency_by (rate_of p s r) (rate_of p s a) k f
  latency-is r a k (Some m) = refl
  latency-is r a k None = refl

  late_is : (bound : ℕ) (f : Option ℕ) → is_late p s bound f ≡ late_by bound f
  late_is bound (Some l) = refl
  late_is bound None = refl

  in-time-is : (bound : ℕ) (f : Option ℕ) → is_in_time p s bound f ≡ in_time_by bound f
  in-time-is bound (Some l) = refl
  in-time-is bound None = refl

  run_is : (route : Route) (r k : ℕ) (ρs : List Read) → RouteOver p s route r ρs →
      run_latency p s r ρs k ≡ run_latency_by route k
  unfolding run_latency run_latency_by
  run_is route r k ρs h =
      latency-is r (source p s r ρs) k (back p s r k ρs) ∙
      rw (h.last-is, h.source_is, ← h.many)
      (ap (latency_by (rate_of p s r) (rate_of p s (source p s r ρs)) k) (back_is route.hops r k ρs h.hops-are))

  -- The constraint decided by the route is the one decided by the reads.
  pub timely-is : (mode : Mode) (bound from window : ℕ) (route : Route) (r : ℕ) (ρs : List Read) → RouteOver p s route r ρs →
      is_timely p s mode r ρs bound from window ≡ timely_by mode bound route from window
  unfolding timely_by
  timely-is Backward bound from window route r ρs h =
      ap (all_below window)
      (λ j i. not ((late_is bound (run_latency p s r ρs (from + i)) ∙ ap (late_by bound) (run_is route r (from + i) ρs h)) j))
  timely-is Exists bound from window route r ρs h =
      ap (λ t. is_found (first_below window t))
      (λ j i. (in-time-is bound (run_latency p s r ρs (from + i)) ∙ ap (in_time_by bound) (run_is route r (from + i) ρs h)) j)

  module _ (acc : Feasible p s) where
    one : (b : Bool) → bit b ≤ 1
    one true = omega arith
    one false = omega arith

    -- An element that is used is not younger than its use.
    used-before : (r k m : ℕ) (ρ : Read) → r < count p → Met p s r ρ → used p s r k ρ ≡ suc m →
        run_cycle (rate_of p s ρ.operands.signal) m ≤ run_cycle (rate_of p s r) k
    used-before r k m ρ lt met u =
        let w = ρ.operands.signal in
        let t : ℕ = run_cycle (rate_of p s r) k + bit (before s w r) in
        let g = stored-high (rate_of p s w) t (acc.ordered.phases w met.declared) in
        omega (arith, one (before s w r), rw (used-is p s acc r ρ k lt met ∙ u) at g)

    run-low : (x k : ℕ) → x < count p → k ≤ run_cycle (rate_of p s x) k
    run-low x k lt = go (signal_at p x).period (acc.ordered.phases x lt)
      where
        go : (q : ℕ) → phase_of s x < q → k ≤ k * q + phase_of s x
        go zero h = absurd (omega arith)
        go (suc q) h = omega arith

    -- Where the run is early enough, every element on the way is small.
    pub small_is : (hops : List Hop) (r k : ℕ) (ρs : List Read) → r < count p → ChainMet p s r ρs → HopsOf p s hops r ρs →
        run_cycle (rate_of p s r) k ≤ 1000000 → Small hops (length ρs) k
    unfolding Small used_by used
    small_is hops r k [] lt ch h le = le_trans (run-low r k lt) le
    small_is hops r k (ρ ∷ ρs) lt ch h le = (
      le_trans (run-low r k lt) le,
      rw h.0
          (go (used p s r k ρ) refl (λ m l. small_is hops ρ.operands.signal m ρs ch.0.declared ch.1 h.1 l)),
    )
      where
        go : (e : ℕ) → used p s r k ρ ≡ e →
            ((m : ℕ) → run_cycle (rate_of p s ρ.operands.signal) m ≤ 1000000 → Small hops (length ρs) m) →
            OnwardSmall (λ m. Small hops (length ρs) m) e
        go zero q f = tt
        go (suc m) q f = f m (le_trans (used-before r k m ρ lt ch.0 q) le)
