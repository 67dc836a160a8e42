-- Going back along a chain of reads repeats with the hypercycle, so that a window of runs decides the constraint of a chain.
-- Assumes nothing.
use Rattle.std.specs.Prelude.{Option, Some, None}
use Prim.Native.Nat.{ℕ, zero, suc, ◌+◌, ◌*◌, ◌-◌, ◌/◌, ◌%◌, ◌≤◌, ◌<◌}
use mathlib.Core.Bool.{true, not, false≢true}
use mathlib.Core.List.{List, [], ◌∷◌}
use mathlib.Core.Logic.{◌↔◌}
use mathlib.Core.Path.{◌≡◌, refl, sym, ap, ◌∙◌}
use native.Mathlib.Nat.{suc-add, div-mul_cancel, div-add-mod', mod-lt}
use native.Mathlib.Omega.{arith}
use borrow.Author.Tests.{leb-true, ltb-false, le-leb, le-ltb, not-true}
use lib.ListN.{length}
use Rattle.model.specs.Says.Feasible.{Met, Feasible, Multiple, All}
use Rattle.model.specs.Rules.Latency.{
  onward,
  used,
  back,
  source,
  latency_of,
  latency_from,
  run_latency,
  is_late,
  is_in_time,
  from_of,
  window_of,
  reads_back,
  backwards,
  keeps_from,
  keeps,
}
use Rattle.model.specs.Rules.Program.{Program, Read, count, signal_at, Chain}
use Rattle.model.specs.Rules.Reads.{rate_of, run_cycle, stored}
use Rattle.model.specs.Rules.Schedule.{Schedule}
use Rattle.model.specs.Rules.Rates.{is_linked}
use Rattle.theorems_pairs.specs.Latency.{Timely, WindowDecides}
use Rattle.theorems_pairs.specs.Conditions.{TimelyFrom, KeepsTime}
use Rattle.model.specs.declared.Mode.{Mode}
use Rattle.model.specs.declared.Mode.TheVariants.{Exists, Backward}
use Rattle.model.proofs.Pairs.Decide.{all_true, true-all, is_found-true, true-is_found}
use Rattle.model.proofs.Pairs.Rate.{stored-shift}
use Rattle.model.proofs.Pairs.Links.{used-is, ChainMet, source-count, LinkedBack, linked-backwards, declared-backwards, chain-met}

-- The number of runs of x in h cycles.
abbrev pub runs : Program → ℕ → ℕ → ℕ
runs p h x = h / (signal_at p x).period

module _ (p : Program) (s : Schedule) where
  -- A run of the window that goes back over as many cycles as run k does to element m.
  abbrev pub Repeats : (h r : ℕ) → List Read → (k m : ℕ) → Type 0
  Repeats h r ρs k m =
      (i m' : ℕ) × (i < window_of p s h r) × (back p s r (from_of p s h r ρs + i) ρs ≡ Some m') ×
      (run_cycle (rate_of p s r) k + run_cycle (rate_of p s (source p s r ρs)) m' ≡
      run_cycle (rate_of p s r) (from_of p s h r ρs + i) + run_cycle (rate_of p s (source p s r ρs)) m)

  late-not : (bound : ℕ) (f : Option ℕ) → not (is_late p s bound f) ≡ true → (l : ℕ) → f ≡ Some l → l ≤ bound
  late-not bound f e l q = ltb-false bound l (not-true _ (rw q at e))

  not_late : (bound : ℕ) (f : Option ℕ) → ((l : ℕ) → f ≡ Some l → l ≤ bound) → not (is_late p s bound f) ≡ true
  not_late bound (Some l) g = rw (le-ltb bound l (g l refl))
  not_late bound None g = refl

  in-time : (bound : ℕ) (f : Option ℕ) → is_in_time p s bound f ≡ true → (l : ℕ) × (f ≡ Some l) × (l ≤ bound)
  in-time bound (Some l) e = (l, refl, leb-true l bound e)
  in-time bound None e = absurd (false≢true e)

  module _ (acc : Feasible p s) (h : ℕ) (hyper : Multiple p h) where
    -- The runs of x fill the hypercycle, and there is one.
    pub whole : (x : ℕ) → x < count p → runs p h x * (signal_at p x).period ≡ h
    whole x lt = div-mul_cancel (signal_at p x).period (hyper.divides x lt)

    pub some-run : (x : ℕ) → x < count p → 0 < runs p h x
    some-run x lt = go (runs p h x) (whole x lt)
      where
        go : (n : ℕ) → n * (signal_at p x).period ≡ h → 0 < n
        go zero e = absurd (omega (arith, hyper.positive))
        go (suc n) e = omega arith

    -- c hypercycles later a read uses what lies c hypercycles later.
    pub used-shift : (r k c : ℕ) (ρ : Read) → r < count p → Met p s r ρ →
        used p s r (k + c * runs p h r) ρ ≡ used p s r k ρ + c * runs p h ρ.operands.signal
    used-shift r k c ρ lt m =
        let w = ρ.operands.signal in
        sym (used-is p s acc r ρ (k + c * runs p h r) lt m) ∙
        ap (stored (rate_of p s w)) (omega (arith, ap (c *◌) (whole r lt), ap (c *◌) (whole w m.declared))) ∙
        stored-shift (rate_of p s w) _ (c * runs p h w) (acc.ordered.phases w m.declared) ∙
        ap (◌+ c * runs p h w) (used-is p s acc r ρ k lt m)

    -- And the same way back is gone c hypercycles later.
    pub back-shift : (ρs : List Read) (r k c m : ℕ) → r < count p → ChainMet p s r ρs → back p s r k ρs ≡ Some m →
        back p s r (k + c * runs p h r) ρs ≡ Some (m + c * runs p h (source p s r ρs))
    unfolding back source
    back-shift [] r k c m lt ch e = let q : k ≡ m = cc in ap (λ x. Some (x + c * runs p h r)) q
    back-shift (ρ ∷ ρs) r k c m lt ch e =
        rw (used-shift r k c ρ lt ch.0)
        (go (used p s r k ρ) e (λ j f. back-shift ρs ρ.operands.signal j c m ch.0.declared ch.1 f))
      where
        w : ℕ
        w = ρ.operands.signal

        go : (j : ℕ) → onward (λ m. back p s w m ρs) j ≡ Some m →
            ((j : ℕ) → back p s w j ρs ≡ Some m → back p s w (j + c * runs p h w) ρs ≡ Some (m + c * runs p h (source p s w ρs))) →
            onward (λ m. back p s w m ρs) (j + c * runs p h w) ≡ Some (m + c * runs p h (source p s w ρs))
        go zero f ih = let z : ◌≡◌ {A = ℕ} 0 1 = cc in absurd (omega arith)
        go (suc j) f ih = rw suc-add (ih j f)

    -- After as many hypercycles as there are reads every run counts.
    pub back-enough : (ρs : List Read) (r k : ℕ) → r < count p → ChainMet p s r ρs → length ρs * runs p h r ≤ k →
        (m : ℕ) × (back p s r k ρs ≡ Some m)
    unfolding back
    back-enough [] r k lt ch le = (k, refl)
    back-enough (ρ ∷ ρs) r k lt ch le =
        go (used p s r k ρ) enough (λ j g. back-enough ρs ρ.operands.signal j ch.0.declared ch.1 g)
      where
        w : ℕ
        w = ρ.operands.signal

        n : ℕ
        n = suc (length ρs)

        enough : n * runs p h w ≤ used p s r k ρ
        enough =
            let e : k - n * runs p h r + n * runs p h r ≡ k = omega arith in
            let f = used-shift r (k - n * runs p h r) n ρ lt ch.0 in
            omega (arith, rw e at f)

        go : (j : ℕ) → n * runs p h w ≤ j → ((j : ℕ) → length ρs * runs p h w ≤ j → (m : ℕ) × (back p s w j ρs ≡ Some m)) →
            (m : ℕ) × (onward (λ m. back p s w m ρs) j ≡ Some m)
        go zero g ih = absurd (omega (arith, some-run w ch.0.declared))
        go (suc j) g ih = ih j (omega (arith, some-run w ch.0.declared))

    module _ (r : ℕ) (ρs : List Read) (lt : r < count p) (ch : ChainMet p s r ρs) where
      -- Every run that counts has such a run: run k, n hypercycles later, is a run of the window some hypercycles later.
      pub window : (k m : ℕ) → back p s r k ρs ≡ Some m → Repeats h r ρs k m
      unfolding window_of from_of
      window k m e =
          let a = source p s r ρs in
          let n = length ρs in
          let c = k / runs p h r in
          let i = k % runs p h r in
          let source-whole = whole a (source-count p s ρs r lt ch) in
          let b = back-enough ρs r (n * runs p h r + i) lt ch (omega arith) in
          let later : n * runs p h r + i + c * runs p h r ≡ k + n * runs p h r = omega (arith, div-add-mod' k (runs p h r)) in
          let up = back-shift ρs r k n m lt ch e in
          let down = rw later at (back-shift ρs r (n * runs p h r + i) c b.0 lt ch b.1) in
          let same : b.0 + c * runs p h a ≡ m + n * runs p h a = cc in (
            i,
            b.0,
            mod-lt k (some-run r lt),
            b.1,
            omega (
              arith,
              ap (◌* (signal_at p r).period) later,
              ap (◌* (signal_at p a).period) same,
              ap (n *◌) (whole r lt),
              ap (c *◌) (whole r lt),
              ap (n *◌) source-whole,
              ap (c *◌) source-whole,
            ),
          )

      -- Every latency that occurs is one of a run of the window.
      pub window-latency : (k l : ℕ) → run_latency p s r ρs k ≡ Some l →
          (i : ℕ) × (i < window_of p s h r) × (run_latency p s r ρs (from_of p s h r ρs + i) ≡ Some l)
      unfolding run_latency latency_of
      window-latency k l e = go (back p s r k ρs) refl e
        where
          a : ℕ
          a = source p s r ρs

          from : ℕ
          from = from_of p s h r ρs

          go : (f : Option ℕ) → back p s r k ρs ≡ f → latency_from p s r k a f ≡ Some l →
              (i : ℕ) × (i < window_of p s h r) × (latency_from p s r (from + i) a (back p s r (from + i) ρs) ≡ Some l)
          go (Some m) q t =
              let f = window k m q in
              let d : latency_of (rate_of p s r) (from + f.0) (rate_of p s a) f.1 ≡ latency_of (rate_of p s r) k (rate_of p s a) m =
              omega (arith, f.4) in
              (f.0, f.2, rw f.3 (ap Some d ∙ t))
          go None q t = let z : ◌≡◌ {A = ℕ} 0 1 = cc in absurd (omega arith)

      -- The runs of the window decide the constraint.
      pub window-decides : (mode : Mode) (bound : ℕ) → WindowDecides p s h r mode ρs bound
      window-decides Backward bound = (
        λ e k l q.
            let f = window-latency k l q in
            late-not bound _ (all_true _ _ e f.0 f.1) l f.2,
        λ g. true-all _ _ (λ i li. not_late bound _ (λ l q. g (from_of p s h r ρs + i) l q)),
      )
      window-decides Exists bound = (
        λ e.
            let f = is_found-true _ _ e in
            let g = in-time bound _ f.2 in
            (from_of p s h r ρs + f.0, g.0, g.1, g.2),
        λ g.
            let f = window-latency g.0 g.1 g.2 in
            true-is_found _ _ f.0 f.1 (rw f.2 (le-leb _ _ g.3)),
      )

      -- Some run counts, and no latency is 0: so neither mode keeps a bound of 0.
      pub bound-positive : (mode : Mode) (bound : ℕ) → Timely p s mode r ρs bound → 0 < bound
      unfolding run_latency latency_of
      bound-positive Backward bound g =
          let b = back-enough ρs r (length ρs * runs p h r) lt ch (omega arith) in
          omega (arith, g (length ρs * runs p h r) _ (ap (latency_from p s r _ (source p s r ρs)) b.1))
      bound-positive Exists bound (k, l, e, le) = go (back p s r k ρs) e
        where
          go : (f : Option ℕ) → latency_from p s r k (source p s r ρs) f ≡ Some l → 0 < bound
          go (Some m) q = let same : latency_of (rate_of p s r) k (rate_of p s (source p s r ρs)) m ≡ l = cc in omega arith
          go None q = let z : ◌≡◌ {A = ℕ} 0 1 = cc in absurd (omega arith)

module _ (p : Program) (s : Schedule) where
  module _ (acc : Feasible p s) where
    from-decides : (h : ℕ) → Multiple p h → (c : Chain) (rs : List ℕ) → All (λ w. w < count p) rs → LinkedBack p rs →
        (keeps_from p s h c rs ≡ true) ↔ TimelyFrom p s c rs
    from-decides h whole c [] d l = (λ e. tt, λ u. refl)
    from-decides h whole c (r ∷ ws) d l =
        window-decides p s acc h whole r (reads_back p r ws) d.0 (chain-met p s acc ws r d l) c.mode c.bound

    -- The window of runs decides the constraint of a chain.
    pub keeps-decides : (h : ℕ) → Multiple p h → (c : Chain) → is_linked p c.links ≡ true →
        All (λ l. l.signal < count p) c.links → (keeps p s h c ≡ true) ↔ KeepsTime p s c
    unfolding keeps
    keeps-decides h whole c e d =
        from-decides h whole c (backwards c) (declared-backwards p c d) (linked-backwards p c e)
