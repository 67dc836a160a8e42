-- The chains of a pair with one phase set: which runs count stays, and each latency changes alike. Assumes nothing.
use Rattle.std.specs.Prelude.{Option, Some, None}
use Prim.Native.Nat.{ℕ, zero, suc, ◌+◌, ◌*◌, ◌-◌, ◌/◌, ◌≤◌, ◌<◌}
use mathlib.Core.Bool.{Bool, true, false, cond, not, false≢true}
use mathlib.Core.List.{List, [], ◌∷◌}
use mathlib.Core.Logic.{◌↔◌}
use mathlib.Core.Path.{◌≡◌, refl, sym, ap, subst, ◌∙◌, fun_ext}
use native.Mathlib.Nat.{div-mul_cancel, le_of_dvd}
use native.Mathlib.Omega.{arith}
use borrow.Author.Tests.{ltb-true, lt-ltb, leb-true, le-leb, ltb-false, not-true, eqb-true, eqb-false}
use lib.Dec.{eqb}
use lib.ListN.{length}
use Rattle.model.specs.Rules.Latency.{
  reads_back,
  backwards,
  onward,
  used,
  back,
  source,
  latency_of,
  latency_from,
  run_latency,
  is_late,
  is_in_time,
  is_timely,
  from_of,
  window_of,
  keeps_from,
  keeps,
}
use Rattle.model.specs.Rules.Program.{Program, Chain, Read, count, signal_at, body_reads}
use Rattle.model.specs.Rules.Reads.{rate_of, run_cycle, stored, before, settled}
use Rattle.model.specs.Rules.Schedule.{Schedule, phase_of}
use Rattle.model.specs.Rules.Search.{first_below, is_found, all_below}
use Rattle.model.specs.Says.Feasible.{All, Feasible, Multiple}
use Rattle.model.specs.declared.Mode.{Mode}
use Rattle.model.specs.declared.Mode.TheVariants.{Exists, Backward}
use Rattle.model.proofs.Basics.Tests.{together}
use Rattle.model.proofs.Pairs.Decide.{all_true, is_found-true}
use Rattle.model.proofs.Pairs.Links.{read_of, used-is, ChainMet, source-count, LinkedBack, chain-met, latency-adds}
use Rattle.model.proofs.Pairs.Rate.{stored_low, bit}
use Rattle.check_latency.specs.Timely.{with_bound}
use Rattle.move_rule.specs.Ranges.{phase_after, StaysFrom, ChainStays}
use Rattle.model.proofs.Pairs.Moves.{Moved, Alike}

-- A run that is late enough counts.
module _ (p : Program) (s : Schedule) (acc : Feasible p s) (h : ℕ) (whole : Multiple p h) where
  period-most : (x : ℕ) → x < count p → (signal_at p x).period ≤ h
  period-most x lt = le_of_dvd whole.positive (whole.divides x lt)

  counts : (ρs : List Read) (r k : ℕ) → r < count p → ChainMet p s r ρs → length ρs * h ≤ run_cycle (rate_of p s r) k →
      (m : ℕ) × (back p s r k ρs ≡ Some m)
  unfolding back
  counts [] r k lt ch le = (k, refl)
  counts (ρ ∷ ρs) r k lt ch le =
      go (used p s r k ρ) (used-is p s acc r ρ k lt ch.0) (λ j l. counts ρs ρ.operands.signal j ch.0.declared ch.1
      l)
    where
      w : ℕ
      w = ρ.operands.signal

      t : ℕ
      t = run_cycle (rate_of p s r) k + bit (before s w r)

      go : (j : ℕ) → stored (rate_of p s w) t ≡ j →
          ((j : ℕ) → length ρs * h ≤ run_cycle (rate_of p s w) j → (m : ℕ) × (back p s w j ρs ≡ Some m)) →
          (m : ℕ) × (onward (λ m. back p s w m ρs) j ≡ Some m)
      go zero e ih =
          let v = acc.ordered.phases w ch.0.declared in
          let l = rw e at (stored_low (rate_of p s w) t v) in
          absurd (omega (arith, l, v, period-most w ch.0.declared))
      go (suc j) e ih =
          let v = acc.ordered.phases w ch.0.declared in
          let l = rw e at (stored_low (rate_of p s w) t v) in
          ih j (omega (arith, l, period-most w ch.0.declared))

-- Two schedules that settle alike go back alike.
module _ (p : Program) (s s' : Schedule) where
  abbrev ChainAlike : ℕ → List Read → Type 0
  ChainAlike r [] = Unit {0}
  ChainAlike r (ρ ∷ ρs) = (settled p s r ρ ≡ settled p s' r ρ) × ChainAlike ρ.operands.signal ρs

  chain-alike : Alike p s s' → (ws : List ℕ) (r : ℕ) → All (λ w. w < count p) (r ∷ ws) → LinkedBack p (r ∷ ws) →
      ChainAlike r (reads_back p r ws)
  unfolding reads_back
  chain-alike al [] r d h = tt
  chain-alike al (w ∷ ws) r d h =
      let q = read_of (λ ρ. settled p s r ρ ≡ settled p s' r ρ) w (body_reads (signal_at p r).body) (al r d.0)
      (omega (arith, h.0)) in
      (q.0, rw q.1 (chain-alike al ws w d.1 h.1))

  back-same : (ρs : List Read) (r k : ℕ) → ChainAlike r ρs → back p s r k ρs ≡ back p s' r k ρs
  unfolding back used
  back-same [] r k h = refl
  back-same (ρ ∷ ρs) r k h = rw h.0 (go (used p s' r k ρ) (λ m. back-same ρs ρ.operands.signal m h.1))
    where
      w : ℕ
      w = ρ.operands.signal

      go : (j : ℕ) → ((m : ℕ) → back p s w m ρs ≡ back p s' w m ρs) →
          onward (λ m. back p s w m ρs) j ≡ onward (λ m. back p s' w m ρs) j
      go zero f = refl
      go (suc m) f = f m

  source-same : (ρs : List Read) (r : ℕ) → source p s r ρs ≡ source p s' r ρs
  unfolding source
  source-same [] r = refl
  source-same (ρ ∷ ρs) r = source-same ρs ρ.operands.signal

-- Latencies that change alike: l' less l is u less v.
abbrev Shifted : ℕ → ℕ → Option ℕ → Option ℕ → Type 0
Shifted u v (Some l) (Some l') = l' + v ≡ l + u
Shifted u v (Some l) None = ⊥
Shifted u v None (Some l') = ⊥
Shifted u v None None = Unit {0}

module _ (p : Program) (s s' : Schedule) (acc : Feasible p s) (acc' : Feasible p s') (r : ℕ) (ρs : List Read) (lt : r < count p)
    (ch : ChainMet p s r ρs) (ch' : ChainMet p s' r ρs) (al : ChainAlike p s s' r ρs) where
  abbrev a : ℕ
  a = source p s r ρs

  abbrev u : ℕ
  u = phase_of s a + phase_of s' r

  abbrev v : ℕ
  v = phase_of s' a + phase_of s r

  shifted : (k : ℕ) → Shifted u v (run_latency p s r ρs k) (run_latency p s' r ρs k)
  unfolding run_latency
  shifted k =
      rw (sym (source-same p s s' ρs r), sym (back-same p s s' ρs r k al)) (go (back p s r k ρs) refl)
    where
      go : (f : Option ℕ) → back p s r k ρs ≡ f → Shifted u v (latency_from p s r k a f) (latency_from p s' r k a f)
      go (Some m) e =
          let l = latency-adds p s acc r ρs lt ch k m e in
          let l' = subst (λ b. latency_of (rate_of p s' r) k (rate_of p s' b) m + run_cycle (rate_of p s' b) m ≡ run_cycle (rate_of p
          s' r) k + 1)
          (sym (source-same p s s' ρs r))
          (latency-adds p s' acc' r ρs lt ch' k m (sym (back-same p s s' ρs r k al) ∙ e)) in
          omega (arith, l, l')
      go None e = tt

  run-found : (k m : ℕ) → back p s r k ρs ≡ Some m → run_latency p s r ρs k ≡ Some (latency_of (rate_of p s r) k (rate_of p s a) m)
  unfolding run_latency
  run-found k m q = rw q

  late-shift : (b b' : ℕ) → b + v ≡ b' + u → (f f' : Option ℕ) → Shifted u v f f' → is_late p s' b f' ≡ is_late p s b' f
  late-shift b b' e (Some l) (Some l') q =
      together _ _ (λ t. lt-ltb b' l (omega (arith, ltb-true b l' t))) (λ t. lt-ltb b l' (omega (arith, ltb-true b' l t)))
  late-shift b b' e (Some l) None q = absurd q
  late-shift b b' e None (Some l') q = absurd q
  late-shift b b' e None None q = refl

  in-time-shift : (b b' : ℕ) → b + v ≡ b' + u → (f f' : Option ℕ) → Shifted u v f f' → is_in_time p s' b f' ≡ is_in_time p s b' f
  in-time-shift b b' e (Some l) (Some l') q =
      together _ _ (λ t. le-leb l b' (omega (arith, leb-true l' b t))) (λ t. le-leb l' b (omega (arith, leb-true l b' t)))
  in-time-shift b b' e (Some l) None q = absurd q
  in-time-shift b b' e None (Some l') q = absurd q
  in-time-shift b b' e None None q = refl

  timely-shift : (mode : Mode) (b b' from window : ℕ) → b + v ≡ b' + u →
      is_timely p s' mode r ρs b from window ≡ is_timely p s mode r ρs b' from window
  timely-shift Backward b b' from window e =
      ap (all_below window)
      (fun_ext (λ i. ap not (late-shift b b' e (run_latency p s r ρs (from + i)) (run_latency p s' r ρs (from + i)) (shifted (from
      + i)))))
  timely-shift Exists b b' from window e =
      ap (λ t. is_found (first_below window t))
      (fun_ext (λ i. in-time-shift b b' e (run_latency p s r ρs (from + i)) (run_latency p s' r ρs (from + i)) (shifted (from +
      i))))

  module _ (h : ℕ) (whole : Multiple p h) where
    runs-fill : h / (signal_at p r).period * (signal_at p r).period ≡ h
    runs-fill = div-mul_cancel (signal_at p r).period (whole.divides r lt)

    some-run : 0 < h / (signal_at p r).period
    some-run = go (h / (signal_at p r).period) runs-fill
      where
        go : (n : ℕ) → n * (signal_at p r).period ≡ h → 0 < n
        go zero e = absurd (omega (arith, whole.positive))
        go (suc n) e = omega arith

    -- No bound is kept that is below the change.
    not-below : (mode : Mode) (b : ℕ) → is_timely p s' mode r ρs b (from_of p s' h r ρs) (window_of p s' h r) ≡ true → u ≤ b + v
    unfolding from_of window_of
    not-below Backward b e =
        let from = length ρs * (h / (signal_at p r).period) in
        let m = counts p s acc h whole ρs r from lt ch (omega (arith, ap (length ρs *◌) runs-fill)) in
        go (run_latency p s r ρs (from + 0)) (run_latency p s' r ρs (from + 0)) (shifted (from + 0)) (found from m)
        (all_true _ _ e 0 some-run)
      where
        found : (from : ℕ) → (m : ℕ) × (back p s r from ρs ≡ Some m) → (l : ℕ) × (run_latency p s r ρs (from + 0) ≡ Some l)
        found from (m, q) =
            let z : from + 0 ≡ from = omega arith in
            (latency_of (rate_of p s r) from (rate_of p s a) m, rw z (run-found from m q))

        go : (f f' : Option ℕ) → Shifted u v f f' → (l : ℕ) × (f ≡ Some l) → not (is_late p s' b f') ≡ true → u ≤ b + v
        go (Some l) (Some l') q t n = omega (arith, ltb-false b l' (not-true _ n))
        go (Some l) None q t n = absurd q
        go None (Some l') q t n = absurd q
        go None None q t n = let z : ◌≡◌ {A = ℕ} 0 1 = cc t.1 in absurd (omega arith)
    not-below Exists b e =
        let k = is_found-true _ _ e in
        let j = length ρs * (h / (signal_at p r).period) + k.0 in
        go (run_latency p s r ρs j) (run_latency p s' r ρs j) (shifted j) k.2
      where
        go : (f f' : Option ℕ) → Shifted u v f f' → is_in_time p s' b f' ≡ true → u ≤ b + v
        go (Some l) (Some l') q n = omega (arith, leb-true l' b n)
        go (Some l) None q n = absurd q
        go None (Some l') q n = absurd q
        go None None q n = absurd (false≢true n)

module _ (p : Program) (s s' : Schedule) (x f : ℕ) (mv : Moved p s x f s') where
  pub phase-after : (y : ℕ) → y < count p → phase_of s' y ≡ phase_after s x f y
  phase-after y lt = go (eqb y x) refl
    where
      go : (b : Bool) → eqb y x ≡ b → phase_of s' y ≡ cond b f (phase_of s y)
      go true e = ap (phase_of s') (eqb-true y x e) ∙ mv.here
      go false e = mv.there y lt (eqb-false y x e)

  module _ (acc : Feasible p s) (acc' : Feasible p s') (al : Alike p s s') (h : ℕ) (whole : Multiple p h) where
    from-moved : (c : Chain) (rs : List ℕ) → backwards c ≡ rs → All (λ w. w < count p) rs → LinkedBack p rs →
        (keeps_from p s' h c rs ≡ true) ↔ StaysFrom p s h x f c rs
    unfolding from_of window_of keeps
    from-moved c [] q d l = (λ e. tt, λ e. refl)
    from-moved c (r ∷ ws) q d l =
        let ρs = reads_back p r ws in
        let ch = chain-met p s acc ws r d l in
        let ch' = chain-met p s' acc' ws r d l in
        let same = chain-alike p s s' al ws r d l in
        let a = source p s r ρs in
        let la = source-count p s ρs r d.0 ch in
        let pa = phase-after a la in
        let pr = phase-after r d.0 in
        let shift = timely-shift p s s' acc acc' r ρs d.0 ch ch' same in
        let low = not-below p s s' acc acc' r ρs d.0 ch ch' same h whole in
        let kept : (b : ℕ) → keeps p s h (with_bound c b) ≡ is_timely p s c.mode r ρs b (from_of p s h r ρs) (window_of p s h r) =
        λ b. ap (keeps_from p s h (with_bound c b)) q in (
          λ e.
              let le = low c.mode c.bound e in
              let b = c.bound + (phase_of s' a + phase_of s r) - (phase_of s a + phase_of s' r) in (
                b,
                omega (arith, pa, pr, le),
                kept b ∙ sym (shift c.mode c.bound b _ _ (omega (arith, le))) ∙ e,
              ),
          λ (b, t, e). shift c.mode c.bound b _ _ (omega (arith, pa, pr, t)) ∙ sym (kept b) ∙ e,
        )

    -- A chain keeps its limit after the move exactly if the bounds before it say so.
    pub keeps-moved : (c : Chain) → All (λ w. w < count p) (backwards c) → LinkedBack p (backwards c) →
        (keeps p s' h c ≡ true) ↔ ChainStays p s h x f c
    unfolding keeps
    keeps-moved c d l = from-moved c (backwards c) refl d l
