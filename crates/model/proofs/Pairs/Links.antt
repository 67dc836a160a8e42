-- The links of a chain, from the last to the first: each read on the way back is met, and uses what is stored. Assumes nothing.
use Rattle.std.specs.Prelude.{Some}
use Prim.Native.Nat.{ℕ, ◌+◌, ◌≤◌, ◌<◌, zero, suc, ◌*◌}
use mathlib.Core.Bool.{Bool, true, false, cond, and-eq-true_iff}
use mathlib.Core.List.{List, [], ◌∷◌, map, reverse, reverse_aux}
use mathlib.Core.Path.{◌≡◌, refl, ap, ◌∙◌}
use native.Mathlib.Omega.{arith}
use borrow.Author.Tests.{eqb-true}
use lib.Dec.{eqb}
use Rattle.model.specs.Says.Feasible.{All, Met, Feasible}
use Rattle.model.specs.Rules.Latency.{read_among, reads_back, backwards, used, onward, back, source, latency_of}
use Rattle.model.specs.Rules.Program.{Program, Link, Chain, Read, count, signal_at, body_reads}
use Rattle.model.specs.Rules.Rates.{count_reads, is_linked}
use Rattle.model.specs.Rules.Schedule.{Schedule}
use Rattle.model.specs.Rules.Reads.{rate_of, run_cycle, stored, before, settled}
use Rattle.model.proofs.Basics.All.{all-reverse_aux, all_of_map}
use Rattle.model.proofs.Pairs.Decide.{met-settled, for-put}
use Rattle.model.proofs.Pairs.Lines.{met-index}
use Rattle.model.proofs.Pairs.Rate.{stored-high, bit}

module _ (p : Program) (s : Schedule) where
  module _ (acc : Feasible p s) where
    -- A read that is met uses what is stored when the reader runs.
    pub used-is : (r : ℕ) (ρ : Read) (k : ℕ) → r < count p → Met p s r ρ →
        stored (rate_of p s ρ.operands.signal) (run_cycle (rate_of p s r) k + bit (before s ρ.operands.signal r)) ≡
        used p s r k ρ
    unfolding used
    used-is r ρ k lt m =
        let w = ρ.operands.signal in
        let q = met-settled p s r ρ m in
        met-index ρ.kind (rate_of p s w) (rate_of p s r) ρ.operands.factor (settled p s r ρ) k (before s w r)
        (acc.ordered.phases w m.declared) (acc.ordered.phases r lt) q.0 m.periods q.1
        (λ j i same. for-put ρ.kind s w r (m.order j i same))

-- The read of w is one of the reads.
pub read_of : (Q : Read → Type 0) (w : ℕ) (ρs : List Read) → All Q ρs → 1 ≤ count_reads w ρs →
    Q (read_among w ρs) × ((read_among w ρs).operands.signal ≡ w)
unfolding count_reads read_among
read_of Q w [] h le = absurd (omega arith)
read_of Q w (ρ ∷ ρs) h le = go (eqb ρ.operands.signal w) refl le (λ l. read_of Q w ρs h.1 l)
  where
    go : (b : Bool) → eqb ρ.operands.signal w ≡ b → 1 ≤ cond b 1 0 + count_reads w ρs →
        (1 ≤ count_reads w ρs → Q (read_among w ρs) × ((read_among w ρs).operands.signal ≡ w)) →
        Q (cond b ρ (read_among w ρs)) × ((cond b ρ (read_among w ρs)).operands.signal ≡ w)
    go true e l ih = (h.0, eqb-true _ _ e)
    go false e l ih = ih (omega arith)

module _ (p : Program) (s : Schedule) where
  -- Each read is one of the signal before it, and met.
  abbrev pub ChainMet : ℕ → List Read → Type 0
  ChainMet r [] = Unit {0}
  ChainMet r (ρ ∷ ρs) = Met p s r ρ × ChainMet ρ.operands.signal ρs

  -- A chain of met reads ends at a declared signal.
  pub source-count : (ρs : List Read) (r : ℕ) → r < count p → ChainMet r ρs → source p s r ρs < count p
  unfolding source
  source-count [] r lt ch = lt
  source-count (ρ ∷ ρs) r lt ch = source-count ρs ρ.operands.signal ch.0.declared ch.1

module _ (p : Program) where
  -- Each equation has one read of the signal after it.
  abbrev pub LinkedBack : List ℕ → Type 0
  LinkedBack [] = Unit {0}
  LinkedBack (r ∷ []) = Unit {0}
  LinkedBack (r ∷ (w ∷ ws)) = (count_reads w (body_reads (signal_at p r).body) ≡ 1) × LinkedBack (w ∷ ws)

  linked-back : (a : Link) (ls : List Link) (ws : List ℕ) → is_linked p (a ∷ ls) ≡ true → LinkedBack (a.signal ∷ ws) →
      LinkedBack (reverse_aux (map (λ l. l.signal) ls) (a.signal ∷ ws))
  unfolding is_linked
  linked-back a [] ws e h = h
  linked-back a (b ∷ ls) ws e h =
      let f = (and-eq-true_iff _ (is_linked p (b ∷ ls))).0 e in
      linked-back b ls (a.signal ∷ ws) f.1 (eqb-true _ _ f.0, h)

  pub linked-backwards : (c : Chain) → is_linked p c.links ≡ true → LinkedBack (backwards c)
  linked-backwards c e = go c.links e
    where
      go : (ls : List Link) → is_linked p ls ≡ true → LinkedBack (reverse (map (λ l. l.signal) ls))
      go [] f = tt
      go (a ∷ ls) f = linked-back a ls [] f tt

  pub declared-backwards : (c : Chain) → All (λ l. l.signal < count p) c.links → All (λ w. w < count p) (backwards c)
  declared-backwards c h =
      all-reverse_aux (λ w. w < count p) (map (λ l. l.signal) c.links) []
      (all_of_map (λ w. w < count p) (λ l. l.signal) c.links h) tt

module _ (p : Program) (s : Schedule) where
  module _ (acc : Feasible p s) where
    pub chain-met : (ws : List ℕ) (r : ℕ) → All (λ w. w < count p) (r ∷ ws) → LinkedBack p (r ∷ ws) →
        ChainMet p s r (reads_back p r ws)
    unfolding reads_back
    chain-met [] r d h = tt
    chain-met (w ∷ ws) r d h =
        let q = read_of (Met p s r) w (body_reads (signal_at p r).body) (acc.met r d.0) (omega (arith, h.0)) in
        (q.0, rw q.1 (chain-met ws w d.1 h.1))

module _ (p : Program) (s : Schedule) where
  module _ (acc : Feasible p s) where
    -- The way back ends no later than it starts.
    pub back-before : (ρs : List Read) (r k m : ℕ) → r < count p → ChainMet p s r ρs → back p s r k ρs ≡ Some m →
        run_cycle (rate_of p s (source p s r ρs)) m ≤ run_cycle (rate_of p s r) k
    unfolding back source
    back-before [] r k m lt ch e = let q : m ≡ k = cc in omega (arith, ap (◌* (signal_at p r).period) q)
    back-before (ρ ∷ ρs) r k m lt ch e =
        go (used p s r k ρ) refl e (λ j f. back-before ρs ρ.operands.signal j m ch.0.declared ch.1 f)
      where
        w : ℕ
        w = ρ.operands.signal

        one : (b : Bool) → bit b ≤ 1
        one true = omega arith
        one false = omega arith

        go : (j : ℕ) → used p s r k ρ ≡ j → onward (λ m. back p s w m ρs) j ≡ Some m →
            ((j : ℕ) → back p s w j ρs ≡ Some m → run_cycle (rate_of p s (source p s w ρs)) m ≤ run_cycle (rate_of p s w) j) →
            run_cycle (rate_of p s (source p s w ρs)) m ≤ run_cycle (rate_of p s r) k
        go zero u f ih = let z : ◌≡◌ {A = ℕ} 0 1 = cc in absurd (omega arith)
        go (suc j) u f ih =
            let t : ℕ = run_cycle (rate_of p s r) k + bit (before s w r) in
            let g = stored-high (rate_of p s w) t (acc.ordered.phases w ch.0.declared) in
            omega (arith, ih j f, one (before s w r), rw (used-is p s acc r ρ k lt ch.0 ∙ u) at g)

    module _ (r : ℕ) (ρs : List Read) (lt : r < count p) (ch : ChainMet p s r ρs) where
      -- A latency is 1 more than the cycles from the element of the first link to the run: no difference is cut.
      pub latency-adds : (k m : ℕ) → back p s r k ρs ≡ Some m →
          latency_of (rate_of p s r) k (rate_of p s (source p s r ρs)) m + run_cycle (rate_of p s (source p s r ρs)) m ≡
          run_cycle (rate_of p s r) k + 1
      unfolding latency_of
      latency-adds k m e = omega (arith, back-before ρs r k m lt ch e)
