-- The step machine on programs, a word for each signal and a position in the hypercycle: a cycle moves every signal on to what
-- its stream has stored. Assumes nothing.
use Prim.Native.Nat.{ℕ, suc, ◌+◌, ◌/◌, ◌≤◌, ◌<◌}
use mathlib.Core.Bool.{Bool, true, false, cond}
use mathlib.Core.List.{List, [], ◌∷◌}
use mathlib.Core.Path.{◌≡◌, refl, sym, ap, subst, ◌∙◌}
use native.Mathlib.Omega.{arith}
use borrow.Author.Tests.{ltb-true, ltb-false, lt-ltb, le-ltb, ne_eqb, eqb-true, eqb-false}
use lib.Dec.{eqb, ltb}
use lib.IntN.{ℤ}
use lib.ListN.{length, get_or}
use Rattle.model.specs.Says.Feasible.{Met, Feasible}
use Rattle.model.specs.Rules.Latency.{used}
use Rattle.model.specs.Rules.Program.{Program, count, signal_at}
use Rattle.model.specs.Rules.Reads.{rate_of, run_cycle, due, stored, rank, settled}
use Rattle.model.specs.Rules.Schedule.{Schedule}
use Rattle.theorems_streams.specs.Held.{IsInput}
use Rattle.theorems_streams.specs.Streams.{next, Satisfies}
use Rattle.model.proofs.Pairs.Decide.{rank-at}
use Rattle.model.proofs.Pairs.Rate.{stored_is, stored-bit, bit, due-run, run-due}
use Rattle.model.proofs.Pairs.Links.{used-is}
use Rattle.theorems_streams.proofs.Values.{next-same, next-given}

pub record State : Type 0 where
  pub position : ℕ
  pub words : ℕ → ℤ

abbrev pub store : (ℕ → ℤ) → ℕ → ℤ → ℕ → ℤ
store σ x w v = cond (eqb v x) w (σ v)

-- Reset puts the initial words in, and leaves words beyond the signals.
abbrev pub reset : Program → State → State
reset p st = record { position = 0; words = λ x. cond (ltb x (count p)) (signal_at p x).initial (st.words x) }

module _ (p : Program) (s : Schedule) where
  -- Signal x in a cycle at position q: it runs if it is due. Every read takes the word that the signal read holds.
  abbrev pub turn : (ℕ → ℤ) → ℕ → (ℕ → ℤ) → ℕ → ℕ → ℤ
  turn samples q σ x =
      cond (due (rate_of p s x) q) (store σ x (next p.rows (λ ρ. σ ρ.operands.signal) (samples x) (signal_at p x).body)) σ

  abbrev pub turns : (ℕ → ℤ) → ℕ → List ℕ → (ℕ → ℤ) → ℕ → ℤ
  turns samples q [] σ = σ
  turns samples q (x ∷ xs) σ = turns samples q xs (turn samples q σ x)

  -- One cycle, with h the length of the hypercycle.
  abbrev pub cycle : ℕ → (ℕ → ℤ) → State → State
  cycle h samples st =
      record {
        position = cond (eqb (suc st.position) h) 0 (suc st.position);
        words = turns samples st.position s.order st.words;
      }

  -- A word that has no turn stays.
  turn-other : (samples : ℕ → ℤ) (q : ℕ) (σ : ℕ → ℤ) (x v : ℕ) → x < v → turn samples q σ x v ≡ σ v
  turn-other samples q σ x v lt = go (due (rate_of p s x) q)
    where
      go : (d : Bool) →
          cond d (store σ x (next p.rows (λ ρ. σ ρ.operands.signal) (samples x) (signal_at p x).body)) σ v ≡ σ v
      go true = rw (ne_eqb v x (λ e. omega arith))
      go false = refl

  pub turns-other : (samples : ℕ → ℤ) (q : ℕ) (waiting : List ℕ) (σ : ℕ → ℤ) (v : ℕ) →
      ((j : ℕ) → j < length waiting → get_or waiting j 0 < v) → turns samples q waiting σ v ≡ σ v
  turns-other samples q [] σ v h = refl
  turns-other samples q (x ∷ xs) σ v h =
      turns-other samples q xs (turn samples q σ x) v (λ j l. h (suc j) (omega arith)) ∙
      turn-other samples q σ x v (h 0 (omega arith))

put : (t x y : ℕ) → x < y → t + bit (ltb x y) ≡ suc t
put t x y h = rw (lt-ltb x y h) (omega arith)

unput : (t x y : ℕ) → y ≤ x → t + bit (ltb x y) ≡ t
unput t x y h = rw (le-ltb x y h) (omega arith)

-- One place more makes no difference to a signal at another place.
other_place : (x y : ℕ) → (x ≡ y → ⊥) → ltb x y ≡ ltb x (suc y)
other_place x y h = go (ltb x y) refl
  where
    go : (b : Bool) → ltb x y ≡ b → b ≡ ltb x (suc y)
    go true e = let f = ltb-true x y e in sym (lt-ltb x (suc y) (omega arith))
    go false e = let f = ltb-false x y e in sym (le-ltb x (suc y) (omega arith))

module _ (p : Program) (s : Schedule) (acc : Feasible p s) (inputs X : ℕ → ℕ → ℤ) (sat : Satisfies p (settled p s) inputs X) where
  -- Before the signal at place i has its turn in cycle t, each signal holds what is stored of its stream.
  abbrev Midway : ℕ → ℕ → (ℕ → ℤ) → Type 0
  Midway t i σ = (x : ℕ) → x < count p → σ x ≡ X x (stored (rate_of p s x) (t + bit (ltb (rank s.order x) i)))

  -- Signals have different places.
  apart : (v x : ℕ) → v < count p → x < count p → rank s.order v ≡ rank s.order x → v ≡ x
  apart v x lv lx e =
      sym (rank-at s.order v (acc.ordered.put v lv)) ∙ ap (λ j. get_or s.order j 0) e ∙
      rank-at s.order x (acc.ordered.put x lx)

  module _ (t q : ℕ) (here : (x : ℕ) → x < count p → due (rate_of p s x) q ≡ due (rate_of p s x) t) (samples : ℕ → ℤ)
      (lent : (x k : ℕ) → x < count p → IsInput (signal_at p x).body → run_cycle (rate_of p s x) k ≡ t →
      samples x ≡ inputs x k) where
    -- What a run stores is the next element.
    run-word : (x k : ℕ) (σ : ℕ → ℤ) → x < count p → run_cycle (rate_of p s x) k ≡ t → Midway t (rank s.order x) σ →
        next p.rows (λ ρ. σ ρ.operands.signal) (samples x) (signal_at p x).body ≡ X x (suc k)
    unfolding used
    run-word x k σ lt e mid =
        next-given p.rows (λ ρ. σ ρ.operands.signal) (samples x) (inputs x k) (signal_at p x).body (λ i. lent x k lt i e) ∙
        next-same p.rows (Met p s x) (λ ρ. σ ρ.operands.signal) (λ ρ. X ρ.operands.signal (used p s x k ρ))
        (λ ρ m. mid ρ.operands.signal m.declared ∙ ap (X ρ.operands.signal) ((rw e) ∙ used-is p s acc x ρ k lt m))
        (inputs x k) (signal_at p x).body (acc.met x lt) ∙
        sym (sat x (suc k) lt)

    -- A signal that does not run keeps its word.
    still : (x v : ℕ) (σ : ℕ → ℤ) → x < count p → v < count p → Midway t (rank s.order x) σ →
        ((j : ℕ) → run_cycle (rate_of p s v) j ≡ t → v ≡ x → ⊥) →
        σ v ≡ X v (stored (rate_of p s v) (t + bit (ltb (rank s.order v) (suc (rank s.order x)))))
    still x v σ lt lv mid h =
        mid v lv ∙
        ap (X v) (stored-bit (rate_of p s v) t _ _ (acc.ordered.phases v lv)
        (λ j e. other_place _ _ (λ q. h j e (apart v x lv lt q))))

    -- One turn.
    turn-mid : (x : ℕ) (σ : ℕ → ℤ) → x < count p → Midway t (rank s.order x) σ →
        Midway t (suc (rank s.order x)) (turn p s samples q σ x)
    turn-mid x σ lt mid v lv = go (due (rate_of p s x) q) (sym (here x lt))
      where
        new : ℤ
        new = next p.rows (λ ρ. σ ρ.operands.signal) (samples x) (signal_at p x).body

        Goal : ℤ → Type 0
        Goal w = w ≡ X v (stored (rate_of p s v) (t + bit (ltb (rank s.order v) (suc (rank s.order x)))))

        ran : due (rate_of p s x) t ≡ true → v ≡ x → Goal new
        ran d q =
            let e = due-run (rate_of p s x) t d in
            let f = acc.ordered.phases x lt in
            rw q (run-word x (t / (signal_at p x).period) σ lt e mid ∙
            ap (X x) (sym (ap (stored (rate_of p s x)) (put t (rank s.order x) (suc (rank s.order x)) (omega arith)) ∙
            stored_is (rate_of p s x) (suc t) (suc (t / (signal_at p x).period)) (omega arith) (omega arith))))

        sub : (b : Bool) → eqb v x ≡ b → due (rate_of p s x) t ≡ true → Goal (cond b new (σ v))
        sub true e d = ran d (eqb-true v x e)
        sub false e d = still x v σ lt lv mid (λ j h q. eqb-false v x e q)

        go : (d : Bool) → due (rate_of p s x) t ≡ d → Goal (cond d (store σ x new) σ v)
        go true d = sub (eqb v x) refl d
        go false d = still x v σ lt lv mid (λ j h q. run-due (rate_of p s x) t (acc.ordered.phases x lt) d j (rw q at h))

    -- All turns of a cycle.
    turns-mid : (waiting : List ℕ) (i : ℕ) (σ : ℕ → ℤ) →
        ((j : ℕ) → j < length waiting → rank s.order (get_or waiting j 0) ≡ i + j) →
        ((j : ℕ) → j < length waiting → get_or waiting j 0 < count p) → Midway t i σ →
        Midway t (i + length waiting) (turns p s samples q waiting σ)
    turns-mid [] i σ at known mid = subst (λ k. Midway t k σ) (omega arith) mid
    turns-mid (x ∷ xs) i σ at known mid =
        let e = at 0 (omega arith) in
        let lx = known 0 (omega arith) in
        let mid' : Midway t (rank s.order x) σ = subst (λ k. Midway t k σ) (omega arith) mid in
        let rest = turns-mid xs (suc (rank s.order x)) (turn p s samples q σ x)
        (λ j h. at (suc j) (omega arith) ∙ omega arith) (λ j h. known (suc j) (omega arith)) (turn-mid x σ lx mid') in
        subst (λ k. Midway t k (turns p s samples q xs (turn p s samples q σ x))) (omega arith) rest

    pub cycle-words : (σ : ℕ → ℤ) → ((x : ℕ) → x < count p → σ x ≡ X x (stored (rate_of p s x) t)) →
        (x : ℕ) → x < count p → turns p s samples q s.order σ x ≡ X x (stored (rate_of p s x) (suc t))
    cycle-words σ h x lx =
        turns-mid s.order 0 σ (λ j l. acc.ordered.once j l ∙ omega arith) acc.ordered.only
        (λ v lv. h v lv ∙ ap (X v) (ap (stored (rate_of p s v)) (sym (unput t (rank s.order v) 0 (omega arith))))) x lx ∙
        ap (X x) (ap (stored (rate_of p s x)) (put t (rank s.order x) (0 + length s.order)
        (omega (arith, acc.ordered.put x lx))))
