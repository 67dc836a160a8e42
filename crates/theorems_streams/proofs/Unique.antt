-- The streams of an accepted pair exist and are unique. Assumes nothing.
use Prim.Native.Nat.{ℕ, zero, suc, ◌+◌, ◌*◌, ◌≤◌, ◌<◌}
use mathlib.Core.Bool.{Bool, true, false, cond}
use mathlib.Core.List.{List, [], ◌∷◌}
use mathlib.Core.Path.{◌≡◌, refl}
use native.Mathlib.Nat.{mul-le-mul_right}
use native.Mathlib.Omega.{arith}
use borrow.Author.Tests.{ltb-true}
use lib.Dec.{ltb, eqb}
use lib.IntN.{ℤ}
use lib.ListN.{length}
use Rattle.model.specs.Says.Feasible.{Met, Feasible}
use Rattle.model.specs.Rules.Latency.{used}
use Rattle.model.specs.Rules.Program.{Program, Read, count, signal_at}
use Rattle.model.specs.Rules.Reads.{Rate, rate_of, run_cycle, stored, rank, before, settled}
use Rattle.model.specs.Rules.Schedule.{Schedule}
use Rattle.theorems_streams.specs.Streams.{entry, Satisfies}
use Rattle.model.proofs.Pairs.Rate.{stored-high, bit}
use Rattle.model.proofs.Pairs.Links.{used-is}
use Rattle.theorems_streams.proofs.Fix
use Rattle.theorems_streams.proofs.Values.{next-same}

-- A place is at most the number of signals put.
rank-le : (xs : List ℕ) (x : ℕ) → rank xs x ≤ length xs
unfolding rank
rank-le [] x = omega arith
rank-le (y ∷ ys) x = go (eqb y x) (rank-le ys x)
  where
    go : (b : Bool) → rank ys x ≤ length ys → cond b 0 (suc (rank ys x)) ≤ suc (length ys)
    go true h = omega arith
    go false h = omega arith

-- Runs in the order of their cycles, and in one cycle in the order of their places.
earlier : (t u x y l : ℕ) → x < l → t < u + bit (ltb x y) → t * l + x < u * l + y
earlier t u x y l h lt = go (ltb x y) refl lt
  where
    go : (b : Bool) → ltb x y ≡ b → t < u + bit b → t * l + x < u * l + y
    go true e g =
        let m : t * l ≤ u * l = mul-le-mul_right l (omega arith) in
        omega (arith, ltb-true x y e)
    go false e g =
        let m : suc t * l ≤ u * l = mul-le-mul_right l (omega arith) in
        omega arith

module _ (p : Program) (s : Schedule) where
  -- The number of a history entry in the order in which the entries are computed; 0 for initial words.
  pub number : ℕ → ℕ → ℕ
  number x zero = zero
  number x (suc k) = suc (run_cycle (rate_of p s x) k * suc (length s.order) + rank s.order x)

  module _ (acc : Feasible p s) where
    -- What it uses was computed before.
    pub used-lower : (r : ℕ) (ρ : Read) (k : ℕ) → r < count p → Met p s r ρ →
        number ρ.operands.signal (used p s r k ρ) < number r (suc k)
    unfolding number
    used-lower r ρ k lt m = go (used p s r k ρ) (used-is p s acc r ρ k lt m)
      where
        w : ℕ
        w = ρ.operands.signal

        t : ℕ
        t = run_cycle (rate_of p s r) k + bit (before s w r)

        go : (j : ℕ) → stored (rate_of p s w) t ≡ j → number w j < number r (suc k)
        go zero e = omega arith
        go (suc j) e =
            let a : Rate = rate_of p s w in
            let h : run_cycle a (suc j) < t + a.period = rw e at (stored-high a t (acc.ordered.phases w m.declared)) in
            let f = rank-le s.order w in
            let g = earlier (run_cycle a j) (run_cycle (rate_of p s r) k) (rank s.order w) (rank s.order r)
            (suc (length s.order)) (omega arith) (omega arith) in
            omega arith

    -- A history entry depends on entries of lower number only.
    pub entry-same : (inputs X Y : ℕ → ℕ → ℤ) (x j : ℕ) → x < count p →
        ((w i : ℕ) → w < count p → number w i < number x j → X w i ≡ Y w i) →
        entry p (settled p s) inputs X x j ≡ entry p (settled p s) inputs Y x j
    unfolding used
    entry-same inputs X Y x zero lt h = refl
    entry-same inputs X Y x (suc k) lt h =
        next-same p.rows (Met p s x) (λ ρ. X ρ.operands.signal (used p s x k ρ))
        (λ ρ. Y ρ.operands.signal (used p s x k ρ))
        (λ ρ m. h ρ.operands.signal (used p s x k ρ) m.declared (used-lower x ρ k lt m))
        (inputs x k) (signal_at p x).body (acc.met x lt)

    module _ (inputs : ℕ → ℕ → ℤ) where
      -- Streams that satisfy the equations exist ..
      pub streams : ℕ → ℕ → ℤ
      streams =
          Fix.solution (count p) number (entry p (settled p s) inputs) (entry-same inputs) (λ x j. (signal_at p x).initial)

      pub streams-satisfy : Satisfies p (settled p s) inputs streams
      unfolding streams
      streams-satisfy =
          Fix.solves (count p) number (entry p (settled p s) inputs) (entry-same inputs) (λ x j. (signal_at p x).initial)

      -- .. and all that satisfy them are the same.
      pub streams-unique : (X Y : ℕ → ℕ → ℤ) → Satisfies p (settled p s) inputs X → Satisfies p (settled p s) inputs Y →
          (x j : ℕ) → x < count p → X x j ≡ Y x j
      streams-unique = Fix.agree (count p) number (entry p (settled p s) inputs) (entry-same inputs)
