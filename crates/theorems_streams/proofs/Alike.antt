-- Two accepted schedules of one program that settle alike have the same streams and store the same words. Assumes nothing.
use Prim.Native.Nat.{ℕ, zero, suc, ◌<◌}
use mathlib.Core.Bool.{Bool, true, false, cond}
use mathlib.Core.List.{List, [], ◌∷◌}
use mathlib.Core.Path.{◌≡◌, refl, sym, ap, ◌∙◌}
use borrow.Author.Tests.{lt-ltb, ltb-true}
use lib.Dec.{ltb}
use lib.IntN.{ℤ}
use lib.ListN.{length}
use Rattle.model.specs.Says.Feasible.{All, Feasible, Multiple}
use Rattle.model.specs.Says.Calls.{Call}
use Rattle.theorems_streams.specs.Held.{Supplied}
use Rattle.model.specs.Rules.Latency.{used}
use Rattle.theorems_streams.specs.Lists.{SettleAlike, sample, Agree}
use Rattle.model.specs.Rules.Program.{Program, count, signal_at, body_reads}
use Rattle.model.specs.Rules.Reads.{Rate, rate_of, run_cycle, stored, settled_index, settled}
use Rattle.model.specs.Rules.Schedule.{Schedule}
use Rattle.theorems_streams.specs.Streams.{Satisfies}
use Rattle.model.specs.declared.Index.{Index}
use Rattle.model.specs.declared.Index.TheVariants.{Fixed, Open}
use Rattle.model.specs.declared.Kind.{Kind}
use Rattle.theorems_streams.proofs.Lists.{log_of, state_after, calls-follow}
use Rattle.theorems_streams.proofs.Turns.{State, reset}
use Rattle.theorems_streams.proofs.Unique.{streams, streams-satisfy}
use Rattle.theorems_streams.proofs.Values.{next-same}

-- Each read has the same index under both schedules.
abbrev pub Alike : Program → Schedule → Schedule → Type 0
Alike p s s' = (x : ℕ) → x < count p → All (λ ρ. settled p s x ρ ≡ settled p s' x ρ) (body_reads (signal_at p x).body)

all_map : {A : Type 0} (Q R : A → Type 0) → ((a : A) → Q a → R a) → (xs : List A) → All Q xs → All R xs
all_map Q R f [] q = tt
all_map Q R f (x ∷ xs) q = (f x q.0, all_map Q R f xs q.1)

fixed_alike : (kind : Kind) (w r w' r' : Rate) (n : ℕ) (i : Index) →
    (i ≡ Open → settled_index kind w r n i ≡ settled_index kind w' r' n i) → settled_index kind w r n i ≡ settled_index kind w' r' n i
fixed_alike kind w r w' r' n (Fixed i) h = refl
fixed_alike kind w r w' r' n Open h = h refl

module _ (p : Program) (s s' : Schedule) where
  -- It is enough that each open read has the same index under both.
  pub open-alike : SettleAlike p s s' → Alike p s s'
  unfolding settled
  open-alike h x lt =
      all_map _ _ (λ ρ. fixed_alike ρ.kind _ _ _ _ ρ.operands.factor ρ.operands.index)
      (body_reads (signal_at p x).body) (h x lt)

  -- The equations mention no phases and no places once the indices are settled.
  pub alike-satisfy : Alike p s s' → (inputs X : ℕ → ℕ → ℤ) → Satisfies p (settled p s) inputs X →
      Satisfies p (settled p s') inputs X
  unfolding used
  alike-satisfy alike inputs X sat x zero lt = sat x zero lt
  alike-satisfy alike inputs X sat x (suc k) lt =
      sat x (suc k) lt ∙
      next-same p.rows (λ ρ. settled p s x ρ ≡ settled p s' x ρ) (λ ρ. X ρ.operands.signal (used p s x k ρ))
      (λ ρ. X ρ.operands.signal (used p s' x k ρ))
      (λ ρ e. rw e) (inputs x k) (signal_at p x).body (alike x lt)

  -- Two lists of calls, one under each schedule, whose input elements agree wherever both supply them: where both end holding
  -- one and the same element of x, it is the same word.
  pub alike-words : (h : ℕ) → Feasible p s → Feasible p s' → Multiple p h → Alike p s s' → (st st' : State) (cs cs' : List Call) →
      Agree p s s' (log_of p [] cs) (log_of p [] cs') → (x : ℕ) → x < count p →
      stored (rate_of p s x) (length (log_of p [] cs)) ≡ stored (rate_of p s' x) (length (log_of p [] cs')) →
      (state_after p s h (reset p st) cs).words x ≡ (state_after p s' h (reset p st') cs').words x
  alike-words h acc acc' whole alike st st' cs cs' agree x lt e =
      ((calls-follow p s h acc whole st cs).follows inputs X first sat).words x lt ∙
      ap (X x) e ∙
      sym (((calls-follow p s' h acc' whole st' cs').follows inputs X second (alike-satisfy alike inputs X sat)).words x lt)
    where
      log : List (List ℤ)
      log = log_of p [] cs

      log' : List (List ℤ)
      log' = log_of p [] cs'

      inputs : ℕ → ℕ → ℤ
      inputs x k = cond (ltb (run_cycle (rate_of p s x) k) (length log)) (sample p s log x k) (sample p s' log' x k)

      X : ℕ → ℕ → ℤ
      X = streams p s acc inputs

      sat : Satisfies p (settled p s) inputs X
      sat = streams-satisfy p s acc inputs

      first : Supplied p s log inputs
      first x k lx i g = rw (lt-ltb (run_cycle (rate_of p s x) k) (length log) g)

      second : Supplied p s' log' inputs
      second x k lx i g = go (ltb (run_cycle (rate_of p s x) k) (length log)) refl
        where
          go : (b : Bool) → ltb (run_cycle (rate_of p s x) k) (length log) ≡ b →
              cond b (sample p s log x k) (sample p s' log' x k) ≡ sample p s' log' x k
          go true f = agree x k lx i (ltb-true _ _ f) g
          go false f = refl
