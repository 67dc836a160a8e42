-- A list of reset and cycle calls on the step machine leaves every signal at its stream. Assumes nothing.
use Prim.Native.Nat.{ℕ, zero, suc, ◌-◌, ◌/◌, ◌%◌, ◌≤◌, ◌<◌}
use mathlib.Core.Bool.{Bool, true, false, cond}
use mathlib.Core.List.{List, [], ◌∷◌}
use mathlib.Core.Path.{◌≡◌, refl, sym, ap, ◌∙◌}
use native.Mathlib.Nat.{zero-mod, suc-mod, mod_self, mod-lt, mod-eq_of_lt, mod-mod_of_dvd}
use native.Mathlib.Omega.{arith}
use borrow.Author.Tests.{lt-ltb, le-ltb, ne_eqb, eqb-true, eqb-false, eq-eqb}
use lib.Dec.{eqb, ltb}
use lib.IntN.{ℤ, pos}
use lib.ListN.{length, get_or}
use Rattle.model.specs.Says.Feasible.{Feasible, Multiple}
use Rattle.model.specs.Says.Calls.{Call, reset, cycle}
use Rattle.theorems_streams.specs.Held.{lent_at, IsInput, Supplied}
use Rattle.model.specs.Rules.Program.{Program, count, signal_at}
use Rattle.model.specs.Rules.Reads.{rate_of, run_cycle, due, stored, settled}
use Rattle.model.specs.Rules.Schedule.{Schedule, phase_of}
use Rattle.theorems_streams.specs.Streams.{Satisfies}
use Rattle.model.proofs.Pairs.Rate.{stored-none, stored_some}
use Rattle.theorems_streams.proofs.Turns
use Rattle.theorems_streams.proofs.Turns.{State, turns-other, cycle-words}

-- The position after a cycle.
pub position-next : (c q h : ℕ) → zero < h → q ≡ c % h → cond (eqb (suc q) h) 0 (suc q) ≡ suc c % h
position-next c q h positive e = go (eqb (suc q) h) refl
  where
    go : (b : Bool) → eqb (suc q) h ≡ b → cond b 0 (suc q) ≡ suc c % h
    go true f = sym (suc-mod c h ∙ ap (λ x. suc x % h) (sym e) ∙ ap (◌% h) (eqb-true (suc q) h f) ∙ mod_self h)
    go false f =
        let l : suc q < h = omega (arith, eqb-false (suc q) h f, mod-lt c positive) in
        sym (suc-mod c h ∙ ap (λ x. suc x % h) (sym e) ∙ mod-eq_of_lt l)

-- The samples as a word for each signal.
abbrev pub sample_of : List ℤ → ℕ → ℤ
sample_of samples x = get_or samples x (pos 0)

-- The samples lent to the cycles that ran since the latest reset, the last first. A cycle with too few is refused.
abbrev pub log_of : Program → List (List ℤ) → List Call → List (List ℤ)
log_of p log [] = log
log_of p log (reset ∷ cs) = log_of p [] cs
log_of p log (cycle samples ∷ cs) = log_of p (cond (ltb (length samples) (count p)) log (samples ∷ log)) cs

module _ (p : Program) (s : Schedule) (h : ℕ) where
  -- The state after a list of calls. A refused cycle changes nothing.
  abbrev pub state_after : State → List Call → State
  state_after st [] = st
  state_after st (reset ∷ cs) = state_after (Turns.reset p st) cs
  state_after st (cycle samples ∷ cs) =
      state_after (cond (ltb (length samples) (count p)) st (Turns.cycle p s h (sample_of samples) st)) cs

  -- The state holds what the streams X give after c cycles.
  pub record Follows (X : ℕ → ℕ → ℤ) (c : ℕ) (st : State) : Type 0 where
    pub position : st.position ≡ c % h
    pub words : (x : ℕ) → x < count p → st.words x ≡ X x (stored (rate_of p s x) c)

  -- What a state is after the cycles of the log. `old` has the words beyond the signals.
  pub record Right (old : ℕ → ℤ) (log : List (List ℤ)) (st : State) : Type 0 where
    pub follows : (inputs X : ℕ → ℕ → ℤ) → Supplied p s log inputs → Satisfies p (settled p s) inputs X →
        Follows X (length log) st
    pub beyond : (v : ℕ) → count p ≤ v → st.words v ≡ old v

  module _ (acc : Feasible p s) (whole : Multiple p h) (old : ℕ → ℤ) where
    reset-right : (st : State) → ((v : ℕ) → count p ≤ v → st.words v ≡ old v) → Right old [] (Turns.reset p st)
    reset-right st g =
        record {
          follows = λ inputs X sup sat.
              record {
                position = sym (zero-mod h);
                words = λ x lx.
                    rw (lt-ltb x (count p) lx) (sym (sat x 0 lx) ∙
                    ap (X x) (sym (stored-none (rate_of p s x) 0 (acc.ordered.phases x lx) (omega arith))));
              };
          beyond = λ v lv. rw (le-ltb v (count p) lv) (g v lv);
        }

    cycle-follows : (log : List (List ℤ)) (samples : List ℤ) (st : State) → Right old log st → (inputs X : ℕ → ℕ → ℤ) →
        Supplied p s (samples ∷ log) inputs → Satisfies p (settled p s) inputs X →
        Follows X (suc (length log)) (Turns.cycle p s h (sample_of samples) st)
    unfolding due lent_at
    cycle-follows log samples st r inputs X sup sat =
        record {
          position = position-next (length log) st.position h whole.positive f.position;
          words = cycle-words p s acc inputs X sat (length log) st.position here (sample_of samples) given st.words
              f.words;
        }
      where
        earlier : Supplied p s log inputs
        earlier x k lx i lt =
            sup x k lx i (omega arith) ∙ rw (ne_eqb (run_cycle (rate_of p s x) k) (length log) (λ e. omega arith))

        f : Follows X (length log) st
        f = r.follows inputs X earlier sat

        here : (x : ℕ) → x < count p → due (rate_of p s x) st.position ≡ due (rate_of p s x) (length log)
        here x lx =
            ap (λ n. due (rate_of p s x) n) f.position ∙
            ap (λ n. eqb n (phase_of s x)) (mod-mod_of_dvd (signal_at p x).period (length log) (whole.divides x lx))

        given : (x k : ℕ) → x < count p → IsInput (signal_at p x).body → run_cycle (rate_of p s x) k ≡ length log →
            sample_of samples x ≡ inputs x k
        given x k lx i e = sym (sup x k lx i (omega arith) ∙ rw (eq-eqb (run_cycle (rate_of p s x) k) (length log) e))

    cycle-right : (b : Bool) (log : List (List ℤ)) (samples : List ℤ) (st : State) → Right old log st →
        Right old (cond b log (samples ∷ log)) (cond b st (Turns.cycle p s h (sample_of samples) st))
    cycle-right true log samples st r = r
    cycle-right false log samples st r =
        record {
          follows = cycle-follows log samples st r;
          beyond = λ v lv.
              turns-other p s (sample_of samples) st.position s.order st.words v
              (λ j l. omega (arith, acc.ordered.only j l)) ∙
              r.beyond v lv;
        }

    calls-right : (cs : List Call) (log : List (List ℤ)) (st : State) → Right old log st →
        Right old (log_of p log cs) (state_after st cs)
    calls-right [] log st r = r
    calls-right (reset ∷ cs) log st r = calls-right cs [] (Turns.reset p st) (reset-right st r.beyond)
    calls-right (cycle samples ∷ cs) log st r =
        calls-right cs (cond (ltb (length samples) (count p)) log (samples ∷ log))
        (cond (ltb (length samples) (count p)) st (Turns.cycle p s h (sample_of samples) st))
        (cycle-right (ltb (length samples) (count p)) log samples st r)

  -- After any list of calls the state is what the streams give after the cycles since the latest reset.
  pub calls-follow : Feasible p s → Multiple p h → (st : State) (cs : List Call) →
      Right st.words (log_of p [] cs) (state_after (Turns.reset p st) cs)
  calls-follow acc whole st cs =
      calls-right acc whole st.words cs [] (Turns.reset p st) (reset-right acc whole st.words st (λ v lv. refl))

  -- The same in the words of demand 3: after c cycles since the latest reset, with the streams X and the state `old` before
  -- the first reset.
  pub record After (X : ℕ → ℕ → ℤ) (old : State) (c : ℕ) (st : State) : Type 0 where
    pub position : st.position ≡ c % h
    pub initial : (x : ℕ) → x < count p → c ≤ phase_of s x → st.words x ≡ (signal_at p x).initial
    pub element : (x : ℕ) → x < count p → phase_of s x < c →
        st.words x ≡ X x (suc ((c - 1 - phase_of s x) / (signal_at p x).period))
    pub beyond : (v : ℕ) → count p ≤ v → st.words v ≡ old.words v

  pub machine-holds : Feasible p s → Multiple p h → (old : State) (cs : List Call) (inputs X : ℕ → ℕ → ℤ) →
      Supplied p s (log_of p [] cs) inputs → Satisfies p (settled p s) inputs X →
      After X old (length (log_of p [] cs)) (state_after (Turns.reset p old) cs)
  machine-holds acc whole old cs inputs X sup sat =
      let r = calls-follow acc whole old cs in
      let f = r.follows inputs X sup sat in
      record {
        position = f.position;
        initial = λ x lx le. f.words x lx ∙ ap (X x) (stored-none (rate_of p s x) _ (acc.ordered.phases x lx) le) ∙ sat x 0 lx;
        element = λ x lx lt. f.words x lx ∙ ap (X x) (stored_some (rate_of p s x) _ (acc.ordered.phases x lx) lt);
        beyond = r.beyond;
      }
