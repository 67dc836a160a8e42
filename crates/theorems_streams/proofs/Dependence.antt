-- An input reaches only its readers: of two runs that differ only in its elements, every other signal that does not depend on it
-- holds the same word. Assumes nothing.
use Prim.Native.Nat.{ℕ, zero, suc, ◌-◌, ◌/◌, ◌%◌, ◌<◌}
use mathlib.Core.Bool.{Bool, true, false, cond}
use mathlib.Core.List.{List, [], ◌∷◌}
use mathlib.Core.Logic.{◌↔◌}
use mathlib.Core.Path.{◌≡◌, refl, sym, ap, subst, subst₂, ◌∙◌}
use native.Mathlib.Decide.{dec_lt}
use native.Mathlib.Omega.{arith}
use borrow.Author.Tests.{lt-ltb, le-ltb, ltb-true}
use lib.Dec.{ltb, eqb}
use lib.IntN.{ℤ, pos}
use lib.ListN.{length, get_or, take}
use Rattle.model.specs.Says.Feasible.{Met, Feasible, Multiple}
use Rattle.model.specs.Says.Calls.{Call}
use Rattle.model.specs.Rules.Image.{image_of}
use Rattle.model.specs.Rules.Latency.{used}
use Rattle.model.specs.Rules.Machine.{reset_of}
use Rattle.model.specs.Rules.Outcome.{Outcome, accepted, refuse}
use Rattle.model.specs.Rules.Program.{
  Program,
  Body,
  input,
  equation,
  Read,
  body_reads,
  count,
  signal_at,
}
use Rattle.model.specs.Rules.Reads.{rate_of, run_cycle, settled}
use Rattle.model.specs.Rules.Schedule.{Schedule, phase_of}
use Rattle.model.specs.Rules.Tail.{Bears}
use Rattle.theorems_pairs.specs.Conditions.{◌among◌}
use Rattle.theorems_streams.specs.Dependence.{
  OccursIn,
  Reads,
  DependsOn,
  AlikeCalls,
  AgreeExcept,
  LentExcept,
  SameExceptBy,
}
use Rattle.theorems_streams.specs.Held.{state_by, log_by, answers_by, Answered, lent_at, IsInput, Supplied, Holds}
use Rattle.theorems_streams.specs.Lists.{sample}
use Rattle.theorems_streams.specs.Streams.{Satisfies}
use Rattle.model.proofs.Basics.All.{all_both}
use Rattle.model.proofs.Images.Bounds.{Bounded}
use Rattle.theorems_pairs.proofs.Faults.{among-all, none-among}
use Rattle.theorems_pairs.proofs.Subexpressions.{among-part, part-among}
use Rattle.theorems_streams.proofs.Lists.{log_of}
use Rattle.theorems_streams.proofs.Lending as Lending
use Rattle.theorems_streams.proofs.OnBytes.{list-shown}
use Rattle.theorems_streams.proofs.Unique.{number, used-lower, streams, streams-satisfy}
use Rattle.theorems_streams.proofs.Values.{next-same, next-given}

-- The equation of a signal reads w exactly if w is the signal of one of its reads.
pub reads-exactly : (b : Body) (w : ℕ) → OccursIn w b ↔ ((ρ : Read) × (ρ among body_reads b) × (ρ.operands.signal ≡ w))
reads-exactly input w = (λ o. absurd o, λ h. none-among [] h.0 refl h.1)
reads-exactly (equation weight e) w =
    (λ o. (o.0, part-among e o.0 o.2, o.1), λ h. (h.0, h.2, among-part e h.0 h.1))

-- Signals that read only one another and whose inputs have the same elements have the same streams.
module _ (p : Program) (s : Schedule) (acc : Feasible p s) (In : ℕ → Type 0)
    (closed : (y w : ℕ) → In y → Reads p y w → In w) (inputs inputs' X X' : ℕ → ℕ → ℤ)
    (given : (x k : ℕ) → x < count p → In x → IsInput (signal_at p x).body → inputs x k ≡ inputs' x k)
    (sat : Satisfies p (settled p s) inputs X) (sat' : Satisfies p (settled p s) inputs' X') where
  within-below : (n y j : ℕ) → y < count p → In y → number p s y j < n → X y j ≡ X' y j
  unfolding used
  within-below zero y j lt h less = absurd (omega arith)
  within-below (suc n) y zero lt h less = sat y zero lt ∙ sym (sat' y zero lt)
  within-below (suc n) y (suc k) lt h less =
      let b = (signal_at p y).body in
      sat y (suc k) lt ∙
      next-given p.rows (λ ρ. X ρ.operands.signal (used p s y k ρ)) (inputs y k) (inputs' y k) b (given y k lt h) ∙
      next-same p.rows (λ ρ. Met p s y ρ × In ρ.operands.signal) (λ ρ. X ρ.operands.signal (used p s y k ρ))
      (λ ρ. X' ρ.operands.signal (used p s y k ρ))
      (λ ρ q.
      let l = used-lower p s acc y ρ k lt q.0 in
      within-below n ρ.operands.signal (used p s y k ρ) q.0.declared q.1 (omega arith))
      (inputs' y k) b
      (all_both (Met p s y) (λ ρ. In ρ.operands.signal) (body_reads b) (acc.met y lt)
      (among-all (λ ρ. In ρ.operands.signal) (body_reads b)
      (λ ρ m. closed y ρ.operands.signal h ((reads-exactly b ρ.operands.signal).1 (ρ, m, refl))))) ∙
      sym (sat' y (suc k) lt)

  pub streams-within : (y j : ℕ) → y < count p → In y → X y j ≡ X' y j
  streams-within y j lt h = within-below (suc (number p s y j)) y j lt h (omega arith)

-- The signals other than i that do not depend on i read only one another.
abbrev Apart : Program → ℕ → ℕ → Type 0
Apart p i y = (¬ (y ≡ i)) × (¬ DependsOn p y i)

apart-closed : (p : Program) (i y w : ℕ) → Apart p i y → Reads p y w → Apart p i w
apart-closed p i y w h r =
    ((λ e. h.1 (DependsOn.directly (subst (Reads p y) e r))), (λ d. h.1 (DependsOn.through r d)))

-- If the elements of all inputs but i are the same, so are those of every other signal that does not depend on i.
pub streams-apart : (p : Program) (s : Schedule) → Feasible p s → (i : ℕ) (inputs inputs' X X' : ℕ → ℕ → ℤ) →
    ((x k : ℕ) → x < count p → IsInput (signal_at p x).body → ¬ (x ≡ i) → inputs x k ≡ inputs' x k) →
    Satisfies p (settled p s) inputs X → Satisfies p (settled p s) inputs' X' →
    (y j : ℕ) → y < count p → ¬ (y ≡ i) → ¬ DependsOn p y i → X y j ≡ X' y j
streams-apart p s acc i inputs inputs' X X' given sat sat' y j lt other free =
    streams-within p s acc (Apart p i) (apart-closed p i) inputs inputs' X X' (λ x k lx u b. given x k lx b u.0) sat sat' y j
    lt (other, free)

-- Alike lists answer alike, and as many cycles ran since the latest reset.
answers-alike : {p : Program} {h : ℕ} {counts : List ℕ} {c n n' : ℕ} {cs cs' : List Call} {answers answers' : List (Outcome ℕ)} →
    AlikeCalls p cs cs' → Answered p h counts c cs answers n → Answered p h counts c cs' answers' n' →
    (answers ≡ answers') × (n ≡ n')
answers-alike AlikeCalls.none Answered.none Answered.none = (refl, refl)
answers-alike (AlikeCalls.resets a) (Answered.resets t) (Answered.resets t') =
    let q = answers-alike {c = 0} a t t' in (ap (λ (os : List (Outcome ℕ)). accepted 0 ∷ os) q.0, q.1)
answers-alike {c = c} (AlikeCalls.few l l' a) (Answered.few m t) (Answered.few m' t') =
    let q = answers-alike {c = c} a t t' in (ap (λ (os : List (Outcome ℕ)). refuse 23 0 ∷ os) q.0, q.1)
answers-alike (AlikeCalls.few l l' a) (Answered.few m t) (Answered.runs m' t') = absurd (omega arith)
answers-alike (AlikeCalls.few l l' a) (Answered.runs m t) t' = absurd (omega arith)
answers-alike (AlikeCalls.runs l l' a) (Answered.few m t) t' = absurd (omega arith)
answers-alike (AlikeCalls.runs l l' a) (Answered.runs m t) (Answered.few m' t') = absurd (omega arith)
answers-alike {h = h} {counts} {c} (AlikeCalls.runs l l' a) (Answered.runs m t) (Answered.runs m' t') =
    let q = answers-alike {c = suc c} a t t' in (ap (λ (os : List (Outcome ℕ)). accepted (get_or counts (c % h) 0) ∷ os) q.0, q.1)

-- A list may end after any of its calls.
alike-take : {p : Program} {cs cs' : List Call} (n : ℕ) → AlikeCalls p cs cs' → AlikeCalls p (take n cs) (take n cs')
alike-take zero a = AlikeCalls.none
alike-take (suc n) AlikeCalls.none = AlikeCalls.none
alike-take (suc n) (AlikeCalls.resets a) = AlikeCalls.resets (alike-take n a)
alike-take (suc n) (AlikeCalls.few l l' a) = AlikeCalls.few l l' (alike-take n a)
alike-take (suc n) (AlikeCalls.runs l l' a) = AlikeCalls.runs l l' (alike-take n a)

lent-take : {i : ℕ} {cs cs' : List Call} (n : ℕ) → LentExcept i cs cs' → LentExcept i (take n cs) (take n cs')
lent-take zero l = LentExcept.none
lent-take (suc n) LentExcept.none = LentExcept.none
lent-take (suc n) (LentExcept.resets l) = LentExcept.resets (lent-take n l)
lent-take (suc n) (LentExcept.cycles e l) = LentExcept.cycles e (lent-take n l)

-- What a log supplies, and 0 where it supplies nothing.
module _ (p : Program) (s : Schedule) where
  elements : List (List ℤ) → ℕ → ℕ → ℤ
  elements log x k = cond (ltb (run_cycle (rate_of p s x) k) (length log)) (sample p s log x k) (pos 0)

  elements-supplied : (log : List (List ℤ)) → Supplied p s log (elements log)
  unfolding elements
  elements-supplied log x k lx b lt = rw (lt-ltb (run_cycle (rate_of p s x) k) (length log) lt)

  elements-agree : (i : ℕ) (log log' : List (List ℤ)) → length log ≡ length log' → AgreeExcept p s i log log' → (x k : ℕ) →
      x < count p → IsInput (signal_at p x).body → ¬ (x ≡ i) → elements log x k ≡ elements log' x k
  unfolding elements
  elements-agree i log log' same agree x k lx b other =
      ap (λ (n : ℕ). cond (ltb at n) (sample p s log x k) (pos 0)) same ∙ go (ltb at (length log')) refl
    where
      at : ℕ
      at = run_cycle (rate_of p s x) k

      go : (t : Bool) → ltb (run_cycle (rate_of p s x) k) (length log') ≡ t →
          cond t (sample p s log x k) (pos 0) ≡ cond t (sample p s log' x k) (pos 0)
      go true e = let lt = ltb-true (run_cycle (rate_of p s x) k) (length log') e in agree x k lx b other (omega arith) lt
      go false e = refl

-- Two states that each hold their streams after as many cycles, where these are the same of signal y.
held_same : {p : Program} {s : Schedule} {h c c' : ℕ} {X X' : ℕ → ℕ → ℤ} {old old' state state' : List ℤ} →
    Holds p s h X old c state → Holds p s h X' old' c' state' → c ≡ c' → (y : ℕ) → y < count p →
    ((j : ℕ) → X y j ≡ X' y j) → get_or state (suc y) (pos 0) ≡ get_or state' (suc y) (pos 0)
held_same {p} {s} {c = c} {c'} {X' = X'} {state = state} {state'} hold hold' e y lt same = go (dec_lt (phase_of s y) c)
  where
    go : Dec (phase_of s y < c) → get_or state (suc y) (pos 0) ≡ get_or state' (suc y) (pos 0)
    go (yes l) =
        hold.element y lt l ∙ same _ ∙ ap (λ (n : ℕ). X' y (suc ((n - 1 - phase_of s y) / (signal_at p y).period))) e ∙
        sym (hold'.element y lt (omega arith))
    go (no l) = hold.initial y lt (omega arith) ∙ sym (hold'.initial y lt (omega arith))

-- Two logs of as many cycles, lent the same samples but for word i.
record LogsExcept (i : ℕ) (log log' : List (List ℤ)) : Type 0 where
  pub size : length log ≡ length log'
  pub samples : (t x : ℕ) → ¬ (x ≡ i) → get_or (lent_at log t) x (pos 0) ≡ get_or (lent_at log' t) x (pos 0)

logs-none : {i : ℕ} → LogsExcept i [] []
unfolding lent_at
logs-none = record { size = refl; samples = λ t x other. refl }

logs-more : {i : ℕ} {log log' : List (List ℤ)} {samples samples' : List ℤ} →
    ((x : ℕ) → ¬ (x ≡ i) → get_or samples x (pos 0) ≡ get_or samples' x (pos 0)) → LogsExcept i log log' →
    LogsExcept i (samples ∷ log) (samples' ∷ log')
unfolding lent_at
logs-more {i} {log} {log'} {samples} {samples'} same a =
    record { size = ap suc a.size; samples = λ t x other. rw a.size (go t x other (eqb t (length log'))) }
  where
    go : (t x : ℕ) → ¬ (x ≡ i) → (b : Bool) →
        get_or (cond b samples (lent_at log t)) x (pos 0) ≡ get_or (cond b samples' (lent_at log' t)) x (pos 0)
    go t x other true = same x other
    go t x other false = a.samples t x other

logs-after : {p : Program} {i : ℕ} {cs cs' : List Call} (log log' : List (List ℤ)) → AlikeCalls p cs cs' → LentExcept i cs cs' →
    LogsExcept i log log' → LogsExcept i (log_of p log cs) (log_of p log' cs')
logs-after log log' AlikeCalls.none LentExcept.none g = g
logs-after log log' (AlikeCalls.resets a) (LentExcept.resets l) g = logs-after [] [] a l logs-none
logs-after {p} log log' (AlikeCalls.few {samples = samples} {samples'} m m' a) (LentExcept.cycles e l) g =
    rw (lt-ltb (length samples) (count p) m, lt-ltb (length samples') (count p) m') (logs-after log log' a l g)
logs-after {p} log log' (AlikeCalls.runs {samples = samples} {samples'} m m' a) (LentExcept.cycles e l) g =
    rw (le-ltb (length samples) (count p) m, le-ltb (length samples') (count p) m')
    (logs-after (samples ∷ log) (samples' ∷ log') a l (logs-more e g))

-- A program, schedule and hypercycle whose image is lent with a tail or without, to each of two runs; each starts with a reset
-- that is not refused.
module _ (p : Program) (s : Schedule) (h : ℕ) (acc : Feasible p s) (whole : Multiple p h) (bounded : Bounded p s h)
    {tail tail' lent lent' : List ℕ} (bears : Bears (image_of p s h) tail lent) (bears' : Bears (image_of p s h) tail' lent')
    (old old' : List ℤ) (r : (reset_of lent old).answer ≡ accepted 0) (r' : (reset_of lent' old').answer ≡ accepted 0) (i : ℕ) where
  long : count p < length old
  long = Lending.lent-long p s h acc whole bounded bears old r

  long' : count p < length old'
  long' = Lending.lent-long p s h acc whole bounded bears' old' r'

  pub runs-apart : (cs cs' : List Call) → AlikeCalls p cs cs' → SameExceptBy p s i lent lent' old old' cs cs'
  runs-apart cs cs' alike =
      record {
        answered = same.0;
        cycles = same.1;
        position = hold.position ∙ ap (λ (n : ℕ). pos (n % h)) same.1 ∙ sym hold'.position;
        words = λ agree y lt other free.
            held_same hold hold' same.1 y lt
            (λ j. streams-apart p s acc i (elements p s log) (elements p s log') _ _
            (elements-agree p s i log log' same.1 agree) (streams-satisfy p s acc (elements p s log))
            (streams-satisfy p s acc (elements p s log')) y j lt other free);
      }
    where
      log : List (List ℤ)
      log = log_by lent old cs

      log' : List (List ℤ)
      log' = log_by lent' old' cs'

      same : (answers_by lent old cs ≡ answers_by lent' old' cs') × (length log ≡ length log')
      same =
          answers-alike alike (Lending.list-answered p s h acc whole bounded bears old long cs)
          (Lending.list-answered p s h acc whole bounded bears' old' long' cs')

      hold : Holds p s h (streams p s acc (elements p s log)) old (length log) (state_by lent old cs)
      hold =
          Lending.list-holds p s h acc whole bounded bears old long cs (elements p s log) _ (elements-supplied p s log)
          (streams-satisfy p s acc (elements p s log))

      hold' : Holds p s h (streams p s acc (elements p s log')) old' (length log') (state_by lent' old' cs')
      hold' =
          Lending.list-holds p s h acc whole bounded bears' old' long' cs' (elements p s log') _ (elements-supplied p s log')
          (streams-satisfy p s acc (elements p s log'))

  -- After each call of two lists that are alike.
  pub only-readers : (cs cs' : List Call) → AlikeCalls p cs cs' → (n : ℕ) →
      SameExceptBy p s i lent lent' old old' (take n cs) (take n cs')
  only-readers cs cs' alike n = runs-apart (take n cs) (take n cs') (alike-take n alike)

  -- It is enough that the samples lent are the same but for word i.
  pub lent-agree : (cs cs' : List Call) → AlikeCalls p cs cs' → LentExcept i cs cs' →
      AgreeExcept p s i (log_by lent old cs) (log_by lent' old' cs')
  lent-agree cs cs' alike l =
      subst₂ (AgreeExcept p s i)
      (sym (Lending.log-alike p s h acc whole bounded bears old cs ∙ (list-shown p s h acc whole bounded old long cs).logs))
      (sym (Lending.log-alike p s h acc whole bounded bears' old' cs' ∙ (list-shown p s h acc whole bounded old' long' cs').logs))
      (λ x k lx b other f g. (logs-after [] [] alike l logs-none).samples (run_cycle (rate_of p s x) k) x other)

  pub lent-agree-each : (cs cs' : List Call) → AlikeCalls p cs cs' → LentExcept i cs cs' → (n : ℕ) →
      AgreeExcept p s i (log_by lent old (take n cs)) (log_by lent' old' (take n cs'))
  lent-agree-each cs cs' alike l n = lent-agree (take n cs) (take n cs') (alike-take n alike) (lent-take n l)
