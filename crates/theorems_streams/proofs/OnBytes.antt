-- Any list of reset and cycle calls on the bytes of an accepted pair's image leaves every signal at its stream. Assumes nothing.
use Prim.Native.Nat.{ℕ, zero, suc, ◌+◌, ◌-◌, ◌*◌, ◌%◌, ◌<◌}
use mathlib.Core.Bool.{Bool, true, false, cond}
use mathlib.Core.List.{List, [], ◌∷◌, ◌++◌}
use mathlib.Core.Path.{◌≡◌, refl, sym, ap, subst, ◌∙◌, fun_ext}
use native.Mathlib.Nat.{zero-mod}
use native.Mathlib.Numerals.{add-one}
use native.Mathlib.Omega.{arith}
use borrow.Author.Tests.{ltb-true, ltb-false, lt-ltb, le-leb, lt-leb, eqb-true, eqb-false}
use lib.Dec.{leb, ltb, eqb}
use lib.IntN.{ℤ, pos}
use lib.ListN.{length, get_or, set, drop, length-append, length-drop, length-set, get_or-append}
use lib.Seq.{get_or-append-add, get_or-drop, get_or-set_same, get_or-set_other}
use Rattle.model.specs.Says.Feasible.{Feasible, Multiple}
use Rattle.model.specs.Says.Calls.{Call, reset, cycle, call_of, logged, after, log_after}
use Rattle.model.specs.Rules.Image.{run_list, image_of}
use Rattle.model.specs.Rules.Machine.{
  rows_in,
  code_of,
  run_code,
  run_signals,
  is_position,
  position_of,
  next_position,
  reset_words,
  cycle_words,
  cycle_count,
  Effect,
  effect,
  reset_of,
  cycle_of,
}
use Rattle.model.specs.Rules.Outcome.{accepted, refuse, ◌▷◌, provided}
use Rattle.model.specs.Rules.Program.{Program, count, signal_at}
use Rattle.model.specs.Rules.Reads.{rate_of, due, settled}
use Rattle.model.specs.Rules.Report.{counts_of}
use Rattle.model.specs.Rules.Schedule.{Schedule}
use Rattle.model.specs.Rules.Search.{chosen, table}
use Rattle.model.specs.Rules.Word.{word_at}
use Rattle.theorems_streams.specs.Held.{answers_of, state_by, log_by, answers_by, Answered, Supplied, Holds}
use Rattle.theorems_streams.specs.Streams.{next, Satisfies}
use Rattle.model.proofs.Images.Bounds.{Bounded}
use Rattle.model.proofs.Images.Counts.{counts-at}
use Rattle.model.proofs.Images.Formed.{image-well-formed}
use Rattle.model.proofs.Images.Stretches.{image-hyper, image-count, image-initial, list-stretch, code-stretch}
use Rattle.model.proofs.Basics.Outcomes.{table-length, table_at}
use Rattle.model.proofs.Images.Tails.{part-is, lent-ok, bears-itself}
use Rattle.model.proofs.Images.Cycles.{position-is, next-inside, run_length, cycle-length}
use Rattle.theorems_images.proofs.Counted.{cycle-count}
use Rattle.theorems_streams.proofs.Lists.{sample_of, log_of, state_after, position-next, After, machine-holds}
use Rattle.theorems_streams.proofs.Computes.{run-signal}
use Rattle.theorems_streams.proofs.Looked.{unary-alike}
use Rattle.theorems_streams.proofs.Turns
use Rattle.theorems_streams.proofs.Turns.{State, store, turns}

-- The words of the signals, and what a list of words shows: position and words.
abbrev pub words_of : List ℤ → ℕ → ℤ
words_of state x = get_or state (suc x) (pos 0)

abbrev pub view : List ℤ → State
view state = record { position = position_of (get_or state 0 (pos 0)); words = words_of state }

-- A state that no reset refuses, nor a cycle with samples enough: it is long enough, and word 0 is a position.
pub record Ready (p : Program) (h : ℕ) (state : List ℤ) : Type 0 where
  pub long : count p < length state
  pub position : is_position h (get_or state 0 (pos 0)) ≡ true

-- A word stored in the list is stored in what it shows.
set-store : (state : List ℤ) (x : ℕ) (w : ℤ) → suc x < length state → words_of (set state (x + 1) w) ≡ store (words_of state) x w
set-store state x w lt = fun_ext (λ v. go v (eqb v x) refl)
  where
    go : (v : ℕ) (b : Bool) → eqb v x ≡ b → words_of (set state (x + 1) w) v ≡ cond b w (words_of state v)
    go v true e = rw (add-one x, eqb-true v x e) (get_or-set_same state (suc x) w (pos 0) lt)
    go v false e = get_or-set_other state (x + 1) (suc v) w (pos 0) (λ q. eqb-false v x e (omega arith))

set-position : (state : List ℤ) (w : ℤ) → words_of (set state 0 w) ≡ words_of state
set-position state w = fun_ext (λ v. get_or-set_other state 0 (suc v) w (pos 0) (λ e. omega arith))

-- A cycle that is lent too few samples is refused by 23, and changes nothing.
abbrev pub cycled : ℕ → List ℤ → List ℤ → Bool → Effect ℕ ℤ
cycled n state left true = record { answer = refuse 23 0; left = state }
cycled n state left false = record { answer = accepted n; left = left }

-- A reset.
module _ (p : Program) (s : Schedule) (h : ℕ) where
  initials : List ℤ
  initials = table (count p) (λ x. word_at (image_of p s h) (4 + 6 * x))

  initials-length : length initials ≡ count p
  unfolding initials
  initials-length = table-length (count p) _

  reset-is : (state : List ℤ) → reset_words (image_of p s h) state ≡ pos 0 ∷ (initials ++ drop (suc (count p)) state)
  unfolding reset_words initials
  reset-is state = rw (image-count p s h, add-one)

  reset-length : (state : List ℤ) → count p < length state → length (reset_words (image_of p s h) state) ≡ length state
  reset-length state lt = rw reset-is (simp (length-append, length-drop, initials-length) (omega arith))

  module _ (bounded : Bounded p s h) (state : List ℤ) where
    initial-or-old : (x : ℕ) (b : Bool) → ltb x (count p) ≡ b →
        get_or (initials ++ drop (suc (count p)) state) x (pos 0) ≡ cond b (signal_at p x).initial (words_of state x)
    unfolding initials
    initial-or-old x true e =
        let lt = ltb-true x (count p) e in
        get_or-append initials (drop (suc (count p)) state) (pos 0) x (rw initials-length lt) ∙
        table_at (count p) _ x (pos 0) lt ∙
        image-initial p s h bounded x lt
    initial-or-old x false e =
        let le = ltb-false x (count p) e in
        ap (λ (k : ℕ). get_or (initials ++ drop (suc (count p)) state) k (pos 0)) (omega (arith, initials-length)) ∙
        get_or-append-add initials (drop (suc (count p)) state) (x - count p) (pos 0) ∙
        get_or-drop (suc (count p)) state (x - count p) (pos 0) ∙
        ap (λ (k : ℕ). get_or state k (pos 0)) (omega arith)

    reset-view : view (reset_words (image_of p s h) state) ≡ Turns.reset p (view state)
    reset-view =
        ap view (reset-is state) ∙
        λ i. record { position = 0; words = fun_ext (λ x. initial-or-old x (ltb x (count p)) refl) i }

-- What a state of n words and its log show of the abstract machine.
pub record Shown (p : Program) (h n : ℕ) (state : List ℤ) (st : State) (log log' : List (List ℤ)) : Type 0 where
  pub ready : Ready p h state
  pub size : length state ≡ n
  pub shows : view state ≡ st
  pub logs : log ≡ log'

module _ (p : Program) (s : Schedule) (h : ℕ) (acc : Feasible p s) (whole : Multiple p h) (bounded : Bounded p s h) where
  -- A run of the image's lists and codes.
  run-word : (samples state : List ℤ) (x : ℕ) → x < count p →
      run_code (rows_in (image_of p s h)) (code_of (image_of p s h) x) state samples ≡
      next p.rows (λ ρ. words_of state ρ.operands.signal) (sample_of samples x) (signal_at p x).body
  run-word samples state x lt =
      ap (λ (code : List ℕ). run_code (rows_in (image_of p s h)) code state samples) (code-stretch p s h bounded x lt) ∙
      run-signal p.rows (rows_in (image_of p s h)) (unary-alike p s h acc whole bounded) x (signal_at p x).body state samples
      (bounded.constants x lt)

  run-turns : (samples : List ℤ) (q : ℕ) (order : List ℕ) (state : List ℤ) →
      ((j : ℕ) → j < length order → get_or order j 0 < count p) →
      count p < length state →
      words_of (run_signals (image_of p s h) (chosen (λ x. due (rate_of p s x) q) order) samples state) ≡
      turns p s (sample_of samples) q order (words_of state)
  unfolding run_signals chosen
  run-turns samples q [] state known long = refl
  run-turns samples q (x ∷ xs) state known long =
      go (due (rate_of p s x) q) (λ st l. run-turns samples q xs st (λ j k. known (suc j) (omega arith)) (omega arith))
    where
      rest : List ℕ
      rest = chosen (λ x. due (rate_of p s x) q) xs

      new : ℤ
      new = next p.rows (λ ρ. words_of state ρ.operands.signal) (sample_of samples x) (signal_at p x).body

      go : (d : Bool) →
          ((st : List ℤ) → length st ≡ length state →
          words_of (run_signals (image_of p s h) rest samples st) ≡ turns p s (sample_of samples) q xs (words_of st)) →
          words_of (run_signals (image_of p s h) (cond d (x ∷ rest) rest) samples state) ≡
          turns p s (sample_of samples) q xs (cond d (store (words_of state) x new) (words_of state))
      go true ih =
          ap (λ (w : ℤ). words_of (run_signals (image_of p s h) rest samples (set state (x + 1) w)))
          (run-word samples state x (known 0 (omega arith))) ∙
          ih (set state (x + 1) new) (length-set state (x + 1) new) ∙
          ap (turns p s (sample_of samples) q xs) (set-store state x new (omega (arith, known 0 (omega arith))))
      go false ih = ih state refl

  -- A cycle.
  module _ (samples state : List ℤ) (ready : Ready p h state) where
    at : ℕ
    at = position_of (get_or state 0 (pos 0))

    at-below : at < h
    unfolding at
    at-below = (position-is h (get_or state 0 (pos 0)) ready.position).1

    moved : ℕ
    moved = cond (eqb (suc at) h) 0 (suc at)

    ran : List ℤ
    ran = run_signals (image_of p s h) (run_list p s at) samples state

    cycle-is : cycle_words (image_of p s h) state samples ≡ set ran 0 (pos moved)
    unfolding cycle_words next_position at moved ran
    cycle-is = rw (list-stretch p s h bounded at at-below, image-hyper p s h, add-one at)

    cycle-first : get_or (cycle_words (image_of p s h) state samples) 0 (pos 0) ≡ pos moved
    unfolding ran
    cycle-first =
        rw cycle-is
        (get_or-set_same ran 0 (pos moved) (pos 0)
        (omega (arith, run_length (image_of p s h) (run_list p s at) samples state, ready.long)))

    cycle-turns : words_of (cycle_words (image_of p s h) state samples) ≡ turns p s (sample_of samples) at s.order (words_of state)
    unfolding ran run_list
    cycle-turns =
        ap words_of cycle-is ∙ set-position ran (pos moved) ∙
        run-turns samples at s.order state acc.ordered.only ready.long

    cycle-view : view (cycle_words (image_of p s h) state samples) ≡ Turns.cycle p s h (sample_of samples) (view state)
    unfolding at moved
    cycle-view i = record { position = ap position_of cycle-first i; words = cycle-turns i }

    cycle-ready : Ready p h (cycle_words (image_of p s h) state samples)
    unfolding moved next_position
    cycle-ready =
        record {
          long = rw cycle-length ready.long;
          position = rw cycle-first (lt-ltb moved h (rw (add-one at) at (next-inside h at at-below)));
        }

    -- After c cycles its position is the remainder of c by the hypercycle, and after it that of c + 1.
    cycle-position : (c : ℕ) → position_of (get_or state 0 (pos 0)) ≡ c % h →
        position_of (get_or (cycle_words (image_of p s h) state samples) 0 (pos 0)) ≡ suc c % h
    unfolding at moved
    cycle-position c e = ap position_of cycle-first ∙ position-next c (position_of (get_or state 0 (pos 0))) h whole.positive e

    -- The number of its commands is the report's for its position.
    cycle-counts : cycle_count (image_of p s h) state ≡ get_or (counts_of p s h) (position_of (get_or state 0 (pos 0))) 0
    unfolding cycle_count at
    cycle-counts = cycle-count p s h bounded acc.ordered.only at at-below ∙ sym (counts-at p s h at at-below)

    -- It is accepted exactly if it is lent enough samples, and refused by 23 otherwise.
    pub cycle-call : cycle_of (image_of p s h) state samples ≡
        cycled (get_or (counts_of p s h) (position_of (get_or state 0 (pos 0))) 0) state (cycle_words (image_of p s h) state samples)
        (ltb (length samples) (count p))
    unfolding cycle_of ◌▷◌ provided
    cycle-call =
        rw (
          lent-ok (image-well-formed p s h acc whole bounded) (bears-itself (image_of p s h)),
          part-is (image-well-formed p s h acc whole bounded) (bears-itself (image_of p s h)),
          image-count p s h,
          image-hyper p s h,
          lt-ltb (count p) (length state) ready.long,
          ready.position,
          cycle-counts,
        ) (go (ltb (length samples) (count p)) refl)
      where
        go : (b : Bool) → ltb (length samples) (count p) ≡ b →
            effect state
            (provided (leb (count p) (length samples)) 23 0 ▷ λ _.
            accepted
            (record {
              yields = get_or (counts_of p s h) (position_of (get_or state 0 (pos 0))) 0;
              leaves = cycle_words (image_of p s h) state samples;
            })) ≡
            cycled (get_or (counts_of p s h) (position_of (get_or state 0 (pos 0))) 0) state (cycle_words (image_of p s h) state samples)
            b
        go true e = rw (lt-leb (count p) (length samples) (ltb-true (length samples) (count p) e))
        go false e = rw (le-leb (count p) (length samples) (ltb-false (length samples) (count p) e))

  -- A reset is accepted by a state that is long enough, and leaves it ready.
  pub reset-call : (state : List ℤ) → count p < length state →
      reset_of (image_of p s h) state ≡ record { answer = accepted 0; left = reset_words (image_of p s h) state }
  unfolding reset_of ◌▷◌ provided
  reset-call state long =
      rw (
        lent-ok (image-well-formed p s h acc whole bounded) (bears-itself (image_of p s h)),
        part-is (image-well-formed p s h acc whole bounded) (bears-itself (image_of p s h)),
        image-count p s h,
        lt-ltb (count p) (length state) long,
      )

  reset-ready : (state : List ℤ) → count p < length state → Ready p h (reset_words (image_of p s h) state)
  reset-ready state long =
      record {
        long = rw (reset-length p s h state long) long;
        position = rw (reset-is p s h state) (lt-ltb 0 h whole.positive);
      }

  reset-shown : {n : ℕ} {state : List ℤ} {st : State} {log log' : List (List ℤ)} → Shown p h n state st log log' →
      Shown p h n (reset_of (image_of p s h) state).left (Turns.reset p st)
      (logged reset (reset_of (image_of p s h) state).answer log) []
  reset-shown {state} x =
      let long = x.ready.long in
      rw (reset-call state long)
      (record {
        ready = reset-ready state long;
        size = reset-length p s h state long ∙ x.size;
        shows = reset-view p s h bounded state ∙ ap (Turns.reset p) x.shows;
        logs = refl;
      })

  cycle-shown : {n : ℕ} {state : List ℤ} {st : State} {log log' : List (List ℤ)} (samples : List ℤ) →
      Shown p h n state st log log' →
      Shown p h n (cycle_of (image_of p s h) state samples).left
      (cond (ltb (length samples) (count p)) st (Turns.cycle p s h (sample_of samples) st))
      (logged (cycle samples) (cycle_of (image_of p s h) state samples).answer log)
      (cond (ltb (length samples) (count p)) log' (samples ∷ log'))
  cycle-shown {n} {state} {st} {log} {log'} samples x =
      rw (cycle-call samples state x.ready) (go (ltb (length samples) (count p)))
    where
      left : List ℤ
      left = cycle_words (image_of p s h) state samples

      counted : ℕ
      counted = get_or (counts_of p s h) (position_of (get_or state 0 (pos 0))) 0

      go : (b : Bool) → Shown p h n (cycled counted state left b).left (cond b st (Turns.cycle p s h (sample_of samples) st))
          (logged (cycle samples) (cycled counted state left b).answer log) (cond b log' (samples ∷ log'))
      go true = x
      go false =
          record {
            ready = cycle-ready samples state x.ready;
            size = cycle-length (image_of p s h) state samples ∙ x.size;
            shows = cycle-view samples state x.ready ∙ ap (Turns.cycle p s h (sample_of samples)) x.shows;
            logs = ap (samples ∷◌) x.logs;
          }

  calls-shown : {n : ℕ} {state : List ℤ} {st : State} {log log' : List (List ℤ)} (cs : List Call) →
      Shown p h n state st log log' →
      Shown p h n (after (image_of p s h) state cs) (state_after p s h st cs) (log_after (image_of p s h) state log cs)
      (log_of p log' cs)
  unfolding after log_after call_of
  calls-shown [] x = x
  calls-shown {state = state} (reset ∷ cs) x = calls-shown {state = (reset_of (image_of p s h) state).left} cs (reset-shown x)
  calls-shown {state = state} (cycle samples ∷ cs) x =
      calls-shown {state = (cycle_of (image_of p s h) state samples).left} cs (cycle-shown samples x)

  -- In a state that is ready, after the cycles of the log, no call of a list is refused but a cycle with too few samples.
  calls-answered : (cs : List Call) (state : List ℤ) (log : List (List ℤ)) → Ready p h state →
      position_of (get_or state 0 (pos 0)) ≡ length log % h →
      Answered p h (counts_of p s h) (length log) cs (answers_of (image_of p s h) state cs)
      (length (log_after (image_of p s h) state log cs))
  unfolding answers_of log_after call_of
  calls-answered [] state log ready e = Answered.none
  calls-answered (reset ∷ cs) state log ready e =
      rw (reset-call state ready.long)
      (Answered.resets
      (calls-answered cs (reset_words (image_of p s h) state) [] (reset-ready state ready.long)
      (ap (λ (st : List ℤ). position_of (get_or st 0 (pos 0))) (reset-is p s h state) ∙ sym (zero-mod h))))
  calls-answered (cycle samples ∷ cs) state log ready e =
      rw (cycle-call samples state ready, e)
      (go (ltb (length samples) (count p)) refl (calls-answered cs state log ready e)
      (calls-answered cs (cycle_words (image_of p s h) state samples) (samples ∷ log) (cycle-ready samples state ready)
      (cycle-position samples state ready (length log) e)))
    where
      image : List ℕ
      image = image_of p s h

      left : List ℤ
      left = cycle_words image state samples

      counts : List ℕ
      counts = counts_of p s h

      counted : ℕ
      counted = get_or counts (length log % h) 0

      go : (b : Bool) → ltb (length samples) (count p) ≡ b →
          Answered p h counts (length log) cs (answers_of image state cs) (length (log_after image state log cs)) →
          Answered p h counts (suc (length log)) cs (answers_of image left cs) (length (log_after image left (samples ∷ log) cs)) →
          Answered p h counts (length log) (cycle samples ∷ cs)
          ((cycled counted state left b).answer ∷ answers_of image (cycled counted state left b).left cs)
          (length
          (log_after image (cycled counted state left b).left (logged (cycle samples) (cycled counted state left b).answer log)
          cs))
      go true t same next = Answered.few (ltb-true (length samples) (count p) t) same
      go false t same next = Answered.runs (ltb-false (length samples) (count p) t) next

  module _ (old : List ℤ) (long : count p < length old) where
    first-shown : Shown p h (length old) (reset_of (image_of p s h) old).left (Turns.reset p (view old)) [] []
    first-shown =
        rw (reset-call old long)
        (record {
          ready = reset-ready old long;
          size = reset-length p s h old long;
          shows = reset-view p s h bounded old;
          logs = refl;
        })

    -- After a reset, any list of calls shows that list of calls on the abstract machine.
    pub list-shown : (cs : List Call) →
        Shown p h (length old) (state_by (image_of p s h) old cs) (state_after p s h (Turns.reset p (view old)) cs)
        (log_by (image_of p s h) old cs) (log_of p [] cs)
    list-shown cs = calls-shown cs first-shown

    -- Which calls of a list are refused and how, and what the others answer.
    pub list-answered : (cs : List Call) →
        Answered p h (counts_of p s h) 0 cs (answers_by (image_of p s h) old cs) (length (log_by (image_of p s h) old cs))
    list-answered cs =
        calls-answered cs (reset_of (image_of p s h) old).left [] first-shown.ready
        (ap (λ (v : State). v.position) first-shown.shows ∙ sym (zero-mod h))

    -- What the state is after the list.
    machine-words : (cs : List Call) (X : ℕ → ℕ → ℤ) →
        After p s h X (view old) (length (log_of p [] cs)) (view (state_by (image_of p s h) old cs)) →
        Holds p s h X old (length (log_of p [] cs)) (state_by (image_of p s h) old cs)
    machine-words cs X a =
        let shown = list-shown cs in
        record {
          size = shown.size;
          position = (position-is h (get_or (state_by (image_of p s h) old cs) 0 (pos 0)) shown.ready.position).0 ∙
              ap pos a.position;
          initial = a.initial;
          element = a.element;
          beyond = beyond;
        }
      where
        beyond : (v : ℕ) → count p < v → get_or (state_by (image_of p s h) old cs) v (pos 0) ≡ get_or old v (pos 0)
        beyond zero lt = absurd (omega arith)
        beyond (suc v) lt = a.beyond v (omega arith)

    pub calls-hold : (cs : List Call) (inputs X : ℕ → ℕ → ℤ) → Supplied p s (log_by (image_of p s h) old cs) inputs →
        Satisfies p (settled p s) inputs X →
        Holds p s h X old (length (log_by (image_of p s h) old cs)) (state_by (image_of p s h) old cs)
    calls-hold cs inputs X sup sat =
        let shown = list-shown cs in
        rw shown.logs
        (machine-words cs X
        (rw shown.shows
        (machine-holds p s h acc whole (view old) cs inputs X
        (subst (λ l. Supplied p s l inputs) shown.logs sup) sat)))
