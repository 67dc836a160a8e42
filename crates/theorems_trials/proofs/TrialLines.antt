-- The lines of a bench trial: their number, and their words, which are those that the streams give. Assumes nothing.
use Prim.Native.Nat.{ℕ, zero, suc, ◌+◌, ◌-◌, ◌/◌, ◌≤◌, ◌<◌}
use mathlib.Core.Bool.{Bool, true, false, cond}
use mathlib.Core.List.{List, [], ◌∷◌, ◌++◌}
use mathlib.Core.Path.{◌≡◌, refl, sym, ap, subst, ◌∙◌}
use native.Mathlib.Decide.{dec_lt}
use native.Mathlib.Omega.{arith}
use borrow.Author.Tests.{ltb-true, ltb-false, leb-true, leb-false, lt-ltb, le-ltb, eqb-true, eqb-false}
use lib.Dec.{leb, ltb, eqb}
use lib.IntN.{ℤ, pos}
use lib.ListN.{
  length,
  get_or,
  take,
  drop,
  set,
  replicate,
  length-take,
  length-drop,
  length-set,
  length-replicate,
  get_or-replicate,
}
use lib.Seq.{get_or-take, get_or-drop, get_or-set_same, get_or-set_other, ext_get_or}
use Rattle.model.specs.Says.Feasible.{Feasible, Multiple}
use Rattle.model.specs.Says.Calls.{Call, reset, cycle, call_of, after}
use Rattle.model.specs.Rules.Compile.{pair_of}
use Rattle.model.specs.Rules.Decimal.{natural, spaced, line_of}
use Rattle.model.specs.Rules.Image.{image_of}
use Rattle.model.specs.Rules.Outcome.{accepted}
use Rattle.model.specs.Rules.Program.{Program, count, signal_at}
use Rattle.model.specs.Rules.Reads.{rate_of, run_cycle, settled}
use Rattle.model.specs.Rules.Schedule.{Schedule, phase_of}
use Rattle.model.specs.Rules.Script.{Action, alter, run, script_of, calls_from, no_samples, calls_of, cycles_of}
use Rattle.model.specs.Rules.Trial.{signals_of, lines_from, start_of}
use Rattle.model.specs.Rules.Word.{AreBytes}
use Rattle.theorems_pairs.specs.Conditions.{◌among◌}
use Rattle.theorems_streams.specs.Held.{state_by, log_by, lent_at, IsInput, Supplied, Holds}
use Rattle.theorems_streams.specs.Streams.{Satisfies}
use Rattle.theorems_trials.specs.Trials.{held_at, words_after, Makes, MadeAfter, LastSet, SetInputs, SaysWords, SaysLine}
use Rattle.model.proofs.Images.Bounds.{Bounded}
use Rattle.model.proofs.Bench.Scripts.{calls_count, lines-count}
use Rattle.model.proofs.Images.Stretches.{image-count}
use Rattle.model.proofs.Basics.Outcomes.{table-length, table_at}
use Rattle.model.proofs.Pairs.Verdict.{pair-accepted, pair-multiple, pair-bounded}
use Rattle.theorems_streams.proofs.OnBytes.{list-shown, calls-hold}
use Rattle.theorems_pairs.proofs.Exact.{accepted-exactly}
use Rattle.theorems_streams.proofs.Lists.{log_of}
use Rattle.theorems_trials.proofs.Decimals.{natural-says, decimal-says}
use Rattle.theorems_trials.proofs.Trials.{Tried}

lines-from : (image : List ℕ) (k : ℕ) (state : List ℤ) (cs : List Call) (j : ℕ) → j < length cs →
    get_or (lines_from image k state cs) j [] ≡ line_of (k + j) (signals_of image (after image state (take (suc j) cs)))
unfolding lines_from after
lines-from image k state [] j h = absurd (omega arith)
lines-from image k state (c ∷ cs) zero h =
    let e : k ≡ k + 0 = omega arith in ap (λ (n : ℕ). line_of n (signals_of image (call_of image state c).left)) e
lines-from image k state (c ∷ cs) (suc j) h =
    let e : suc k + j ≡ k + suc j = omega arith in
    lines-from image (suc k) (call_of image state c).left cs j (omega arith) ∙
    ap (λ (n : ℕ). line_of n (signals_of image (after image (call_of image state c).left (take (suc j) cs)))) e

-- The samples of call t of a list, and the input elements that the calls supply.
unfoldable pub samples_at : List Call → ℕ → List ℤ
samples_at [] t = []
samples_at (reset ∷ cs) zero = []
samples_at (cycle samples ∷ cs) zero = samples
samples_at (c ∷ cs) (suc t) = samples_at cs t

abbrev pub inputs_of : Program → Schedule → List Call → ℕ → ℕ → ℤ
inputs_of p s cs x k = get_or (samples_at cs (run_cycle (rate_of p s x) k)) x (pos 0)

pub line_at : (image : List ℕ) (state : List ℤ) (cs : List Call) (j : ℕ) → j < length cs →
    get_or (lines_from image 0 state cs) j [] ≡ line_of j (signals_of image (after image state (take (suc j) cs)))
line_at image state cs j h =
    let e : 0 + j ≡ j = omega arith in
    lines-from image 0 state cs j h ∙ ap (λ (n : ℕ). line_of n (signals_of image (after image state (take (suc j) cs)))) e

abbrev pub Full : ℕ → List Call → Type 0
Full n [] = Unit {0}
Full n (reset ∷ cs) = ⊥
Full n (cycle samples ∷ cs) = (n ≤ length samples) × Full n cs

full-replicate : (n k : ℕ) (samples : List ℤ) (cs : List Call) → n ≤ length samples → Full n cs →
    Full n (replicate k (cycle samples) ++ cs)
full-replicate n zero samples cs h f = f
full-replicate n (suc k) samples cs h f = (h, full-replicate n k samples cs h f)

full-take : (n k : ℕ) (cs : List Call) → Full n cs → Full n (take k cs)
full-take n zero cs f = tt
full-take n (suc k) [] f = tt
full-take n (suc k) (reset ∷ cs) f = absurd f
full-take n (suc k) (cycle samples ∷ cs) (h, f) = (h, full-take n k cs f)

pub full-calls : (n : ℕ) (samples : List ℤ) (actions : List Action) → n ≤ length samples → Full n (calls_from samples actions)
unfolding calls_from
full-calls n samples [] h = tt
full-calls n samples (alter at x w ∷ actions) h = full-calls n (set samples x w) actions (omega (arith, length-set samples x w))
full-calls n samples (run k ∷ actions) h =
    full-replicate n k samples (calls_from samples actions) h (full-calls n samples actions h)

-- The log of such a list: its length, and the samples of each call.
module _ (p : Program) where
  log-length : (log : List (List ℤ)) (cs : List Call) → Full (count p) cs → length (log_of p log cs) ≡ length log + length cs
  log-length log [] f = omega arith
  log-length log (reset ∷ cs) f = absurd f
  log-length log (cycle samples ∷ cs) (h, f) =
      ap (λ (b : Bool). length (log_of p (cond b log (samples ∷ log)) cs)) (le-ltb (length samples) (count p) h) ∙
      log-length (samples ∷ log) cs f ∙ omega arith

  -- what was lent before the list, or in it
  unfoldable lent_in : List (List ℤ) → List Call → ℕ → List ℤ
  lent_in log cs t = cond (ltb t (length log)) (lent_at log t) (samples_at cs (t - length log))

  lent-next : (log : List (List ℤ)) (samples : List ℤ) (cs : List Call) (t : ℕ) → lent_in (samples ∷ log) cs t ≡
      lent_in log (cycle samples ∷ cs) t
  unfolding lent_in lent_at samples_at
  lent-next log samples cs t = go (ltb t (length log)) refl (eqb t (length log)) refl
    where
      go : (a : Bool) → ltb t (length log) ≡ a → (b : Bool) → eqb t (length log) ≡ b →
          cond (ltb t (suc (length log))) (cond b samples (lent_at log t)) (samples_at cs (t - suc (length log))) ≡
          cond a (lent_at log t) (samples_at (cycle samples ∷ cs) (t - length log))
      go true p true q = let l = ltb-true t (length log) p in let e = eqb-true t (length log) q in absurd (omega arith)
      go true p false q = let l = ltb-true t (length log) p in rw (lt-ltb t (suc (length log)) (omega arith))
      go false p true q =
          let e = eqb-true t (length log) q in
          let z : t - length log ≡ 0 = omega arith in
          rw (lt-ltb t (suc (length log)) (omega arith), z)
      go false p false q =
          let l = ltb-false t (length log) p in
          let n = eqb-false t (length log) q in
          let k : t - length log ≡ suc (t - suc (length log)) = omega arith in
          rw (le-ltb t (suc (length log)) (omega arith), k)

  lent-in : (log : List (List ℤ)) (cs : List Call) (t : ℕ) → Full (count p) cs → t < length log + length cs →
      lent_at (log_of p log cs) t ≡ lent_in log cs t
  unfolding lent_in
  lent-in log [] t f h = sym (last log t (omega arith))
    where
      last : (log : List (List ℤ)) (t : ℕ) → t < length log → lent_in log [] t ≡ lent_at log t
      last log t l = ap (λ (b : Bool). cond b (lent_at log t) (samples_at [] (t - length log))) (lt-ltb t (length log) l)
  lent-in log (reset ∷ cs) t f h = absurd f
  lent-in log (cycle samples ∷ cs) t (le, f) h =
      ap (λ (b : Bool). lent_at (log_of p (cond b log (samples ∷ log)) cs) t) (le-ltb (length samples) (count p) le) ∙
      lent-in (samples ∷ log) cs t f (omega arith) ∙ lent-next log samples cs t

  lent-at : (cs : List Call) (t : ℕ) → Full (count p) cs → t < length cs → lent_at (log_of p [] cs) t ≡ samples_at cs t
  unfolding lent_in
  lent-at cs t f h =
      let z : t - 0 ≡ t = omega arith in
      lent-in [] cs t f (omega arith) ∙
      ap (λ (b : Bool). cond b (lent_at [] t) (samples_at cs (t - 0))) (le-ltb t 0 (omega arith)) ∙ ap (samples_at cs) z

samples-take : (cs : List Call) (k t : ℕ) → t < k → samples_at (take k cs) t ≡ samples_at cs t
unfolding samples_at
samples-take cs zero t h = absurd (omega arith)
samples-take [] (suc k) t h = refl
samples-take (reset ∷ cs) (suc k) zero h = refl
samples-take (cycle samples ∷ cs) (suc k) zero h = refl
samples-take (reset ∷ cs) (suc k) (suc t) h = samples-take cs k t (omega arith)
samples-take (cycle samples ∷ cs) (suc k) (suc t) h = samples-take cs k t (omega arith)

module _ (p : Program) (s : Schedule) (h : ℕ) (acc : Feasible p s) (whole : Multiple p h) (bounded : Bounded p s h)
    (old : List ℤ) (long : count p < length old) (cs : List Call) (full : Full (count p) cs) (inputs : ℕ → ℕ → ℤ)
    (given : (x k : ℕ) → x < count p → IsInput (signal_at p x).body → run_cycle (rate_of p s x) k < length cs →
    inputs x k ≡ inputs_of p s cs x k)
    (j : ℕ) (lt : j < length cs) where
  first : List Call
  first = take (suc j) cs

  first-length : length first ≡ suc j
  unfolding first
  first-length = simp length-take (omega arith)

  first-full : Full (count p) first
  unfolding first
  first-full = full-take (count p) (suc j) cs full

  log_is : log_by (image_of p s h) old first ≡ log_of p [] first
  log_is = (list-shown p s h acc whole bounded old long first).logs

  log-size : length (log_by (image_of p s h) old first) ≡ suc j
  log-size = ap length log_is ∙ log-length p [] first first-full ∙ omega (arith, first-length)

  -- the samples of the script's calls supply the inputs
  supplied : Supplied p s (log_by (image_of p s h) old first) inputs
  unfolding first
  supplied x k lx input below =
      let t = run_cycle (rate_of p s x) k in
      let early : t < suc j = omega (arith, log-size) in
      given x k lx input (omega arith) ∙
      ap (λ (l : List ℤ). get_or l x (pos 0))
      (sym (ap (λ (log : List (List ℤ)). lent_at log t) log_is ∙ lent-at p first t first-full
      (omega (arith, first-length)) ∙ samples-take cs (suc j) t early))

  module _ (X : ℕ → ℕ → ℤ) (sat : Satisfies p (settled p s) inputs X) where
    pub holds : Holds p s h X old (suc j) (state_by (image_of p s h) old (take (suc j) cs))
    unfolding first
    holds =
        subst (λ (n : ℕ). Holds p s h X old n (state_by (image_of p s h) old first)) log-size
        (calls-hold p s h acc whole bounded old long first inputs X supplied sat)

    word-at : (x : ℕ) → x < count p → get_or (state_by (image_of p s h) old (take (suc j) cs)) (suc x) (pos 0) ≡
        held_at p s X (suc j) x
    word-at x lx = go (leb (suc j) (phase_of s x)) refl
      where
        go : (b : Bool) → leb (suc j) (phase_of s x) ≡ b → get_or (state_by (image_of p s h) old (take (suc j) cs)) (suc x) (pos 0) ≡
            cond b (signal_at p x).initial (X x (suc ((suc j - 1 - phase_of s x) / (signal_at p x).period)))
        go true e = holds.initial x lx (leb-true (suc j) (phase_of s x) e)
        go false e = holds.element x lx (leb-false (suc j) (phase_of s x) e)

    -- The words of line j.
    pub words_are : signals_of (image_of p s h) (state_by (image_of p s h) old (take (suc j) cs)) ≡ words_after p s X (suc j)
    words_are =
        let state = state_by (image_of p s h) old (take (suc j) cs) in
        let size : length (take (count p) (drop 1 state)) ≡
        count p = simp (length-take, length-drop) (omega (arith, holds.size)) in
        ap (λ (n : ℕ). take n (drop 1 state)) (image-count p s h) ∙
        ext_get_or (pos 0) (take (count p) (drop 1 state)) (words_after p s X (suc j))
        (size ∙ sym (table-length (count p) (held_at p s X (suc j))))
        (λ x lx. let below : x < count p = omega (arith, size) in
        get_or-take (count p) (drop 1 state) x (pos 0) below ∙ get_or-drop 1 state x (pos 0) ∙
        ap (λ (k : ℕ). get_or state k (pos 0)) (one x) ∙ word-at x below ∙
        sym (table_at (count p) (held_at p s X (suc j)) x (pos 0) below))
      where
        one : (x : ℕ) → 1 + x ≡ suc x
        one x = omega arith

-- A script's samples: those of a cycle have for each input the word of its last SET before it.
run_at : (n : ℕ) (samples : List ℤ) (cs : List Call) (t : ℕ) → t < n →
    samples_at (replicate n (cycle samples) ++ cs) t ≡ samples
unfolding samples_at
run_at zero samples cs t h = absurd (omega arith)
run_at (suc n) samples cs zero h = refl
run_at (suc n) samples cs (suc t) h = run_at n samples cs t (omega arith)

run_past : (n : ℕ) (samples : List ℤ) (cs : List Call) (t : ℕ) →
    samples_at (replicate n (cycle samples) ++ cs) (n + t) ≡ samples_at cs t
unfolding samples_at
run_past zero samples cs t = let e : 0 + t ≡ t = omega arith in ap (samples_at cs) e
run_past (suc n) samples cs t =
    let e : suc n + t ≡ suc (n + t) = omega arith in
    ap (samples_at (cycle samples ∷ (replicate n (cycle samples) ++ cs))) e ∙ run_past n samples cs t

last-own : {x at : ℕ} {start u w : ℤ} {actions : List Action} → LastSet x start (alter at x u ∷ actions) w →
    LastSet x u actions w
last-own {x} {at} {u = u} {actions = actions} (LastSet.last [] after at' w e free) =
    let same : u ≡ w = cc in
    let rest : actions ≡ after = cc in
    rw (← same, rest) (LastSet.none free)
last-own {x} {actions = actions} (LastSet.last (c ∷ before) after at' w e free) =
    let rest : actions ≡ before ++ (alter at' x w ∷ after) = cc in
    LastSet.last before after at' w rest free
last-own (LastSet.none free) = absurd (free _ _ (◌among◌.here refl))

last-other : {x y at : ℕ} {start u w : ℤ} {actions : List Action} → ¬ (y ≡ x) → LastSet x start (alter at y u ∷ actions) w →
    LastSet x start actions w
last-other {x} {y} ne (LastSet.last [] after at' w e free) = let same : y ≡ x = cc in absurd (ne same)
last-other {x} {actions = actions} ne (LastSet.last (c ∷ before) after at' w e free) =
    let rest : actions ≡ before ++ (alter at' x w ∷ after) = cc in
    LastSet.last before after at' w rest free
last-other ne (LastSet.none free) = LastSet.none (λ at w m. free at w (◌among◌.later m))

last-run : {x m : ℕ} {start w : ℤ} {actions : List Action} → LastSet x start (run m ∷ actions) w → LastSet x start actions w
last-run (LastSet.last [] after at' w e free) = let z : ◌≡◌ {A = ℕ} 0 1 = cc in absurd (omega arith)
last-run {x} {actions = actions} (LastSet.last (c ∷ before) after at' w e free) =
    let rest : actions ≡ before ++ (alter at' x w ∷ after) = cc in
    LastSet.last before after at' w rest free
last-run (LastSet.none free) = LastSet.none (λ at w m. free at w (◌among◌.later m))

last_empty : {x : ℕ} {start w : ℤ} → LastSet x start [] w → start ≡ w
last_empty (LastSet.last [] after at w e free) = let z : ◌≡◌ {A = ℕ} 0 1 = cc in absurd (omega arith)
last_empty (LastSet.last (c ∷ before) after at w e free) = let z : ◌≡◌ {A = ℕ} 0 1 = cc in absurd (omega arith)
last_empty (LastSet.none free) = refl

module _ (x m : ℕ) (after : List Action) where
  sample-last : (before : List Action) {n : ℕ} {w : ℤ} (samples : List ℤ) → x < length samples → Makes before n → (t : ℕ) →
      n ≤ t → t < n + m → LastSet x (get_or samples x (pos 0)) before w →
      get_or (samples_at (calls_from samples (before ++ (run m ∷ after))) t) x (pos 0) ≡ w
  unfolding calls_from
  sample-last [] samples inside Makes.none t from to latest =
      ap (λ l. get_or l x (pos 0)) (run_at m samples (calls_from samples after) t (omega arith)) ∙ last_empty latest
  sample-last (alter at y u ∷ before) {w = w} samples inside (Makes.sets r) t from to latest =
      sample-last before (set samples y u) (omega (arith, length-set samples y u)) r t from to (go (eqb y x) refl)
    where
      go : (b : Bool) → eqb y x ≡ b → LastSet x (get_or (set samples y u) x (pos 0)) before w
      go true e =
          let same = eqb-true y x e in
          rw (same, get_or-set_same samples x u (pos 0) inside) (last-own (rw same at latest))
      go false e =
          let other = eqb-false y x e in
          rw (get_or-set_other samples y x u (pos 0) (λ q. other (sym q))) (last-other other latest)
  sample-last (run k ∷ before) samples inside (Makes.runs {n = n} r) t from to latest =
      let e : t ≡ k + (t - k) = omega arith in
      ap (λ i. get_or (samples_at (calls_from samples (run k ∷ (before ++ (run m ∷ after)))) i) x (pos 0)) e ∙
      ap (λ l. get_or l x (pos 0)) (run_past k samples (calls_from samples (before ++ (run m ∷ after))) (t - k)) ∙
      sample-last before samples inside r (t - k) (omega arith) (omega arith) (last-run latest)

-- A word of the latest SET there is, or the start.
last-over : {x : ℕ} {start w : ℤ} {actions : List Action} (a : Action) → ((at : ℕ) (v : ℤ) → ¬ (alter at x v ≡ a)) →
    LastSet x start actions w → LastSet x start (a ∷ actions) w
last-over a other (LastSet.last before after at w e free) = LastSet.last (a ∷ before) after at w (ap (λ l. a ∷ l) e) free
last-over {x} {actions = actions} a other (LastSet.none free) = LastSet.none (λ at w m. go at w m)
  where
    go : (at : ℕ) (w : ℤ) → ¬ (alter at x w among (a ∷ actions))
    go at w (◌among◌.here e) = other at w e
    go at w (◌among◌.later m) = free at w m

last-here : {x : ℕ} {u w : ℤ} {actions : List Action} (start : ℤ) (at : ℕ) → LastSet x u actions w →
    LastSet x start (alter at x u ∷ actions) w
last-here {x} {u} start at (LastSet.last before after at' w e free) =
    LastSet.last (alter at x u ∷ before) after at' w (ap (λ l. alter at x u ∷ l) e) free
last-here {x} {u} {actions = actions} start at (LastSet.none free) = LastSet.last [] actions at u refl free

last_set : (x : ℕ) (start : ℤ) (actions : List Action) → (w : ℤ) × LastSet x start actions w
last_set x start [] = (start, LastSet.none (λ at w. elim [ ]))
last_set x start (alter at y u ∷ actions) = go (eqb y x) refl (last_set x u actions) (last_set x start actions)
  where
    go : (b : Bool) → eqb y x ≡ b → (w : ℤ) × LastSet x u actions w → (w : ℤ) × LastSet x start actions w →
        (w : ℤ) × LastSet x start (alter at y u ∷ actions) w
    go true e (w, l) (v, k) = let same = eqb-true y x e in (w, rw same (last-here start at l))
    go false e (w, l) (v, k) = (v, last-over (alter at y u) (λ i z q. eqb-false y x e (let r : y ≡ x = cc in r)) k)
last_set x start (run m ∷ actions) =
    let l = last_set x start actions in
    (l.0, last-over (run m) (λ i z q. let r : ◌≡◌ {A = ℕ} 0 1 = cc in omega arith) l.1)

-- The RUN that makes a cycle.
runs-sum : (actions : List Action) → Makes actions (cycles_of actions)
unfolding cycles_of
runs-sum [] = Makes.none
runs-sum (alter at x w ∷ actions) = Makes.sets (runs-sum actions)
runs-sum (run m ∷ actions) = Makes.runs (runs-sum actions)

made_after : (actions : List Action) (t : ℕ) → t < cycles_of actions → (before : List Action) × MadeAfter actions before t
unfolding cycles_of
made_after [] t lt = absurd (omega arith)
made_after (alter at x w ∷ actions) t lt =
    let m = made_after actions t lt in (
      alter at x w ∷ m.0,
      record {
        n = m.1.n;
        runs = Makes.sets m.1.runs;
        m = m.1.m;
        after = m.1.after;
        stands = ap (λ l. alter at x w ∷ l) m.1.stands;
        from = m.1.from;
        to = m.1.to;
      },
    )
made_after (run k ∷ actions) t lt = go (dec_lt t k) (λ h. made_after actions (t - k) h)
  where
    go : Dec (t < k) → (t - k < cycles_of actions → (before : List Action) × MadeAfter actions before (t - k)) →
        (before : List Action) × MadeAfter (run k ∷ actions) before t
    go (yes h) ih =
        ([], record { n = 0; runs = Makes.none; m = k; after = actions; stands = refl; from = omega arith; to = omega arith })
    go (no h) ih =
        let m = ih (omega arith) in (
          run k ∷ m.0,
          record {
            n = k + m.1.n;
            runs = Makes.runs m.1.runs;
            m = m.1.m;
            after = m.1.after;
            stands = ap (λ l. run k ∷ l) m.1.stands;
            from = omega (arith, m.1.from);
            to = omega (arith, m.1.to, m.1.from);
          },
        )

module _ (p : Program) (s : Schedule) (actions : List Action) (few : count p ≤ 64) where
  lent-set : (x k : ℕ) → x < count p → {before : List Action} {w : ℤ} → MadeAfter actions before (run_cycle (rate_of p s x) k) →
      LastSet x (pos 0) before w → inputs_of p s (calls_from no_samples actions) x k ≡ w
  lent-set x k lt {before} {w} made latest =
      let inside : x < length no_samples = omega (arith, length-replicate 64 (pos 0)) in
      let start : get_or no_samples x (pos 0) ≡ pos 0 = get_or-replicate 64 x (pos 0) (pos 0) (omega arith) in
      ap (λ l. get_or (samples_at (calls_from no_samples l) (run_cycle (rate_of p s x) k)) x (pos 0)) made.stands ∙
      sample-last x made.m made.after before no_samples inside made.runs (run_cycle (rate_of p s x) k) made.from
      made.to
      (rw start latest)

  -- There are inputs that the SETs supply, and all others that they do have the same elements in the cycles made.
  pub set-inputs : SetInputs p s actions (inputs_of p s (calls_from no_samples actions))
  set-inputs x k lt i before made =
      let l = last_set x (pos 0) before in rw (lent-set x k lt made l.1) l.1

  pub set_given : (inputs : ℕ → ℕ → ℤ) → SetInputs p s actions inputs → (x k : ℕ) → x < count p → IsInput (signal_at p x).body →
      run_cycle (rate_of p s x) k < length (calls_from no_samples actions) →
      inputs x k ≡ inputs_of p s (calls_from no_samples actions) x k
  set_given inputs given x k lt i below =
      let m = made_after actions (run_cycle (rate_of p s x) k) (omega (arith, calls_count no_samples actions)) in
      sym (lent-set x k lt m.1 (given x k lt i m.0 m.1))

-- The bytes of a line say its words.
spaced-says : (ws : List ℤ) → SaysWords ws (spaced ws)
unfolding spaced
spaced-says [] = SaysWords.none
spaced-says (w ∷ ws) = SaysWords.word (decimal-says w) (spaced-says ws)

line-says : (j : ℕ) (ws : List ℤ) → SaysLine j ws (line_of j ws)
unfolding line_of
line-says j ws =
    record { number = natural j; says = natural-says j; rest = spaced ws; signals = spaced-says ws; bytes = refl }

-- A trial that is accepted prints as many lines as the RUNs say, and line j has the words that the streams give after j + 1
-- cycles, the inputs being those that the SETs supply.
module _ (program schedule text : List ℕ) (bytes : AreBytes program) (lines : List (List ℕ))
    (tried : Tried program schedule text lines)
  where
    abbrev p : Program
    p = tried.pair.program

    abbrev s : Schedule
    s = tried.pair.schedule

    abbrev h : ℕ
    h = tried.pair.hypercycle

    accepts : pair_of program schedule ≡ accepted tried.pair
    accepts = (accepted-exactly program schedule tried.pair).1 tried.legal

    bounded : Bounded p s h
    bounded = pair-bounded program schedule _ accepts bytes

    abbrev actions : List Action
    actions = (script_of text).actions

    pub tried-count : Makes actions (length lines)
    tried-count =
        let e : length lines ≡ cycles_of actions =
        ap length tried.lines_are ∙ lines-count (image_of p s h) 0 (start_of (image_of p s h)) (calls_of text) ∙
        calls_count no_samples actions in
        rw e (runs-sum actions)

    pub tried-line : (inputs X : ℕ → ℕ → ℤ) → SetInputs p s actions inputs → Satisfies p (settled p s) inputs X → (j : ℕ) →
        j < length lines → SaysLine j (words_after p s X (suc j)) (get_or lines j [])
    tried-line inputs X given sat j lt =
        let image = image_of p s h in
        let inside : j < length (calls_of text) =
        omega (arith, ap length tried.lines_are, lines-count image 0 (start_of image) (calls_of text)) in
        let long : count p < length (replicate 65 (pos 0)) = omega (arith, bounded.signals, length-replicate 65 (pos 0)) in
        let full : Full (count p) (calls_of text) =
        full-calls (count p) no_samples actions (omega (arith, bounded.signals, length-replicate 64 (pos 0))) in
        let line : get_or lines j [] ≡ line_of j (words_after p s X (suc j)) =
        ap (λ (ls : List (List ℕ)). get_or ls j []) tried.lines_are ∙
        line_at image (start_of image) (calls_of text) j inside ∙
        ap (line_of j)
        (words_are p s h (pair-accepted program schedule _ accepts) (pair-multiple program schedule _ accepts) bounded
        (replicate 65 (pos 0)) long (calls_of text) full inputs
        (set_given p s actions bounded.signals inputs given) j inside X sat) in
        rw line (line-says j (words_after p s X (suc j)))
