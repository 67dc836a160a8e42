-- What the turns that take a place answer is what the cycles of its image alone answer. Assumes nothing.
use Prim.Native.Nat.{ℕ, suc, ◌≤◌, ◌<◌}
use mathlib.Core.Bool.{Bool, true, false, cond}
use mathlib.Core.List.{List, [], ◌∷◌}
use mathlib.Core.Path.{◌≡◌, refl, sym, ap, ap₂, ◌∙◌}
use native.Mathlib.Omega.{arith}
use borrow.Author.Tests.{leb-true, eqb-true}
use lib.Dec.{eqb}
use lib.IntN.{ℤ}
use lib.ListN.{length}
use Rattle.model.specs.Says.Calls.{Call, reset, cycle, call_of}
use Rattle.model.specs.Says.Feasible.{All}
use Rattle.model.specs.Rules.Machine.{Effect, cycle_of}
use Rattle.model.specs.Rules.Outcome.{Outcome, accepted, refused}
use Rattle.theorems_streams.specs.Held.{answers_of}
use Rattle.model.specs.declared.Fault.{Fault}
use Rattle.board.specs.Board.{place_words, place_samples, Yield, idle, took}
use Rattle.board.specs.Events.{
  Event,
  load,
  mark,
  turn,
  change,
  Scene,
  turn_in,
  after_event,
  Throughout,
  image_at,
  Untouched,
  NotFailed,
  own_cycle,
  own_cycles,
}
use Rattle.board.proofs.Alone.{run_is, Leaves, same, stepped, event-leaves}
use Rattle.board.proofs.Cases.{TurnCase, turn-stays, turn-idles, turn-takes, turn-case, run_by, answered}
use Rattle.board.proofs.Stretch.{never}
use Rattle.board.proofs.Words.{samples-length}
use Rattle.promises.specs.Scenes.{answers_in, run_answer, runs_among, run_answers}

-- A turn that ran place k answers what a cycle of the place's image answers.
ran-answer : (k : ℕ) (s : Scene) (samples : List ℤ) (n : ℕ) → turn_in s samples ≡ accepted (took k (accepted n)) →
    (cycle_of (image_at s.board s.images k) (place_words k s.state) (place_samples k samples)).answer ≡ accepted n
ran-answer k s samples n h = go (turn-case s samples)
  where
    go : TurnCase s samples →
        (cycle_of (image_at s.board s.images k) (place_words k s.state) (place_samples k samples)).answer ≡ accepted n
    go (turn-stays f e) = absurd (never (took k (accepted n)) f (sym (answered s samples h e)))
    go (turn-idles d e) = let q = answered s samples h e in let z : ◌≡◌ {A = ℕ} 0 1 = cc in absurd (omega arith)
    go (turn-takes j d w v e) =
        let q = answered s samples h e in
        let place : j ≡ k = cc in
        let ran : (run_by s samples j).answer ≡ accepted n = cc in
        let own : (run_by s samples k).answer ≡ accepted n = ap (λ (i : ℕ). (run_by s samples i).answer) (sym place) ∙ ran in
        sym (ap (λ (x : Effect ℕ ℤ). x.answer) (run_is s.board s.images s.state samples k n own)) ∙ own

-- What an event adds to the runs of place k: nothing, and the place stays; or a cycle of its image.
data Adds (k : ℕ) (s : Scene) (e : Event) (es : List Event) : Type 0 where
  nothing : image_at (after_event s e).board (after_event s e).images k ≡ image_at s.board s.images k →
      place_words k (after_event s e).state ≡ place_words k s.state →
      run_answers k s (e ∷ es) ≡ run_answers k (after_event s e) es →
      own_cycles k s (e ∷ es) ≡ own_cycles k (after_event s e) es → Adds k s e es
  run : (samples : List ℤ) → image_at (after_event s e).board (after_event s e).images k ≡ image_at s.board s.images k →
      place_words k (after_event s e).state ≡ (cycle_of (image_at s.board s.images k) (place_words k s.state) samples).left →
      run_answers k s (e ∷ es) ≡
      (cycle_of (image_at s.board s.images k) (place_words k s.state) samples).answer ∷ run_answers k (after_event s e) es →
      own_cycles k s (e ∷ es) ≡ cycle samples ∷ own_cycles k (after_event s e) es → Adds k s e es

module _ (k : ℕ) (lt : k < 4) (s : Scene) where
  -- An event that is no turn, or a turn that did not run the place, adds no cycle.
  adds-nothing : (e : Event) (es : List Event) → Leaves k s e → run_answers k s (e ∷ es) ≡ run_answers k (after_event s e) es →
      ((fs : List Event) → own_cycles k s (e ∷ fs) ≡ own_cycles k (after_event s e) fs) → Adds k s e es
  unfolding own_cycles
  adds-nothing e es (same u i w h) a o = nothing i w a (o es)
  adds-nothing e es (stepped samples n q u i w h) a o = absurd (omega (arith, ap length (sym (o []) ∙ h [])))

  adds_run : (e : Event) (es : List Event) (samples : List ℤ) (n : ℕ) → Leaves k s e →
      (cycle_of (image_at s.board s.images k) (place_words k s.state) samples).answer ≡ accepted n →
      run_answers k s (e ∷ es) ≡ accepted n ∷ run_answers k (after_event s e) es →
      ((fs : List Event) → own_cycles k s (e ∷ fs) ≡ cycle samples ∷ own_cycles k (after_event s e) fs) → Adds k s e es
  unfolding own_cycles
  adds_run e es samples n (same u i w h) q a o = absurd (omega (arith, ap length (sym (h []) ∙ o [])))
  adds_run e es samples n (stepped samples' n' q' u i w h) q a o =
      let both : ◌≡◌ {A = List Call} (cycle samples' ∷ []) (cycle samples ∷ []) = sym (h []) ∙ o [] in
      let one : samples' ≡ samples = cc in
      run samples i
      (w ∙ ap (λ (m : List ℤ). (cycle_of (image_at s.board s.images k) (place_words k s.state) m).left) one)
      (a ∙ ap (λ (x : Outcome ℕ). x ∷ run_answers k (after_event s e) es) (sym q)) (o es)

  turn-adds : (samples : List ℤ) (es : List Event) → Leaves k s (turn samples) → NotFailed k s (turn samples) →
      Adds k s (turn samples) es
  unfolding NotFailed answers_in runs_among own_cycles
  turn-adds samples es l ok = go (turn_in s samples) refl
    where
      later : List Event → List Call
      later fs = own_cycles k (after_event s (turn samples)) fs

      rest : List (Outcome ℕ)
      rest = run_answers k (after_event s (turn samples)) es

      answers : {o : Outcome Yield} → turn_in s samples ≡ o → run_answers k s (turn samples ∷ es) ≡ run_answer k o rest
      answers e = ap (λ (o : Outcome Yield). run_answer k o rest) e

      cycles : {o : Outcome Yield} → turn_in s samples ≡ o → (fs : List Event) →
          own_cycles k s (turn samples ∷ fs) ≡ own_cycle k samples o (later fs)
      cycles e fs = ap (λ (o : Outcome Yield). own_cycle k samples o (later fs)) e

      -- It takes place j: which answer and which cycle it adds.
      taken : {j : ℕ} {t : Bool} (o : Outcome ℕ) → turn_in s samples ≡ accepted (took j o) → eqb j k ≡ t →
          run_answers k s (turn samples ∷ es) ≡ cond t (o ∷ rest) rest
      taken o e q = answers e ∙ ap (λ (t : Bool). cond t (o ∷ rest) rest) q

      stepped_by : {j n : ℕ} {t : Bool} → turn_in s samples ≡ accepted (took j (accepted n)) → eqb j k ≡ t → (fs : List Event) →
          own_cycles k s (turn samples ∷ fs) ≡ cond t (cycle (place_samples k samples) ∷ later fs) (later fs)
      stepped_by e q fs = cycles e fs ∙ ap (λ (t : Bool). cond t (cycle (place_samples k samples) ∷ later fs) (later fs)) q

      failed : (j : ℕ) (f : Fault) → turn_in s samples ≡ accepted (took j (refused f)) → (t : Bool) → eqb j k ≡ t →
          Adds k s (turn samples) es
      failed j f e true q = absurd (ok f (rw (eqb-true j k q) at e))
      failed j f e false q = adds-nothing (turn samples) es l (taken (refused f) e q) (cycles e)

      ran : (j n : ℕ) → turn_in s samples ≡ accepted (took j (accepted n)) → (t : Bool) → eqb j k ≡ t →
          Adds k s (turn samples) es
      ran j n e true q =
          adds_run (turn samples) es (place_samples k samples) n l (ran-answer k s samples n (rw (eqb-true j k q) at e))
          (taken (accepted n) e q) (stepped_by e q)
      ran j n e false q = adds-nothing (turn samples) es l (taken (accepted n) e q) (stepped_by e q)

      go : (o : Outcome Yield) → turn_in s samples ≡ o → Adds k s (turn samples) es
      go (accepted idle) e = adds-nothing (turn samples) es l (answers e) (cycles e)
      go (accepted (took j (accepted n))) e = ran j n e (eqb j k) refl
      go (accepted (took j (refused f))) e = failed j f e (eqb j k) refl
      go (refused f) e = adds-nothing (turn samples) es l (answers e) (cycles e)

  event-adds : (e : Event) (es : List Event) → Untouched k s e → NotFailed k s e → Adds k s e es
  unfolding answers_in runs_among own_cycles
  event-adds (load j start size) es free ok =
      adds-nothing (load j start size) es (event-leaves k lt s (load j start size) free) refl (λ fs. refl)
  event-adds (mark j) es free ok = adds-nothing (mark j) es (event-leaves k lt s (mark j) free) refl (λ fs. refl)
  event-adds (turn samples) es free ok = turn-adds samples es (event-leaves k lt s (turn samples) free) ok
  event-adds (change images state) es free ok =
      adds-nothing (change images state) es (event-leaves k lt s (change images state) free) refl (λ fs. refl)

-- So over any list while its stretch and words are not changed from outside, and no run of it is refused.
pub runs_own : (k : ℕ) → k < 4 → (s : Scene) (es : List Event) (image : List ℕ) (words : List ℤ) →
    image_at s.board s.images k ≡ image → place_words k s.state ≡ words → Throughout (Untouched k) s es →
    Throughout (NotFailed k) s es → run_answers k s es ≡ answers_of image words (own_cycles k s es)
unfolding Throughout answers_in runs_among own_cycles answers_of call_of
runs_own k lt s [] image words p q free ok = refl
runs_own k lt s (e ∷ es) image words p q free ok =
    go (event-adds k lt s e es free.0 ok.0) (λ w r h. runs_own k lt (after_event s e) es image w r h free.1 ok.1)
  where
    go : Adds k s e es →
        ((w : List ℤ) → image_at (after_event s e).board (after_event s e).images k ≡ image →
        place_words k (after_event s e).state ≡ w →
        run_answers k (after_event s e) es ≡ answers_of image w (own_cycles k (after_event s e) es)) →
        run_answers k s (e ∷ es) ≡ answers_of image words (own_cycles k s (e ∷ es))
    go (nothing i w a o) ih = a ∙ ih words (i ∙ p) (w ∙ q) ∙ ap (answers_of image words) (sym o)
    go (run samples i w a o) ih =
        let left : List ℤ = (cycle_of image words samples).left in
        let rest = ih left (i ∙ p)
        (w ∙ ap₂ (λ (im : List ℕ) (ws : List ℤ). (cycle_of im ws samples).left) p q) in
        a ∙
        ap₂ (λ (im : List ℕ) (ws : List ℤ). (cycle_of im ws samples).answer ∷ run_answers k (after_event s e) es) p q ∙
        ap (λ (os : List (Outcome ℕ)). (cycle_of image words samples).answer ∷ os) rest ∙
        ap (answers_of image words) (sym o)

-- As many as its cycles, each of which is lent 64 samples.
pub answers-length : (image : List ℕ) (words : List ℤ) (cs : List Call) → length (answers_of image words cs) ≡ length cs
unfolding answers_of
answers-length image words [] = refl
answers-length image words (c ∷ cs) = ap suc (answers-length image (call_of image words c).left cs)

abbrev pub Enough : Call → Type 0
Enough reset = ⊥
Enough (cycle samples) = 64 ≤ length samples

ran-enough : (k : ℕ) → k < 4 → (s : Scene) (samples : List ℤ) (n : ℕ) → turn_in s samples ≡ accepted (took k (accepted n)) →
    64 ≤ length (place_samples k samples)
ran-enough k lt s samples n h = go (turn-case s samples)
  where
    go : TurnCase s samples → 64 ≤ length (place_samples k samples)
    go (turn-stays f e) = absurd (never (took k (accepted n)) f (sym (answered s samples h e)))
    go (turn-idles d e) = let q = answered s samples h e in let z : ◌≡◌ {A = ℕ} 0 1 = cc in absurd (omega arith)
    go (turn-takes j d w v e) = omega (arith, samples-length k samples lt (leb-true 256 (length samples) v))

pub own-enough : (k : ℕ) → k < 4 → (s : Scene) (es : List Event) → All Enough (own_cycles k s es)
unfolding own_cycles
own-enough k lt s [] = tt
own-enough k lt s (load j start size ∷ es) = own-enough k lt (after_event s (load j start size)) es
own-enough k lt s (mark j ∷ es) = own-enough k lt (after_event s (mark j)) es
own-enough k lt s (turn samples ∷ es) =
    go (turn_in s samples) refl (own_cycles k (after_event s (turn samples)) es) (own-enough k lt (after_event s (turn samples)) es)
  where
    which : (j n : ℕ) → turn_in s samples ≡ accepted (took j (accepted n)) → (cs : List Call) → All Enough cs → (t : Bool) →
        eqb j k ≡ t → All Enough (cond t (cycle (place_samples k samples) ∷ cs) cs)
    which j n e cs h true q = (ran-enough k lt s samples n (rw (eqb-true j k q) at e), h)
    which j n e cs h false q = h

    go : (o : Outcome Yield) → turn_in s samples ≡ o → (cs : List Call) → All Enough cs → All Enough (own_cycle k samples o cs)
    go (accepted idle) e cs h = h
    go (accepted (took j (accepted n))) e cs h = which j n e cs h (eqb j k) refl
    go (accepted (took j (refused f))) e cs h = h
    go (refused f) e cs h = h
own-enough k lt s (change images state ∷ es) = own-enough k lt (after_event s (change images state)) es
