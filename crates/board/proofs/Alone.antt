-- A place alone: its words are those of its image's program, stepped once for each turn that ran it. Assumes nothing.
use Prim.Native.Nat.{ℕ, suc, ◌+◌, ◌≤◌, ◌<◌}
use mathlib.Core.Bool.{Bool, true, false, cond}
use mathlib.Core.List.{List, [], ◌∷◌}
use mathlib.Core.Path.{◌≡◌, refl, sym, ap, ap₂, subst, ◌∙◌}
use native.Mathlib.Decide.{dec_lt}
use native.Mathlib.Omega.{arith}
use borrow.Author.Tests.{leb-true, eqb-true, eqb-false, eq-eqb}
use lib.Dec.{eqb}
use lib.IntN.{ℤ}
use lib.ListN.{length, get_or, set}
use lib.Seq.{get_or-set_same, set_out}
use Rattle.model.specs.Says.Calls.{Call, cycle, call_of, logged}
use Rattle.model.specs.Says.Calls as Calls
use Rattle.model.specs.Rules.Machine.{Effect, stretch, cycle_of, reset_of}
use Rattle.model.specs.Rules.Outcome.{Outcome, accepted, refused}
use Rattle.model.specs.declared.Fault.{Fault}
use Rattle.board.specs.Board.{
  vacant,
  place_at,
  place_words,
  place_samples,
  with_words,
  loaded_at,
  with_due,
  marked_at,
  taken_at,
  reset_in,
  run_of,
  BoardEffect,
  Yield,
  took,
  place_with,
  taken_place,
}
use Rattle.board.specs.Events.{
  Event,
  load,
  mark,
  turn,
  change,
  Scene,
  after_event,
  after_events,
  Throughout,
  image_at,
  CallRefused,
  NotLoaded,
  Untouched,
  own_cycle,
  own_cycles,
  turn_by,
}
use Rattle.board.specs.Board.{Board}
use Rattle.board.specs.Board.{Place}
use Rattle.board.proofs.Called.{board_done}
use Rattle.board.proofs.Due.{next-below}
use Rattle.board.proofs.Round.{set_other}
use Rattle.board.proofs.Stretch.{never, reset-length, cycle-of-length, cycle-keeps, on-keeps, on-length, accepted-runs}
use Rattle.board.proofs.Cases.{
  LoadCase,
  load-stays,
  load_does,
  MarkCase,
  mark-stays,
  mark-does,
  TurnCase,
  turn-stays,
  turn-idles,
  turn-takes,
  load-case,
  mark-case,
  turn-case,
  call_answer,
  reset_by,
  run_by,
}
use Rattle.board.proofs.Words.{words-length, words-own, words-other}

-- The stretch of a place: what no mark and no turn changes.
abbrev pub stretch_of : Place → ℕ × ℕ
stretch_of p = (p.start, p.size)

stretch-set : (places : List Place) (j k : ℕ) (p : Place) → stretch_of p ≡ stretch_of (get_or places j vacant) →
    stretch_of (get_or (set places j p) k vacant) ≡ stretch_of (get_or places k vacant)
stretch-set places j k p h = other (eqb k j) refl
  where
    own : k ≡ j → Dec (k < length places) → stretch_of (get_or (set places j p) k vacant) ≡ stretch_of (get_or places k vacant)
    own e (yes lt) =
        ap (λ (i : ℕ). stretch_of (get_or (set places i p) k vacant)) (sym e) ∙
        ap stretch_of (get_or-set_same places k p vacant lt) ∙ h ∙ ap (λ (i : ℕ). stretch_of (get_or places i vacant)) (sym e)
    own e (no ge) = ap (λ (l : List Place). stretch_of (get_or l k vacant)) (set_out places j p (omega arith))

    other : (t : Bool) → eqb k j ≡ t → stretch_of (get_or (set places j p) k vacant) ≡ stretch_of (get_or places k vacant)
    other true e = own (eqb-true k j e) (dec_lt k (length places))
    other false e = ap stretch_of (set_other places j k p (eqb-false k j e))

-- So its image stays.
image-same : (b c : Board) (images : List ℕ) (k : ℕ) → stretch_of (place_at c k) ≡ stretch_of (place_at b k) →
    image_at c images k ≡ image_at b images k
image-same b c images k e = ap (λ (p : ℕ × ℕ). stretch images p.0 (p.0 + p.1)) e

-- A run that is not refused is a cycle of the image in the stretch; a refused one leaves the words.
module _ (b : Board) (images : List ℕ) (state samples : List ℤ) (k : ℕ) where
  abbrev start : ℕ
  start = (place_at b k).start

  abbrev size : ℕ
  size = (place_at b k).size

  abbrev words : List ℤ
  words = place_words k state

  abbrev run : List ℕ → Effect ℕ ℤ
  run image = cycle_of image words (place_samples k samples)

  pub run_is : (n : ℕ) → (run_of b images state samples k).answer ≡ accepted n →
      run_of b images state samples k ≡ run (image_at b images k)
  unfolding run_of
  run_is = accepted-runs images start size words run

  run-keeps : (f : Fault) → (run_of b images state samples k).answer ≡ refused f → (run_of b images state samples k).left ≡ words
  unfolding run_of
  run-keeps = on-keeps images start size words run (cycle-keeps words (place_samples k samples))

  pub run_length : k < 4 → 260 ≤ length state → length (run_of b images state samples k).left ≡ 65
  unfolding run_of
  run_length lt le =
      on-length images start size words run (λ image. cycle-of-length image words (place_samples k samples)) ∙
      words-length k state lt le

-- So is a reset.
module _ (images : List ℕ) (start size k : ℕ) (state : List ℤ) where
  pub reset-in-length : k < 4 → 260 ≤ length state → length (reset_in images start size (place_words k state)).left ≡ 65
  reset-in-length lt le =
      on-length images start size (place_words k state) (λ image. reset_of image (place_words k state))
      (λ image. reset-length image (place_words k state)) ∙
      words-length k state lt le

-- What an event leaves of place k: its image and its words; or the turn ran it, and its words are those after a cycle.
pub data Leaves (k : ℕ) (s : Scene) (e : Event) : Type 0 where
  same : stretch_of (place_at (after_event s e).board k) ≡ stretch_of (place_at s.board k) →
      image_at (after_event s e).board (after_event s e).images k ≡ image_at s.board s.images k →
      place_words k (after_event s e).state ≡ place_words k s.state →
      ((es : List Event) → own_cycles k s (e ∷ es) ≡ own_cycles k (after_event s e) es) → Leaves k s e
  stepped : (samples : List ℤ) (n : ℕ) →
      (cycle_of (image_at s.board s.images k) (place_words k s.state) samples).answer ≡ accepted n →
      stretch_of (place_at (after_event s e).board k) ≡ stretch_of (place_at s.board k) →
      image_at (after_event s e).board (after_event s e).images k ≡ image_at s.board s.images k →
      place_words k (after_event s e).state ≡ (cycle_of (image_at s.board s.images k) (place_words k s.state) samples).left →
      ((es : List Event) → own_cycles k s (e ∷ es) ≡ cycle samples ∷ own_cycles k (after_event s e) es) → Leaves k s e

module _ (k : ℕ) (lt : k < 4) (s : Scene) where
  load-leaves : (j start size : ℕ) → Untouched k s (load j start size) → Leaves k s (load j start size)
  unfolding after_event Untouched NotLoaded CallRefused loaded_at own_cycles
  load-leaves j start size free = go (load-case s j start size)
    where
      go : LoadCase s j start size → Leaves k s (load j start size)
      go (load-stays f e) = same (rw e) (rw e) (rw e) (λ es. refl)
      go (load_does l w n h e) =
          let ne : k ≡ j → ⊥ = λ q. let r = free (sym q) in never n r.0 (sym (ap call_answer e) ∙ r.1) in
          let le = leb-true 260 (length s.state) w in
          let u : stretch_of (place_at (loaded_at s.board j start size) k) ≡ stretch_of (place_at s.board k) =
          ap stretch_of (set_other s.board.places j k (place_with start size) ne)
          in
          same (rw e u) (rw e (image-same s.board (loaded_at s.board j start size) s.images k u))
          (rw e
          (words-other j s.state (reset_by s j start size).left l le
          (reset-in-length s.images start size j s.state l le) k lt ne))
          (λ es. refl)

  mark-leaves : (j : ℕ) → Leaves k s (mark j)
  unfolding after_event marked_at own_cycles
  mark-leaves j = go (mark-case s j)
    where
      go : MarkCase s j → Leaves k s (mark j)
      go (mark-stays f e) = same (rw e) (rw e) refl (λ es. refl)
      go (mark-does l q e) =
          let u : stretch_of (place_at (marked_at s.board j) k) ≡ stretch_of (place_at s.board k) =
          stretch-set s.board.places j k (with_due true (place_at s.board j)) refl in
          same (rw e u) (rw e (image-same s.board (marked_at s.board j) s.images k u)) refl (λ es. refl)

  turn-leaves : (samples : List ℤ) → Leaves k s (turn samples)
  unfolding after_event taken_at own_cycles
  turn-leaves samples = go (turn-case s samples)
    where
      stays : (j : ℕ) → stretch_of (place_at (taken_at s.board j) k) ≡ stretch_of (place_at s.board k)
      stays j = stretch-set s.board.places j k (taken_place (place_at s.board j)) refl

      step : (es : List Event) {c : BoardEffect Yield} → turn_by s samples ≡ c →
          own_cycles k s (turn samples ∷ es) ≡ own_cycle k samples c.answer (own_cycles k (after_event s (turn samples)) es)
      step es e = ap (λ (c : BoardEffect Yield). own_cycle k samples c.answer (own_cycles k (after_event s (turn samples)) es)) e

      took-other : (j : ℕ) → j < 4 → 260 ≤ length s.state → eqb j k ≡ false → (o : Outcome ℕ) →
          turn_by s samples ≡
          board_done (took j o) (taken_at s.board j) (with_words j s.state (run_by s samples j).left) →
          Leaves k s (turn samples)
      took-other j l le q (accepted n) e =
          same (rw e (stays j)) (rw e (image-same s.board (taken_at s.board j) s.images k (stays j)))
          (rw e
          (words-other j s.state (run_by s samples j).left l le
          (run_length s.board s.images s.state samples j l le) k lt (λ z. eqb-false j k q (sym z))))
          (λ es. step es e ∙ ap (λ (t : Bool). cond t
          (cycle (place_samples k samples) ∷ own_cycles k (after_event s (turn samples)) es)
          (own_cycles k (after_event s (turn samples)) es)) q)
      took-other j l le q (refused f) e =
          same (rw e (stays j)) (rw e (image-same s.board (taken_at s.board j) s.images k (stays j)))
          (rw e
          (words-other j s.state (run_by s samples j).left l le
          (run_length s.board s.images s.state samples j l le) k lt (λ z. eqb-false j k q (sym z))))
          (λ es. step es e)

      took-own : 260 ≤ length s.state → (o : Outcome ℕ) → (run_by s samples k).answer ≡ o →
          turn_by s samples ≡
          board_done (took k o) (taken_at s.board k) (with_words k s.state (run_by s samples k).left) →
          Leaves k s (turn samples)
      took-own le (accepted n) h e =
          stepped (place_samples k samples) n
          (sym (ap (λ (x : Effect ℕ ℤ). x.answer) (run_is s.board s.images s.state samples k n h)) ∙ h) (rw e (stays k))
          (rw e (image-same s.board (taken_at s.board k) s.images k (stays k)))
          (rw e
          (words-own k s.state (run_by s samples k).left lt le (run_length s.board s.images s.state samples k lt le) ∙
          ap (λ (x : Effect ℕ ℤ). x.left) (run_is s.board s.images s.state samples k n h)))
          (λ es. step es e ∙
          ap (λ (t : Bool). cond t (cycle (place_samples k samples) ∷ own_cycles k (after_event s (turn samples)) es)
          (own_cycles k (after_event s (turn samples)) es)) (eq-eqb k k refl))
      took-own le (refused f) h e =
          same (rw e (stays k)) (rw e (image-same s.board (taken_at s.board k) s.images k (stays k)))
          (rw e
          (words-own k s.state (run_by s samples k).left lt le (run_length s.board s.images s.state samples k lt le) ∙
          run-keeps s.board s.images s.state samples k f h))
          (λ es. step es e)

      which : (j : ℕ) → j < 4 → 260 ≤ length s.state → (t : Bool) → eqb j k ≡ t →
          turn_by s samples ≡
          board_done (took j (run_by s samples j).answer) (taken_at s.board j)
          (with_words j s.state (run_by s samples j).left) →
          Leaves k s (turn samples)
      which j l le true q e = took-own le (run_by s samples k).answer refl (rw (eqb-true j k q) at e)
      which j l le false q e = took-other j l le q (run_by s samples j).answer e

      go : TurnCase s samples → Leaves k s (turn samples)
      go (turn-stays f e) = same (rw e) (rw e) (rw e) (λ es. step es e)
      go (turn-idles n e) = same (rw e) (rw e) (rw e) (λ es. step es e)
      go (turn-takes j n w v e) = which j (next-below s.board j n) (leb-true 260 (length s.state) w) (eqb j k) refl e

  pub event-leaves : (e : Event) → Untouched k s e → Leaves k s e
  unfolding after_event Untouched own_cycles
  event-leaves (load j start size) free = load-leaves j start size free
  event-leaves (mark j) free = mark-leaves j
  event-leaves (turn samples) free = turn-leaves samples
  event-leaves (change images state) free = same refl free.0 free.1 (λ es. refl)

pub alone-from : (k : ℕ) → k < 4 → (s : Scene) (es : List Event) (image : List ℕ) (words : List ℤ) →
    image_at s.board s.images k ≡ image →
    place_words k s.state ≡ words → Throughout (Untouched k) s es →
    place_words k (after_events s es).state ≡ Calls.after image words (own_cycles k s es)
unfolding after_events Throughout Calls.after call_of own_cycles
alone-from k lt s [] image words p q free = q
alone-from k lt s (e ∷ es) image words p q free =
    go (event-leaves k lt s e free.0) (λ w r h. alone-from k lt (after_event s e) es image w r h free.1)
  where
    go : Leaves k s e →
        ((w : List ℤ) → image_at (after_event s e).board (after_event s e).images k ≡ image →
        place_words k (after_event s e).state ≡ w →
        place_words k (after_events (after_event s e) es).state ≡ Calls.after image w (own_cycles k (after_event s e) es)) →
        place_words k (after_events (after_event s e) es).state ≡ Calls.after image words (own_cycles k s (e ∷ es))
    go (same u i w h) ih = ih words (i ∙ p) (w ∙ q) ∙ ap (Calls.after image words) (sym (h es))
    go (stepped samples n a u i w h) ih =
        ih (cycle_of image words samples).left (i ∙ p)
        (w ∙ ap₂ (λ (im : List ℕ) (ws : List ℤ). (cycle_of im ws samples).left) p q) ∙
        ap (Calls.after image words) (sym (h es))

-- Every one of these cycles is accepted, so their log has as many entries.
pub cycles-logged : (k : ℕ) → k < 4 → (s : Scene) (es : List Event) (image : List ℕ) (words : List ℤ) (log : List (List ℤ)) →
    image_at s.board s.images k ≡ image → place_words k s.state ≡ words → Throughout (Untouched k) s es →
    length (Calls.log_after image words log (own_cycles k s es)) ≡ length (own_cycles k s es) + length log
unfolding Throughout Calls.log_after call_of own_cycles
cycles-logged k lt s [] image words log p q free = omega arith
cycles-logged k lt s (e ∷ es) image words log p q free =
    go (event-leaves k lt s e free.0) (λ w l r h. cycles-logged k lt (after_event s e) es image w l r h free.1)
  where
    Logged : List ℤ → List (List ℤ) → List Call → Type 0
    Logged w l cs = length (Calls.log_after image w l cs) ≡ length cs + length l

    one : (w : List ℤ) (samples : List ℤ) (n : ℕ) (cs : List Call) → (cycle_of image w samples).answer ≡ accepted n →
        Logged (cycle_of image w samples).left (samples ∷ log) cs → Logged w log (cycle samples ∷ cs)
    one w samples n cs a h =
        ap (λ (o : Outcome ℕ). length (Calls.log_after image (cycle_of image w samples).left (logged (cycle samples) o log) cs))
        a ∙ h ∙
        shift (length cs) (length log)
      where
        shift : (m n : ℕ) → m + suc n ≡ suc m + n
        shift m n = omega arith

    go : Leaves k s e →
        ((w : List ℤ) (l : List (List ℤ)) → image_at (after_event s e).board (after_event s e).images k ≡ image →
        place_words k (after_event s e).state ≡ w →
        Logged w l (own_cycles k (after_event s e) es)) →
        Logged words log (own_cycles k s (e ∷ es))
    go (same u i w h) ih = subst (Logged words log) (sym (h es)) (ih words log (i ∙ p) (w ∙ q))
    go (stepped samples n a u i w h) ih =
        subst (Logged words log) (sym (h es))
        (one words samples n (own_cycles k (after_event s e) es)
        (sym (ap₂ (λ (im : List ℕ) (ws : List ℤ). (cycle_of im ws samples).answer) p q) ∙ a)
        (ih (cycle_of image words samples).left (samples ∷ log) (i ∙ p)
        (w ∙ ap₂ (λ (im : List ℕ) (ws : List ℤ). (cycle_of im ws samples).left) p q)))
