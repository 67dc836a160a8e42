-- What load, mark and turn promise together, over any list of events: calls that each get the record as the last one left it, and
-- changes of the images and the state from outside. Assumes nothing.
use Prim.Native.Nat.{ℕ, ◌+◌, ◌≤◌, ◌<◌}
use mathlib.Core.List.{List, [], ◌∷◌}
use mathlib.Core.Path.{◌≡◌, refl, sym, ap, ◌∙◌}
use native.Mathlib.Omega.{arith}
use borrow.Author.Tests.{leb-true}
use lib.IntN.{ℤ}
use lib.ListN.{length}
use Rattle.model.specs.Says.Calls as Calls
use Rattle.model.specs.Rules.Machine.{stretch, reset_of}
use Rattle.model.specs.Rules.Outcome.{accepted, refused}
use Rattle.model.specs.declared.Fault.{Fault}
use Rattle.board.specs.Board.{place_at, place_words, idle, took}
use Rattle.board.specs.Events.{
  Event,
  load,
  mark,
  turn,
  change,
  Scene,
  turn_in,
  after_event,
  after_events,
  CallRefused,
  total_of,
  is_turn,
  is_taken_at,
  Throughout,
  NotLoaded,
  image_at,
  Untouched,
  OfPlace,
  Elsewhere,
  RunFault,
  NotFailed,
  own_cycles,
  held,
  load_by,
  mark_by,
}
use Rattle.board.proofs.Alone.{alone-from, cycles-logged}
use Rattle.board.proofs.Cases.{
  LoadCase,
  load-stays,
  load_does,
  MarkCase,
  mark-stays,
  mark-does,
  TurnCase,
  turn-stays,
  turn-idles,
  turn-takes,
  load-case,
  mark-case,
  turn-case,
  call_answer,
  turn_answer,
  run_by,
  answered,
}
use Rattle.board.proofs.Counts.{count-from}
use Rattle.board.proofs.Intact.{load-leaves-place, intact-runs, run-fault}
use Rattle.board.proofs.Due.{next-below}
use Rattle.board.proofs.Others.{event-elsewhere}
use Rattle.board.proofs.Round.{due-taken, mark-due}
use Rattle.board.proofs.Stretch.{never}

-- A place that was marked and is not loaded again is taken by the fourth turn after its mark at the latest, turns refused 21 or
-- 23 left out, whichever places the other events load and mark and whatever is changed from outside.
pub taken-by-fourth : (s : Scene) (k : ℕ) → (mark_by s k).answer ≡ accepted 0 → (es : List Event) →
    Throughout (NotLoaded k) (after_event s (mark k)) es → 4 ≤ total_of is_turn (after_event s (mark k)) es →
    0 < total_of (is_taken_at k) (after_event s (mark k)) es
taken-by-fourth s k m es free four = let d = mark-due s k m in due-taken k (after_event s (mark k)) d.0 d.1 es free four

-- While its stretch and its words are not changed from outside and it is not loaded, the 65 words of a place are those of its
-- image alone, stepped by one cycle for each turn that ran it ..
pub place-steps : (s : Scene) (k : ℕ) → k < 4 → (es : List Event) → Throughout (Untouched k) s es →
    place_words k (after_events s es).state ≡ Calls.after (image_at s.board s.images k) (place_words k s.state)
    (own_cycles k s es)
place-steps s k lt es free = alone-from k lt s es (image_at s.board s.images k) (place_words k s.state) refl refl free

-- .. and from a load on they are those that a reset on that image, and then these cycles, leave.
pub place-alone : (s : Scene) (k start size n : ℕ) → length s.board.places ≡ 4 →
    (load_by s k start size).answer ≡ accepted n → (es : List Event) →
    Throughout (Untouched k) (after_event s (load k start size)) es →
    let image = stretch s.images start (start + size) in
    place_words k (after_events s (load k start size ∷ es)).state ≡
    Calls.after image (reset_of image (place_words k s.state)).left (own_cycles k (after_event s (load k start size)) es)
unfolding after_events after_event
place-alone s k start size n four a es free =
    let p = load-leaves-place s k start size n four a in
    let image = stretch s.images start (start + size) in
    alone-from k p.below (after_event s (load k start size)) es image (reset_of image (place_words k s.state)).left p.image
    p.words free

-- .. each of which is accepted, so that c, the number of cycles since that reset, is the number of turns that ran the place.
pub place-cycles : (s : Scene) (k start size n : ℕ) → length s.board.places ≡ 4 →
    (load_by s k start size).answer ≡ accepted n → (es : List Event) →
    Throughout (Untouched k) (after_event s (load k start size)) es →
    let image = stretch s.images start (start + size) in
    let cycles = own_cycles k (after_event s (load k start size)) es in
    ((reset_of image (place_words k s.state)).answer ≡ accepted 0) ×
    (length (Calls.log_after image (reset_of image (place_words k s.state)).left [] cycles) ≡ length cycles)
unfolding after_event
place-cycles s k start size n four a es free =
    let p = load-leaves-place s k start size n four a in
    let image = stretch s.images start (start + size) in
    let t = after_event s (load k start size) in (
      p.reset,
      cycles-logged k p.below t es image (reset_of image (place_words k s.state)).left [] p.image p.words free ∙
          none (length (own_cycles k t es)),
    )
  where
    none : (m : ℕ) → m + 0 ≡ m
    none m = omega arith

-- A run is refused by 27, 20 or 22 alone ..
pub run-faults : (s : Scene) (samples : List ℤ) (k : ℕ) (f : Fault) → turn_in s samples ≡ accepted (took k (refused f)) →
    RunFault f
run-faults s samples k f h = go (turn-case s samples)
  where
    go : TurnCase s samples → RunFault f
    go (turn-stays g e) = absurd (never (took k (refused f)) g (sym (answered s samples h e)))
    go (turn-idles n e) = let q = answered s samples h e in let z : ◌≡◌ {A = ℕ} 0 1 = cc in absurd (omega arith)
    go (turn-takes j n w v e) =
        let q = answered s samples h e in
        let fails : (run_by s samples j).answer ≡ refused f = cc in
        run-fault s.board s.images s.state samples j (next-below s.board j n) (leb-true 260 (length s.state) w)
        (leb-true 256 (length samples) v) f fails

-- .. and by none of them while nobody outside has changed the place's stretch or words since it was loaded.
pub runs-unless-changed : (s : Scene) (k start size n : ℕ) → length s.board.places ≡ 4 →
    (load_by s k start size).answer ≡ accepted n → (es : List Event) →
    Throughout (Untouched k) (after_event s (load k start size)) es →
    Throughout (NotFailed k) (after_event s (load k start size)) es
runs-unless-changed s k start size n four a es free =
    let p = load-leaves-place s k start size n four a in
    intact-runs k p.below (after_event s (load k start size)) p.intact es free

-- The count of a place tells the turns that took it since its latest accepted load, refused runs included, and is held at its
-- maximum.
pub count-tells : (s : Scene) (k start size n : ℕ) → length s.board.places ≡ 4 →
    (load_by s k start size).answer ≡ accepted n → (es : List Event) →
    Throughout (NotLoaded k) (after_event s (load k start size)) es →
    (place_at (after_events s (load k start size ∷ es)).board k).count ≡
    held (total_of (is_taken_at k) (after_event s (load k start size)) es)
unfolding after_events
count-tells s k start size n four a es free =
    let t = after_event s (load k start size) in
    let z = (load-leaves-place s k start size n four a).count in
    count-from k t es (omega arith) free ∙ ap (λ (m : ℕ). held (m + total_of (is_taken_at k) t es)) z ∙
    ap held (plus_none (total_of (is_taken_at k) t es))
  where
    plus_none : (n : ℕ) → 0 + n ≡ n
    plus_none n = omega arith

-- A refused call changes nothing, the record included ..
pub board-keeps : (s : Scene) (e : Event) (f : Fault) → CallRefused s e f → after_event s e ≡ s
unfolding after_event CallRefused
board-keeps s (load k start size) f h = go (load-case s k start size)
  where
    go : LoadCase s k start size → after_event s (load k start size) ≡ s
    go (load-stays g e) = rw e
    go (load_does lt w n q e) =
        let r = sym (ap call_answer e) ∙ h in let z : ◌≡◌ {A = ℕ} 0 1 = cc in absurd (omega arith)
board-keeps s (mark k) f h = go (mark-case s k)
  where
    go : MarkCase s k → after_event s (mark k) ≡ s
    go (mark-stays g e) = rw e
    go (mark-does lt l e) =
        let r = sym (ap call_answer e) ∙ h in let z : ◌≡◌ {A = ℕ} 0 1 = cc in absurd (omega arith)
board-keeps s (turn samples) f h = go (turn-case s samples)
  where
    go : TurnCase s samples → after_event s (turn samples) ≡ s
    go (turn-stays g e) = rw e
    go (turn-idles n e) = rw e
    go (turn-takes k n w v e) =
        let r = sym (ap turn_answer e) ∙ h in let z : ◌≡◌ {A = ℕ} 0 1 = cc in absurd (omega arith)
board-keeps s (change images state) f h = absurd h

-- .. and so does an idle turn.
pub idle-keeps : (s : Scene) (samples : List ℤ) → turn_in s samples ≡ accepted idle → after_event s (turn samples) ≡ s
unfolding after_event
idle-keeps s samples h = go (turn-case s samples)
  where
    go : TurnCase s samples → after_event s (turn samples) ≡ s
    go (turn-stays g e) = rw e
    go (turn-idles n e) = rw e
    go (turn-takes k n w v e) =
        let r = sym (ap turn_answer e) ∙ h in let z : ◌≡◌ {A = ℕ} 0 1 = cc in absurd (omega arith)

-- A load, a mark or a turn of one place changes no word and nothing in the record of another, and no word beyond the 260.
pub others-untouched : (s : Scene) (e : Event) (k : ℕ) → OfPlace k s e → Elsewhere k s (after_event s e)
others-untouched = event-elsewhere
