-- When a run is refused, and that it is not while nobody outside changes what was loaded. Assumes nothing.
use Prim.Native.Nat.{ℕ, ◌+◌, ◌-◌, ◌≤◌, ◌<◌}
use mathlib.Core.Bool.{Bool, true, false}
use mathlib.Core.List.{List, [], ◌∷◌}
use mathlib.Core.Path.{◌≡◌, refl, sym, ap, subst, ◌∙◌}
use native.Mathlib.Omega.{arith}
use borrow.Author.Tests.{leb-true, le-leb}
use lib.Dec.{leb}
use lib.IntN.{ℤ}
use lib.ListN.{length, drop, length-drop}
use lib.Seq.{get_or-set_same}
use Rattle.model.specs.Rules.Machine.{Effect, stretch, reset_of, cycle_of}
use Rattle.model.specs.Rules.Outcome.{accepted, refused}
use Rattle.model.specs.declared.Fault.{Fault}
use Rattle.image_valid.proofs.Parts.{stretch-length}
use Rattle.board.specs.Board.{vacant, place_at, place_words, place_samples, place_with, loaded_at, reset_in, run_of, took}
use Rattle.board.specs.Events.{
  Event,
  load,
  mark,
  turn,
  change,
  Scene,
  turn_in,
  after_event,
  Throughout,
  image_at,
  Untouched,
  RunFault,
  outside,
  NotFailed,
  load_by,
}
use Rattle.board.specs.Board.{Board}
use Rattle.board.specs.Board.{Place}
use Rattle.board.proofs.Alone.{stretch_of, Leaves, same, stepped, event-leaves, reset-in-length}
use Rattle.board.proofs.Cases.{
  LoadCase,
  load-stays,
  load_does,
  TurnCase,
  turn-stays,
  turn-idles,
  turn-takes,
  load-case,
  turn-case,
  call_answer,
  run_by,
  answered,
}
use Rattle.board.proofs.Stretch.{
  answer_of,
  left_of,
  never,
  CanRun,
  can-some,
  reset-can,
  cycle-can,
  reset-zero,
  cycle-fault,
  outside-27,
  inside-runs,
  accepted-inside,
  accepted-runs,
  take_short,
}
use Rattle.board.proofs.Words.{words-length, words-own, samples-length}

-- The run of a place, whose 65 words and 64 samples are lent.
module _ (b : Board) (images : List ℕ) (state samples : List ℤ) (k : ℕ) (lt : k < 4) (le : 260 ≤ length state)
    (lent : 256 ≤ length samples) where
  abbrev start : ℕ
  start = (place_at b k).start

  abbrev size : ℕ
  size = (place_at b k).size

  abbrev image : List ℕ
  image = image_at b images k

  abbrev words : List ℤ
  words = place_words k state

  abbrev own : List ℤ
  own = place_samples k samples

  abbrev run : List ℕ → Effect ℕ ℤ
  run im = cycle_of im words own

  long : 64 < length words
  long = omega (arith, words-length k state lt le)

  pub enough : 64 ≤ length own
  enough = omega (arith, samples-length k samples lt lent)

  -- It is not refused where the image lies inside and can be run ..
  pub run-done : leb (start + size) (length images) ≡ true → CanRun image words → (f : Fault) →
      (run_of b images state samples k).answer ≡ refused f → ⊥
  unfolding run_of
  run-done e can f h =
      let ran = can own enough in
      never ran.0 f (sym (ap answer_of (inside-runs images start size words run e) ∙ ran.1) ∙ h)

  -- .. and else by 27, 20 or 22 alone.
  pub run-fault : (f : Fault) → (run_of b images state samples k).answer ≡ refused f → RunFault f
  unfolding run_of
  run-fault f h = go (leb (start + size) (length images)) refl
    where
      go : (t : Bool) → leb (start + size) (length images) ≡ t → RunFault f
      go true e = cycle-fault image words own long enough f (sym (ap answer_of (inside-runs images start size words run e)) ∙ h)
      go false e = outside (cc (sym h ∙ ap answer_of (outside-27 images start size words run e)))

-- What a load leaves, and what stays so while nobody outside changes it: the stretch lies in the images, and the place runs.
pub record Intact (k : ℕ) (s : Scene) : Type 0 where
  pub whole : length (image_at s.board s.images k) ≡ (place_at s.board k).size
  pub runs : CanRun (image_at s.board s.images k) (place_words k s.state)

-- A stretch inside the images has its length.
inside-length : (images : List ℕ) (start size : ℕ) → leb (start + size) (length images) ≡ true →
    length (stretch images start (start + size)) ≡ size
inside-length images start size e =
    stretch-length images start (start + size) (leb-true (start + size) (length images) e) ∙ omega arith

module _ (k : ℕ) (lt : k < 4) (s : Scene) (x : Intact k s) where
  abbrev b : Board
  b = s.board

  abbrev place-image : List ℕ
  place-image = image_at b s.images k

  abbrev place-words : List ℤ
  place-words = place_words k s.state

  lies-inside : leb ((place_at b k).start + (place_at b k).size) (length s.images) ≡ true
  lies-inside =
      let start = (place_at b k).start in
      let size = (place_at b k).size in
      let short : length place-image ≤ length s.images - start =
      rw length-drop at (take_short (start + size - start) (drop start s.images)) in
      le-leb (start + size) (length s.images) (omega (arith, x.whole, can-some place-image place-words x.runs))

  turn-runs : (samples : List ℤ) (f : Fault) → turn_in s samples ≡ accepted (took k (refused f)) → ⊥
  turn-runs samples f h = go (turn-case s samples)
    where
      go : TurnCase s samples → ⊥
      go (turn-stays g e) = never (took k (refused f)) g (sym (answered s samples h e))
      go (turn-idles n e) = let q = answered s samples h e in let z : ◌≡◌ {A = ℕ} 0 1 = cc in omega arith
      go (turn-takes j n w v e) =
          let q = answered s samples h e in
          let place : j ≡ k = cc in
          let fails : (run_by s samples j).answer ≡ refused f = cc in
          let room = leb-true 260 (length s.state) w in
          let lent = leb-true 256 (length samples) v in
          run-done b s.images s.state samples k lt room lent lies-inside
          x.runs f
          (ap (λ (i : ℕ). (run_by s samples i).answer) (sym place) ∙ fails)

  event-runs : (e : Event) → NotFailed k s e
  unfolding NotFailed
  event-runs (load j start size) = tt
  event-runs (mark j) = tt
  event-runs (turn samples) = turn-runs samples
  event-runs (change images state) = tt

  event-intact : (e : Event) → Untouched k s e → Intact k (after_event s e)
  event-intact e free = go (event-leaves k lt s e free)
    where
      intact : stretch_of (place_at (after_event s e).board k) ≡ stretch_of (place_at b k) →
          image_at (after_event s e).board (after_event s e).images k ≡ place-image →
          CanRun place-image (place_words k (after_event s e).state) → Intact k (after_event s e)
      intact u i can =
          record {
            whole = ap length i ∙ x.whole ∙ sym (ap (λ (q : ℕ × ℕ). q.1) u);
            runs = subst (λ (im : List ℕ). CanRun im (place_words k (after_event s e).state)) (sym i) can;
          }

      go : Leaves k s e → Intact k (after_event s e)
      go (same u i w h) = intact u i (subst (CanRun place-image) (sym w) x.runs)
      go (stepped samples n a u i w h) =
          intact u i (subst (CanRun place-image) (sym w) (cycle-can place-image place-words samples n a))

pub intact-runs : (k : ℕ) → k < 4 → (s : Scene) → Intact k s → (es : List Event) → Throughout (Untouched k) s es →
    Throughout (NotFailed k) s es
unfolding Throughout
intact-runs k lt s x [] free = tt
intact-runs k lt s x (e ∷ es) free =
    (event-runs k lt s x e, intact-runs k lt (after_event s e) (event-intact k lt s x e free.0) es free.1)

-- What a load that is not refused leaves of its place.
pub record LoadedPlace (s : Scene) (k start size : ℕ) : Type 0 where
  pub below : k < 4
  pub image : image_at (after_event s (load k start size)).board s.images k ≡ stretch s.images start (start + size)
  pub reset : (reset_of (stretch s.images start (start + size)) (place_words k s.state)).answer ≡ accepted 0
  pub words : place_words k (after_event s (load k start size)).state ≡
      (reset_of (stretch s.images start (start + size)) (place_words k s.state)).left
  pub intact : Intact k (after_event s (load k start size))
  pub count : (place_at (after_event s (load k start size)).board k).count ≡ 0

pub load-leaves-place : (s : Scene) (k start size n : ℕ) → length s.board.places ≡ 4 →
    (load_by s k start size).answer ≡ accepted n → LoadedPlace s k start size
unfolding after_event loaded_at
load-leaves-place s k start size n four a = go (load-case s k start size)
  where
    image : List ℕ
    image = stretch s.images start (start + size)

    old : List ℤ
    old = place_words k s.state

    go : LoadCase s k start size → LoadedPlace s k start size
    go (load-stays f e) = absurd (never n f (sym a ∙ ap call_answer e))
    go (load_does lt w m h e) =
        let old = place_words k s.state in
        let le = leb-true 260 (length s.state) w in
        let reset : List ℕ → Effect ℕ ℤ = λ im. reset_of im old in
        let inside = accepted-inside s.images start size old reset m h in
        let ran = accepted-runs s.images start size old reset m h in
        let answered : (reset_of image old).answer ≡ accepted m = sym (ap answer_of ran) ∙ h in
        let p : place_at (after_event s (load k start size)).board k ≡ place_with start size =
        rw e (get_or-set_same s.board.places k _ vacant (omega arith)) in
        let i : image_at (after_event s (load k start size)).board s.images k ≡ image =
        ap (λ (p : Place). stretch s.images p.start (p.start + p.size)) p in
        let ws : place_words k (after_event s (load k start size)).state ≡ (reset_of image old).left =
        rw e
        (words-own k s.state (reset_in s.images start size old).left lt le
        (reset-in-length s.images start size k s.state lt le) ∙
        ap left_of ran) in
        record {
          below = lt;
          image = i;
          reset = reset-zero image old m answered;
          words = ws;
          count = ap (λ (p : Place). p.count) p;
          intact =
              record {
                whole = ap length i ∙ inside-length s.images start size inside ∙ sym (ap (λ (p : Place). p.size) p);
                runs =
                    subst (λ (im : List ℕ). CanRun im (place_words k (after_event s (load k start size)).state)) (sym i)
                    (subst (CanRun image) (sym ws) (reset-can image old m answered));
              };
        }
