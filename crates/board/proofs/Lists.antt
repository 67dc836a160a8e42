-- A list of calls on the numbers goes as on the record that they stand for: so the promises over lists hold of the numbers.
-- Assumes nothing.
use Prim.Native.Nat.{ℕ, ◌+◌, ◌*◌, ◌≤◌, ◌<◌}
use mathlib.Core.Bool.{Bool, true, false, cond}
use mathlib.Core.List.{List, [], ◌∷◌}
use mathlib.Core.Path.{◌≡◌, refl, sym, ap, subst, ◌∙◌}
use native.Mathlib.Omega.{arith}
use borrow.Author.Tests.{eqb-true, eqb-false, eq-eqb, leb-true}
use lib.Dec.{eqb}
use lib.IntN.{ℤ, pos}
use lib.ListN.{length, length-set, length-take, length-drop}
use Rattle.model.specs.Rules.Machine.{stretch, reset_of, cycle_of}
use Rattle.model.specs.Rules.Outcome.{Outcome, accepted, refused}
use Rattle.model.specs.Says.Calls.{Call, cycle}
use Rattle.model.specs.Says.Calls as Says
use Rattle.board.specs.Board.{place_at, place_words, place_samples, load_of, turn_of, BoardEffect, Yield, idle, took}
use Rattle.board.specs.Events.{
  Event,
  load,
  mark,
  turn,
  change,
  Scene,
  after_event,
  after_events,
  total_of,
  is_turn,
  is_taken_at,
  Throughout,
  NotLoaded,
  image_at,
  Untouched,
  NotFailed,
  own_cycle,
  own_cycles,
  held,
  Held,
  load_by,
  turn_by,
}
use Rattle.board.specs.Board.{Board}
use Rattle.board.specs.Board.{Place}
use Rattle.board.proofs.Cases.{
  LoadCase,
  load-stays,
  load_does,
  load-case,
  call_answer,
  TurnCase,
  turn-stays,
  turn-idles,
  turn-takes,
  turn-case,
}
use Rattle.board.proofs.Counts.{held-is}
use Rattle.board.proofs.Due.{next-below}
use Rattle.board.proofs.Intact.{load-leaves-place}
use Rattle.board.proofs.Promises as Board
use Rattle.board.proofs.Stretch.{never, accepted-inside, reset-length, cycle-of-length}
use Rattle.board.proofs.Words.{words-length}
use Rattle.board.specs.Calls.{
  NumberScene,
  scene_of,
  load_answer,
  mark_answer,
  turn_answer,
  after_call,
  after_calls,
  total_in,
  ThroughoutIn,
  NotLoadedIn,
  UntouchedIn,
  RunsPlace,
  RunsOf,
  FromLoad,
  AsAlone,
}
use Rattle.board.specs.Numbers.{OwnSamples, start_at, size_at, count_at}
use Rattle.board.specs.Record.{board_of, loaded_words, taken_words, load_record, mark_record, turn_record}
use Rattle.board.proofs.Numbers.{part-there, part-is, stretch-there, stretch-is, counted-most}
use Rattle.board.proofs.Places.{place-held}
use Rattle.board.proofs.Held.{
  load-held,
  mark-held,
  turn-held,
  load-count,
  load-other,
  mark-other,
  taken-count,
  taken-other,
}

-- The record that the numbers stand for goes with them.
module _ (m : NumberScene) (seventeen : length m.numbers ≡ 17) where
  pub call-held : (e : Event) → scene_of (after_call m e) ≡ after_event (scene_of m) e
  unfolding after_call after_event
  call-held (load k start size) =
      ap (λ (b : Board). record {
        board = b;
        images = m.images;
        state = (load_of (board_of m.numbers) m.images m.state k start size).left;
      }) (load-held m.numbers seventeen m.images m.state k start size)
  call-held (mark k) =
      ap (λ (b : Board). record { board = b; images = m.images; state = m.state }) (mark-held m.numbers seventeen k)
  call-held (turn samples) =
      ap (λ (b : Board). record {
        board = b;
        images = m.images;
        state = (turn_of (board_of m.numbers) m.images m.state samples).left;
      }) (turn-held m.numbers seventeen m.images m.state samples)
  call-held (change images state) = refl

-- There are 17 of them after every call.
load-long : (w : List ℕ) (k start size : ℕ) (o : Outcome ℕ) → length (load_record w k start size o) ≡ length w
unfolding loaded_words
load-long w k start size (accepted n) = simp length-set
load-long w k start size (refused f) = refl

mark-long : (w : List ℕ) (k : ℕ) (o : Outcome ℕ) → length (mark_record w k o) ≡ length w
mark-long w k (accepted n) = length-set w (4 * k) 3
mark-long w k (refused f) = refl

turn-long : (w : List ℕ) (o : Outcome Yield) → length (turn_record w o) ≡ length w
unfolding taken_words
turn-long w (accepted idle) = refl
turn-long w (accepted (took k o)) = simp length-set
turn-long w (refused f) = refl

pub call_long : (m : NumberScene) (e : Event) → length m.numbers ≡ 17 → length (after_call m e).numbers ≡ 17
unfolding after_call
call_long m (load k start size) long = load-long m.numbers k start size (load_answer m k start size) ∙ long
call_long m (mark k) long = mark-long m.numbers k (mark_answer m k) ∙ long
call_long m (turn samples) long = turn-long m.numbers (turn_answer m samples) ∙ long
call_long m (change images state) long = long

-- So is it over a list: the scene after it, what its events count for, and what each of them does.
pub calls-held : (m : NumberScene) → length m.numbers ≡ 17 → (es : List Event) →
    scene_of (after_calls m es) ≡ after_events (scene_of m) es
unfolding after_calls after_events
calls-held m long [] = refl
calls-held m long (e ∷ es) =
    calls-held (after_call m e) (call_long m e long) es ∙ ap (λ (s : Scene). after_events s es) (call-held m long e)

pub total-held : (f : Scene → Event → ℕ) (m : NumberScene) → length m.numbers ≡ 17 → (es : List Event) →
    total_in f m es ≡ total_of f (scene_of m) es
unfolding total_in total_of
total-held f m long [] = refl
total-held f m long (e ∷ es) =
    ap (λ (n : ℕ). f (scene_of m) e + n)
    (total-held f (after_call m e) (call_long m e long) es ∙ ap (λ (s : Scene). total_of f s es) (call-held m long e))

pub throughout-held : (P : NumberScene → Event → Type 0) (Q : Scene → Event → Type 0) →
    ((m : NumberScene) (e : Event) → P m e → Q (scene_of m) e) → (m : NumberScene) → length m.numbers ≡ 17 →
    (es : List Event) → ThroughoutIn P m es → Throughout Q (scene_of m) es
unfolding ThroughoutIn Throughout
throughout-held P Q f m long [] h = tt
throughout-held P Q f m long (e ∷ es) h = (
  f m e h.0,
  subst (λ (s : Scene). Throughout Q s es) (call-held m long e)
      (throughout-held P Q f (after_call m e) (call_long m e long) es h.1),
)

pub throughout-back : (Q : Scene → Event → Type 0) (m : NumberScene) → length m.numbers ≡ 17 → (es : List Event) →
    Throughout Q (scene_of m) es → ThroughoutIn (λ n. Q (scene_of n)) m es
unfolding ThroughoutIn Throughout
throughout-back Q m long [] h = tt
throughout-back Q m long (e ∷ es) h = (
  h.0,
  throughout-back Q (after_call m e) (call_long m e long) es
      (subst (λ (s : Scene). Throughout Q s es) (sym (call-held m long e)) h.1),
)

-- A place that is not changed from outside, by its numbers.
image-held : (w images : List ℕ) (k : ℕ) → k < 4 →
    image_at (board_of w) images k ≡ stretch images (start_at w k) (start_at w k + size_at w k)
image-held w images k lt = ap (λ (p : Place). stretch images p.start (p.start + p.size)) (place-held w k lt)

pub untouched-held : (k : ℕ) → k < 4 → (m : NumberScene) (e : Event) → UntouchedIn k m e → Untouched k (scene_of m) e
unfolding UntouchedIn Untouched
untouched-held k lt m (load j start size) h = h
untouched-held k lt m (mark j) h = tt
untouched-held k lt m (turn samples) h = tt
untouched-held k lt m (change images state) h = (
  image-held m.numbers images k lt ∙ stretch-is h.0.after ∙ sym (stretch-is h.0.before) ∙
      sym (image-held m.numbers m.images k lt),
  part-is (pos 0) state (65 * k) 65 h.1.after ∙ sym (part-is (pos 0) m.state (65 * k) 65 h.1.before),
)

-- The cycles of a place's program alone.
module _ (k : ℕ) where
  not_own : (samples : List ℤ) (o : Outcome Yield) (cs : List Call) →
      ¬ ((n : ℕ) × (o ≡ accepted (took k (accepted n)))) → own_cycle k samples o cs ≡ cs
  not_own samples (accepted idle) cs no_run = refl
  not_own samples (accepted (took j (accepted n))) cs no_run = go (eqb j k) refl
    where
      go : (t : Bool) → eqb j k ≡ t → cond t (cycle (place_samples k samples) ∷ cs) cs ≡ cs
      go true e = absurd (no_run (n, ap (λ (i : ℕ). accepted (took i (accepted n))) (eqb-true j k e)))
      go false e = refl
  not_own samples (accepted (took j (refused f))) cs no_run = refl
  not_own samples (refused f) cs no_run = refl

  pub runs-held : {m : NumberScene} {es : List Event} {cs : List Call} {os : List (Outcome ℕ)} → length m.numbers ≡ 17 →
      RunsOf k m es cs os → cs ≡ own_cycles k (scene_of m) es
  unfolding own_cycles
  runs-held long RunsOf.none = refl
  runs-held {m} long (RunsOf.other {e = e} {es = es} {cs = cs} no_run r) =
      runs-held (call_long m e long) r ∙ ap (λ (s : Scene). own_cycles k s es) (call-held m long e) ∙ sym (skips e es no_run)
    where
      skips : (e : Event) (es : List Event) → ¬ RunsPlace k m e →
          own_cycles k (scene_of m) (e ∷ es) ≡ own_cycles k (after_event (scene_of m) e) es
      skips (load j start size) es h = refl
      skips (mark j) es h = refl
      skips (turn samples) es h = not_own samples (turn_answer m samples) _ h
      skips (change images state) es h = refl
  runs-held {m} long (RunsOf.ran {samples = samples} {own = own} {es = es} {cs = cs} (n, e) s r) =
      ap (λ (xs : List Call). cycle own ∷ xs)
      (runs-held (call_long m (turn samples) long) r ∙ ap (λ (x : Scene). own_cycles k x es) (call-held m long (turn samples))) ∙
      ap (λ (xs : List ℤ). cycle xs ∷ own_cycles k (after_event (scene_of m) (turn samples)) es)
      (sym (part-is (pos 0) samples (64 * k) 64 s)) ∙
      sym (ap (λ (t : Bool). cond t (cycle (place_samples k samples) ∷ own_cycles k (after_event (scene_of m) (turn samples)) es)
      (own_cycles k (after_event (scene_of m) (turn samples)) es)) (eq-eqb k k refl)) ∙
      sym (ap (λ (o : Outcome Yield). own_cycle k samples o (own_cycles k (after_event (scene_of m) (turn samples)) es)) e)

  -- There are such for every list.
  runs-place : (m : NumberScene) (e : Event) → Dec (RunsPlace k m e)
  runs-place m (load j start size) = no (λ h. h)
  runs-place m (mark j) = no (λ h. h)
  runs-place m (turn samples) = go (turn_answer m samples) refl
    where
      go : (o : Outcome Yield) → turn_answer m samples ≡ o →
          Dec ((n : ℕ) × (turn_answer m samples ≡ accepted (took k (accepted n))))
      go (accepted idle) e = no (λ h. let q = sym e ∙ h.1 in let z : ◌≡◌ {A = ℕ} 0 1 = cc in omega arith)
      go (accepted (took j (accepted n))) e = same (eqb j k) refl
        where
          same : (t : Bool) → eqb j k ≡ t → Dec ((n : ℕ) × (turn_answer m samples ≡ accepted (took k (accepted n))))
          same true q = yes (n, e ∙ ap (λ (i : ℕ). accepted (took i (accepted n))) (eqb-true j k q))
          same false q = no (λ h. let r = sym e ∙ h.1 in let z : j ≡ k = cc in eqb-false j k q z)
      go (accepted (took j (refused f))) e = no (λ h. let q = sym e ∙ h.1 in let z : ◌≡◌ {A = ℕ} 0 1 = cc in omega arith)
      go (refused f) e = no (λ h. let q = sym e ∙ h.1 in let z : ◌≡◌ {A = ℕ} 0 1 = cc in omega arith)
  runs-place m (change images state) = no (λ h. h)

  samples-there : (m : NumberScene) (samples : List ℤ) → RunsPlace k m (turn samples) →
      OwnSamples k samples (place_samples k samples)
  samples-there m samples (n, h) = go (turn-case (scene_of m) samples)
    where
      go : TurnCase (scene_of m) samples → OwnSamples k samples (place_samples k samples)
      go (turn-stays f e) = absurd (never (took k (accepted n)) f (sym h ∙ ap (λ c. c.answer) e))
      go (turn-idles none e) =
          let q = sym h ∙ ap (λ c. c.answer) e in let z : ◌≡◌ {A = ℕ} 0 1 = cc in absurd (omega arith)
      go (turn-takes j at w v e) =
          let q = sym h ∙ ap (λ c. c.answer) e in
          let z : k ≡ j = cc in
          part-there (pos 0) samples (64 * k) 64
          (omega (arith, next-below (board_of m.numbers) j at, leb-true 256 (length samples) v))

  pub runs-there : (m : NumberScene) (es : List Event) → (cs : List Call) × (os : List (Outcome ℕ)) × RunsOf k m es cs os
  runs-there m [] = ([], [], RunsOf.none)
  runs-there m (e ∷ es) = go e (runs-place m e) (runs-there (after_call m e) es)
    where
      go : (e : Event) → Dec (RunsPlace k m e) →
          ((cs : List Call) × (os : List (Outcome ℕ)) × RunsOf k (after_call m e) es cs os) →
          (cs : List Call) × (os : List (Outcome ℕ)) × RunsOf k m (e ∷ es) cs os
      go (load j start size) (yes r) rest = absurd r
      go (load j start size) (no n) (cs, os, r) = (cs, os, RunsOf.other n r)
      go (mark j) (yes r) rest = absurd r
      go (mark j) (no n) (cs, os, r) = (cs, os, RunsOf.other n r)
      go (turn samples) (yes p) (cs, os, r) =
          (cycle (place_samples k samples) ∷ cs, accepted p.0 ∷ os, RunsOf.ran p (samples-there m samples p) r)
      go (turn samples) (no n) (cs, os, r) = (cs, os, RunsOf.other n r)
      go (change images state) (yes r) rest = absurd r
      go (change images state) (no n) (cs, os, r) = (cs, os, RunsOf.other n r)

-- A list of calls keeps the number of words.
after-length : (image : List ℕ) (cs : List Call) (words : List ℤ) → length (Says.after image words cs) ≡ length words
unfolding Says.after Says.call_of
after-length image [] words = refl
after-length image (Call.reset ∷ cs) words =
    after-length image cs (reset_of image words).left ∙ reset-length image words
after-length image (cycle samples ∷ cs) words =
    after-length image cs (cycle_of image words samples).left ∙ cycle-of-length image words samples

-- A load that is not refused has its stretch inside the images, and enough words.
load-room : (m : NumberScene) (k start size : ℕ) → load_answer m k start size ≡ accepted 0 →
    (start + size ≤ length m.images) × (260 ≤ length m.state)
load-room m k start size h = go (load-case (scene_of m) k start size)
  where
    go : LoadCase (scene_of m) k start size → (start + size ≤ length m.images) × (260 ≤ length m.state)
    go (load-stays f e) = absurd (never 0 f (sym h ∙ ap call_answer e))
    go (load_does lt w n r e) =
        let old = place_words k m.state in (
          leb-true (start + size) (length m.images)
              (accepted-inside m.images start size old (λ i. reset_of i old) n r),
          leb-true 260 (length m.state) w,
        )

-- The number of a place's count is below 2^32 from its load on.
module _ (k : ℕ) (lt : k < 4) where
  abbrev Small : NumberScene → Type 0
  Small m = count_at m.numbers k ≤ 4294967295

  loaded-count : (w : List ℕ) → length w ≡ 17 → (j start size : ℕ) → j < 4 → count_at w k ≤ 4294967295 →
      count_at (loaded_words w j start size) k ≤ 4294967295
  loaded-count w long j start size l h = go (eqb j k) refl
    where
      go : (t : Bool) → eqb j k ≡ t → count_at (loaded_words w j start size) k ≤ 4294967295
      go true e = rw (← (eqb-true j k e)) (omega (arith, load-count w long j l start size))
      go false e =
          let ne = eqb-false j k e in
          omega (arith, load-other w long j l start size (4 * k + 3) (omega arith) (λ q. ne (omega arith)))

  taken-small : (w : List ℕ) → length w ≡ 17 → (j : ℕ) → j < 4 → count_at w k ≤ 4294967295 →
      count_at (taken_words w j) k ≤ 4294967295
  taken-small w long j l h = go (eqb j k) refl
    where
      go : (t : Bool) → eqb j k ≡ t → count_at (taken_words w j) k ≤ 4294967295
      go true e =
          rw (← (eqb-true j k e)) (omega (arith, taken-count w long j l, counted-most (count_at w j)))
      go false e =
          let ne = eqb-false j k e in
          omega (
            arith,
            taken-other w long j l (4 * k + 3) (λ q. omega arith) (λ q. ne (omega arith)) (λ q. omega arith),
          )

  call-small : (m : NumberScene) → length m.numbers ≡ 17 → (e : Event) → Small m → Small (after_call m e)
  unfolding after_call
  call-small m long (load j start size) h = go (load-case (scene_of m) j start size)
    where
      so : {c : BoardEffect ℕ} → load_by (scene_of m) j start size ≡ c →
          count_at (load_record m.numbers j start size c.answer) k ≤ 4294967295 → Small (after_call m (load j start size))
      so e = subst (λ (c : BoardEffect ℕ). count_at (load_record m.numbers j start size c.answer) k ≤ 4294967295) (sym e)

      go : LoadCase (scene_of m) j start size → Small (after_call m (load j start size))
      go (load-stays f e) = so e h
      go (load_does l q n r e) = so e (loaded-count m.numbers long j start size l h)
  call-small m long (mark j) h = go (mark_answer m j)
    where
      go : (o : Outcome ℕ) → count_at (mark_record m.numbers j o) k ≤ 4294967295
      go (accepted n) = omega (arith, mark-other m.numbers j (4 * k + 3) (λ q. omega arith))
      go (refused f) = h
  call-small m long (turn samples) h = go (turn-case (scene_of m) samples)
    where
      so : {c : BoardEffect Yield} → turn_by (scene_of m) samples ≡ c →
          count_at (turn_record m.numbers c.answer) k ≤ 4294967295 → Small (after_call m (turn samples))
      so e = subst (λ (c : BoardEffect Yield). count_at (turn_record m.numbers c.answer) k ≤ 4294967295) (sym e)

      go : TurnCase (scene_of m) samples → Small (after_call m (turn samples))
      go (turn-stays f e) = so e h
      go (turn-idles n e) = so e h
      go (turn-takes j n w v e) = so e (taken-small m.numbers long j (next-below (board_of m.numbers) j n) h)
  call-small m long (change images state) h = h

  calls-small : (m : NumberScene) → length m.numbers ≡ 17 → (es : List Event) → Small m → Small (after_calls m es)
  unfolding after_calls
  calls-small m long [] h = h
  calls-small m long (e ∷ es) h = calls-small (after_call m e) (call_long m e long) es (call-small m long e h)

-- A marked place that is not loaded again is taken by the fourth turn after its mark at the latest, turns refused 21 or 23 left
-- out, whichever places the other events load and mark and whatever is changed from outside.
pub numbers-taken-by-fourth : (m : NumberScene) → length m.numbers ≡ 17 → (k : ℕ) → mark_answer m k ≡ accepted 0 →
    (es : List Event) → ThroughoutIn (NotLoadedIn k) (after_call m (mark k)) es →
    4 ≤ total_in is_turn (after_call m (mark k)) es → 0 < total_in (is_taken_at k) (after_call m (mark k)) es
numbers-taken-by-fourth m long k a es free four =
    let t = after_call m (mark k) in
    let seventeen = call_long m (mark k) long in
    let taken : Throughout (NotLoaded k) (scene_of t) es → 4 ≤ total_of is_turn (scene_of t) es →
    0 < total_of (is_taken_at k) (scene_of t) es =
    subst
    (λ (s : Scene). Throughout (NotLoaded k) s es → 4 ≤ total_of is_turn s es → 0 < total_of (is_taken_at k) s es)
    (sym (call-held m long (mark k))) (Board.taken-by-fourth (scene_of m) k a es) in
    rw (total-held (is_taken_at k) t seventeen es)
    (taken (throughout-held (NotLoadedIn k) (NotLoaded k) (λ n e h. h) t seventeen es free)
    (rw (total-held is_turn t seventeen es) at four))

-- A place from its load on.
module _ (m : NumberScene) (seventeen : length m.numbers ≡ 17) (k start size : ℕ)
    (loads : load_answer m k start size ≡ accepted 0) where
  abbrev loaded : NumberScene
  loaded = after_call m (load k start size)

  pub four : length (board_of m.numbers).places ≡ 4
  unfolding board_of
  four = refl

  pub after-load : scene_of loaded ≡ after_event (scene_of m) (load k start size)
  after-load = call-held m seventeen (load k start size)

  still : length loaded.numbers ≡ 17
  still = call_long m (load k start size) seventeen

  below : k < 4
  below = (load-leaves-place (scene_of m) k start size 0 four loads).below

  after-all : (es : List Event) → scene_of (after_calls m (load k start size ∷ es)) ≡
      after_events (scene_of m) (load k start size ∷ es)
  after-all es = calls-held m seventeen (load k start size ∷ es)

  -- Its count tells the turns that took it since, refused runs included, and is held at its maximum.
  pub numbers-count-tells : (es : List Event) → ThroughoutIn (NotLoadedIn k) loaded es →
      Held (total_in (is_taken_at k) loaded es) (count_at (after_calls m (load k start size ∷ es)).numbers k)
  unfolding after_calls after_call
  numbers-count-tells es free =
      let w = (after_calls loaded es).numbers in
      let free' : Throughout (NotLoaded k) (after_event (scene_of m) (load k start size)) es =
      subst (λ (s : Scene). Throughout (NotLoaded k) s es) after-load
      (throughout-held (NotLoadedIn k) (NotLoaded k) (λ n e h. h) loaded still es free) in
      let small : count_at w k ≤ 4294967295 = calls-small k below loaded still es zero-count in
      let number : (place_at (board_of w) k).count ≡ count_at w k =
      ap (λ (p : Place). p.count) (place-held w k below) ∙ omega arith in
      let tells : count_at w k ≡ held (total_in (is_taken_at k) loaded es) =
      sym number ∙ ap (λ (s : Scene). (place_at s.board k).count) (after-all es) ∙
      Board.count-tells (scene_of m) k start size 0 four loads es free' ∙
      ap (λ (s : Scene). held (total_of (is_taken_at k) s es)) (sym after-load) ∙
      ap held (sym (total-held (is_taken_at k) loaded still es)) in
      rw tells (held-is (total_in (is_taken_at k) loaded es))
    where
      zero-count : count_at loaded.numbers k ≤ 4294967295
      zero-count = rw loads (omega (arith, load-count m.numbers seventeen k below start size))

  module _ (es : List Event) (free : ThroughoutIn (UntouchedIn k) loaded es) where
    pub untouched : Throughout (Untouched k) (after_event (scene_of m) (load k start size)) es
    untouched =
        subst (λ (s : Scene). Throughout (Untouched k) s es) after-load
        (throughout-held (UntouchedIn k) (Untouched k) (untouched-held k below) loaded still es free)

    -- While nobody outside changes its stretch or words no run of it is refused ..
    pub numbers-run-unless-changed : ThroughoutIn (λ n. NotFailed k (scene_of n)) loaded es
    numbers-run-unless-changed =
        throughout-back (NotFailed k) loaded still es
        (subst (λ (s : Scene). Throughout (NotFailed k) s es) (sym after-load)
        (Board.runs-unless-changed (scene_of m) k start size 0 four loads es untouched))

    abbrev image-there : List ℕ
    image-there = stretch m.images start (start + size)

    abbrev words-before : List ℤ
    words-before = place_words k m.state

    abbrev words-after : List ℤ
    words-after = place_words k (after_calls m (load k start size ∷ es)).state

    abbrev own-cycles : List Call
    own-cycles = own_cycles k (scene_of loaded) es

    as-alone : AsAlone image-there words-before words-after own-cycles
    as-alone =
        let c = Board.place-cycles (scene_of m) k start size 0 four loads es untouched in
        let cycles : own-cycles ≡ own_cycles k (after_event (scene_of m) (load k start size)) es =
        ap (λ (s : Scene). own_cycles k s es) after-load in
        record {
          resets = c.0;
          words_are =
              ap (λ (s : Scene). place_words k s.state) (after-all es) ∙
              Board.place-alone (scene_of m) k start size 0 four loads es untouched ∙
              ap (Says.after image-there (reset_of image-there words-before).left) (sym cycles);
          cycles = rw cycles c.1;
        }

    -- .. and there are its image, its words before and after, and its cycles.
    pub from-load-there :
        (image : List ℕ) × (old : List ℤ) × (words : List ℤ) × (cs : List Call) × (os : List (Outcome ℕ)) ×
        FromLoad m k start size es image old words cs os
    from-load-there =
        let p = load-room m k start size loads in
        let r = runs-there k loaded es in (
          image-there,
          words-before,
          words-after,
          r.0,
          r.1,
          record {
            seventeen = seventeen;
            loads = loads;
            untouched = free;
            stretch = stretch-there m.images start size p.0;
            before = part-there (pos 0) m.state (65 * k) 65 (omega (arith, p.1, below));
            after = part-there (pos 0) (after_calls m (load k start size ∷ es)).state (65 * k) 65 room;
            runs = r.2;
          },
        )
      where
        room : 65 * k + 65 ≤ length (after_calls m (load k start size ∷ es)).state
        room =
            let own : length words-after ≡ 65 =
            ap length as-alone.words_are ∙ after-length image-there own-cycles (reset_of image-there words-before).left ∙
            reset-length image-there words-before ∙
            words-length k m.state below (load-room m k start size loads).1 in
            omega (arith, simp (length-take, length-drop) at own)

-- The words of a place from its load on are those that a reset on its image alone and then these cycles leave; none is refused.
pub numbers-place-alone : {m : NumberScene} {k start size : ℕ} {es : List Event} {image : List ℕ} {old words : List ℤ}
    {cs : List Call} {os : List (Outcome ℕ)} → FromLoad m k start size es image old words cs os → AsAlone image old words cs
numbers-place-alone {m} {k} {start} {size} {es} {image} {old} {words} {cs} f =
    let i : stretch m.images start (start + size) ≡ image = stretch-is f.stretch in
    let o : place_words k m.state ≡ old = part-is (pos 0) m.state (65 * k) 65 f.before in
    let w : place_words k (after_calls m (load k start size ∷ es)).state ≡ words =
    part-is (pos 0) (after_calls m (load k start size ∷ es)).state (65 * k) 65 f.after in
    let c : own_cycles k (scene_of (after_call m (load k start size))) es ≡ cs =
    sym (runs-held k (call_long m (load k start size) f.seventeen) f.runs) in
    rw (i, o, w, c) at (as-alone m f.seventeen k start size f.loads es f.untouched)
