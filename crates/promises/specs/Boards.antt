-- Requests h and i: four programs on one board, turns counted for each program. On the numbers of a record, as a caller keeps
-- them; `BoardRecord` says the same of the record that they stand for.
use Rattle.std.specs.Prelude.{ℕ, ◌+◌, ◌≤◌, ◌<◌, List, [], ◌∷◌, ◌≡◌, ℤ, length}
use Rattle.board.specs.Board.{new_board, place_at, place_words, load_of, mark_place_of, idle, took, turn_of}
use Rattle.board.specs.Events.{
  Event,
  load,
  mark,
  turn,
  Scene,
  load_by,
  mark_by,
  turn_in,
  after_event,
  after_events,
  CallRefused,
  total_of,
  is_turn,
  is_taken_at,
  Throughout,
  NotLoaded,
  image_at,
  Untouched,
  OfPlace,
  Elsewhere,
  RunFault,
  NotFailed,
  own_cycles,
  held,
  Held,
}
use Rattle.board.specs.Calls.{
  NumberScene,
  scene_of,
  load_answer,
  mark_answer,
  turn_answer,
  after_call,
  after_calls,
  total_in,
  ThroughoutIn,
  NotLoadedIn,
  UntouchedIn,
  FromLoad,
  AsAlone,
}
use Rattle.board.specs.Numbers.{count_at}
use Rattle.board.specs.Record.{board_of, new_words, load_record, mark_record, turn_record, turn_done}
use Rattle.model.specs.Rules.Compile.{pair_of}
use Rattle.model.specs.Rules.Image.{image_of}
use Rattle.model.specs.Rules.Machine.{stretch, reset_of}
use Rattle.model.specs.Rules.Outcome.{Outcome, accepted, refused}
use Rattle.model.specs.Rules.Program.{Program}
use Rattle.model.specs.Rules.Reads.{settled}
use Rattle.model.specs.Rules.Schedule.{Schedule}
use Rattle.model.specs.Rules.Tail.{Bears}
use Rattle.model.specs.Rules.Word.{AreBytes}
use Rattle.model.specs.Says.Calls.{Call}
use Rattle.model.specs.Says.Calls as Calls
use Rattle.model.specs.declared.Fault.{Fault}
use Rattle.promises.specs.BoardExact.{CallExactly, Loads, LoadRefusedAt, Marks, MarkRefusedAt, Turns, TurnRefusedAt}
use Rattle.theorems_streams.specs.Held.{log_by, Supplied, Holds}
use Rattle.theorems_streams.specs.Lists.{Kept, WordsCall}
use Rattle.theorems_streams.specs.Streams.{Satisfies}

-- Of a place whose stretch holds the image of an accepted pair, with a tail or without, and whose stretch and state are not
-- changed from outside.
pub record PlaceForEver (program schedule : List ℕ) (p : Program) (q : Schedule) (h : ℕ) : Type 0 where
  -- The signals of a place are those of that program alone, stepped once per turn that ran it: with c the number of these turns
  -- it holds what demand 3 says, of every stream with the samples that they were lent for the place.
  pub place-streams : (s : Scene) (k start size n : ℕ) → length s.board.places ≡ 4 →
      (load_by s k start size).answer ≡ accepted n → (tail : List ℕ) →
      Bears (image_of p q h) tail (stretch s.images start (start + size)) → (es : List Event) →
      Throughout (Untouched k) (after_event s (load k start size)) es → (inputs X : ℕ → ℕ → ℤ) →
      let image = stretch s.images start (start + size) in
      let cycles = own_cycles k (after_event s (load k start size)) es in
      let old = place_words k s.state in
      Supplied p q (log_by image old cycles) inputs → Satisfies p (settled p q) inputs X →
      Holds p q h X old (length cycles) (place_words k (after_events s (load k start size ∷ es)).state)
  -- The same by the numbers; and each of its turns told the report's count of its position.
  pub numbers-place-streams : {m : NumberScene} {k start size : ℕ} {es : List Event} {image : List ℕ} {old words : List ℤ}
      {cs : List Call} {os : List (Outcome ℕ)} → FromLoad m k start size es image old words cs os → (tail : List ℕ) →
      Bears (image_of p q h) tail image → Kept program schedule p q h old cs os (log_by image old cs) words

-- The calls on any numbers, images and state that a caller lends.
pub record BoardCalls (m : NumberScene) : Type 0 where
  -- Loading a place resets it and clears its due mark. Turned away: 26 place above 3, first of all; fewer than 260 state words is
  -- 21, after 26 and before the rest; 27 image stretch outside its buffer, before 20.
  pub load-exactly : (k start size : ℕ) →
      CallExactly m (Loads m k start size) (LoadRefusedAt m k start size) (load_answer m k start size)
      (after_call m (load k start size))
  -- Turned away: 28 marking a place never loaded, after 26.
  pub mark-exactly : (k : ℕ) →
      CallExactly m (Marks m k) (MarkRefusedAt m k) (mark_answer m k) (after_call m (mark k))
  -- A turn runs the next due place in cyclic order after the one last taken, and clears its mark; a run refused 20, 22 or 27 does
  -- the same, counts as taken and leaves the state. Fewer than 260 state words is 21, fewer than 256 samples 23, and such a turn
  -- takes no place.
  pub turn-exactly : (samples : List ℤ) →
      CallExactly m (Turns m samples) (TurnRefusedAt m samples) (turn_answer m samples) (after_call m (turn samples))

pub record RequestH : Type 0 where
  -- Each call is done, or refused with each number, exactly under its condition with all earlier ones absent.
  pub calls-exactly : (m : NumberScene) → length m.numbers ≡ 17 → BoardCalls m
  -- Where each call gets the record as the last one left it, a due place not loaded again is taken by the fourth turn after its
  -- mark at the latest, turns refused 21 or 23 left out, whichever places the others mark.
  pub numbers-taken-by-fourth : (m : NumberScene) → length m.numbers ≡ 17 → (k : ℕ) → mark_answer m k ≡ accepted 0 →
      (es : List Event) → ThroughoutIn (NotLoadedIn k) (after_call m (mark k)) es →
      4 ≤ total_in is_turn (after_call m (mark k)) es → 0 < total_in (is_taken_at k) (after_call m (mark k)) es
  -- While its stretch and state are not changed from outside, the signals of a place are those of that program alone, stepped
  -- once per turn that ran it ..
  pub numbers-place-alone : {m : NumberScene} {k start size : ℕ} {es : List Event} {image : List ℕ} {old words : List ℤ}
      {cs : List Call} {os : List (Outcome ℕ)} → FromLoad m k start size es image old words cs os → AsAlone image old words cs
  -- .. no run of it is refused ..
  pub numbers-run-unless-changed : (m : NumberScene) → length m.numbers ≡ 17 → (k start size : ℕ) →
      load_answer m k start size ≡ accepted 0 → (es : List Event) →
      ThroughoutIn (UntouchedIn k) (after_call m (load k start size)) es →
      ThroughoutIn (λ n. NotFailed k (scene_of n)) (after_call m (load k start size)) es
  -- .. and there are its image, its words before and after, and its cycles.
  pub from-load-there : (m : NumberScene) → length m.numbers ≡ 17 → (k start size : ℕ) →
      load_answer m k start size ≡ accepted 0 → (es : List Event) →
      ThroughoutIn (UntouchedIn k) (after_call m (load k start size)) es →
      (image : List ℕ) × (old : List ℤ) × (words : List ℤ) × (cs : List Call) × (os : List (Outcome ℕ)) ×
      FromLoad m k start size es image old words cs os
  -- With the image of an accepted pair: what its equations give.
  pub of-place : (program schedule : List ℕ) → AreBytes program → (p : Program) (q : Schedule) (h : ℕ) →
      pair_of program schedule ≡ accepted (record { program = p; schedule = q; hypercycle = h }) →
      PlaceForEver program schedule p q h
  -- A load and a turn of any board are calls that may stand in a list of demand 3: refused, they leave the words that they are
  -- lent. A turn that is not refused answers 0 there.
  pub lent-load : (numbers images : List ℕ) (k start size : ℕ) →
      (c : WordsCall) × ((words : List ℤ) →
      let r = load_of (board_of numbers) images words k start size in
      c.makes words ≡ record { answer = r.answer; left = r.left })
  pub lent-turn : (numbers images : List ℕ) (samples : List ℤ) →
      (c : WordsCall) × ((words : List ℤ) →
      let r = turn_of (board_of numbers) images words samples in
      c.makes words ≡ record { answer = turn_done r.answer; left = r.left })

pub record RequestI : Type 0 where
  -- Four counts, each for its place, held at its maximum and set to 0 when the place is loaded. Each tells the turns that took
  -- its place since that load, refused runs included.
  pub numbers-count-tells : (m : NumberScene) → length m.numbers ≡ 17 → (k start size : ℕ) →
      load_answer m k start size ≡ accepted 0 → (es : List Event) →
      ThroughoutIn (NotLoadedIn k) (after_call m (load k start size)) es →
      Held (total_in (is_taken_at k) (after_call m (load k start size)) es)
      (count_at (after_calls m (load k start size ∷ es)).numbers k)

-- The same over the record that the numbers stand for (`board_of`): any list of events, calls that each get the record as the last
-- one left it, and changes of images and state from outside.
pub record BoardRecord : Type 0 where
  -- The numbers that a call leaves stand for the record that its definition leaves.
  pub new-held : board_of new_words ≡ new_board
  pub load-held : (w : List ℕ) → length w ≡ 17 → (images : List ℕ) (state : List ℤ) (k start size : ℕ) →
      let r = load_of (board_of w) images state k start size in
      board_of (load_record w k start size r.answer) ≡ r.board
  pub mark-held : (w : List ℕ) → length w ≡ 17 → (k : ℕ) →
      let r = mark_place_of (board_of w) k in
      board_of (mark_record w k r.answer) ≡ r.board
  pub turn-held : (w : List ℕ) → length w ≡ 17 → (images : List ℕ) (state samples : List ℤ) →
      let r = turn_of (board_of w) images state samples in
      board_of (turn_record w r.answer) ≡ r.board
  -- A refused call changes nothing, the record included, and so does an idle turn.
  pub board-keeps : (s : Scene) (e : Event) (f : Fault) → CallRefused s e f → after_event s e ≡ s
  pub idle-keeps : (s : Scene) (samples : List ℤ) → turn_in s samples ≡ accepted idle → after_event s (turn samples) ≡ s
  -- A load, a mark or a turn of one place changes no word and nothing in the record of another, and no word beyond the 260.
  pub others-untouched : (s : Scene) (e : Event) (k : ℕ) → OfPlace k s e → Elsewhere k s (after_event s e)
  -- A due place not loaded again is taken by the fourth turn after its mark at the latest.
  pub taken-by-fourth : (s : Scene) (k : ℕ) → (mark_by s k).answer ≡ accepted 0 → (es : List Event) →
      Throughout (NotLoaded k) (after_event s (mark k)) es → 4 ≤ total_of is_turn (after_event s (mark k)) es →
      0 < total_of (is_taken_at k) (after_event s (mark k)) es
  -- While its stretch and state are not changed from outside, the words of a place are those of its image alone, stepped by one
  -- cycle for each turn that ran it ..
  pub place-steps : (s : Scene) (k : ℕ) → k < 4 → (es : List Event) → Throughout (Untouched k) s es →
      place_words k (after_events s es).state ≡ Calls.after (image_at s.board s.images k) (place_words k s.state)
      (own_cycles k s es)
  -- .. and from a load on those that a reset on that image, and then these cycles, leave ..
  pub place-alone : (s : Scene) (k start size n : ℕ) → length s.board.places ≡ 4 →
      (load_by s k start size).answer ≡ accepted n → (es : List Event) →
      Throughout (Untouched k) (after_event s (load k start size)) es →
      let image = stretch s.images start (start + size) in
      place_words k (after_events s (load k start size ∷ es)).state ≡
      Calls.after image (reset_of image (place_words k s.state)).left (own_cycles k (after_event s (load k start size)) es)
  -- .. each of which is accepted.
  pub place-cycles : (s : Scene) (k start size n : ℕ) → length s.board.places ≡ 4 →
      (load_by s k start size).answer ≡ accepted n → (es : List Event) →
      Throughout (Untouched k) (after_event s (load k start size)) es →
      let image = stretch s.images start (start + size) in
      let cycles = own_cycles k (after_event s (load k start size)) es in
      ((reset_of image (place_words k s.state)).answer ≡ accepted 0) ×
      (length (Calls.log_after image (reset_of image (place_words k s.state)).left [] cycles) ≡ length cycles)
  -- A run is refused 20, 22 or 27 alone ..
  pub run-faults : (s : Scene) (samples : List ℤ) (k : ℕ) (f : Fault) → turn_in s samples ≡ accepted (took k (refused f)) →
      RunFault f
  -- .. because the image buffer or the state changed since loading.
  pub runs-unless-changed : (s : Scene) (k start size n : ℕ) → length s.board.places ≡ 4 →
      (load_by s k start size).answer ≡ accepted n → (es : List Event) →
      Throughout (Untouched k) (after_event s (load k start size)) es →
      Throughout (NotFailed k) (after_event s (load k start size)) es
  -- Each count tells the turns that took its place since that load, refused runs included, held at its maximum.
  pub count-tells : (s : Scene) (k start size n : ℕ) → length s.board.places ≡ 4 →
      (load_by s k start size).answer ≡ accepted n → (es : List Event) →
      Throughout (NotLoaded k) (after_event s (load k start size)) es →
      (place_at (after_events s (load k start size ∷ es)).board k).count ≡
      held (total_of (is_taken_at k) (after_event s (load k start size)) es)
