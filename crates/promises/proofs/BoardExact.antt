-- Load, mark and turn do their job, and are refused with each number, exactly under the stated conditions. Assumes nothing.
use Rattle.std.specs.Prelude.{Option, Some, None}
use Prim.Native.Nat.{ℕ, ◌+◌, ◌*◌, ◌≤◌, ◌<◌}
use mathlib.Core.Bool.{Bool, true, false}
use mathlib.Core.List.{List}
use mathlib.Core.Path.{◌≡◌, refl, sym, ap, subst, ◌∙◌}
use native.Mathlib.Omega.{arith}
use borrow.Author.Tests.{ltb-true, ltb-false, leb-true, leb-false}
use lib.Dec.{leb, ltb}
use lib.IntN.{ℤ, pos}
use lib.ListN.{length}
use Rattle.model.specs.Rules.Machine.{Effect, stretch, reset_of, cycle_of}
use Rattle.model.specs.Rules.Outcome.{Outcome, accepted, refused, fault}
use Rattle.model.specs.declared.Fault.{Fault}
use Rattle.theorems_calls.specs.Exactness.{ResetRefusedAt, Cycles, CycleRefusedAt}
use Rattle.theorems_images.specs.WellFormed.{WellLent}
use Rattle.theorems_calls.proofs.CallsExact.{reset-exactly, cycle-exactly}
use Rattle.board.specs.Board.{
  place_at,
  place_words,
  place_samples,
  with_words,
  next_due,
  on_stretch,
  reset_in,
  run_of,
  BoardEffect,
  Yield,
  idle,
  took,
  load_of,
  mark_place_of,
  turn_with,
  turn_of,
  taken_at,
}
use Rattle.board.specs.Events.{load, mark, turn}
use Rattle.board.specs.Calls.{NumberScene, load_answer, mark_answer, turn_answer, after_call}
use Rattle.board.specs.Numbers.{StretchIs, OwnWords, WordsSet, NoneDue, flags_at, start_at, size_at}
use Rattle.board.specs.Record.{board_of, taken_words, load_record, mark_record, turn_record}
use Rattle.promises.specs.Boards.{BoardCalls}
use Rattle.promises.specs.BoardExact.{
  CallExactly,
  Loads,
  LoadRefusedAt,
  Marks,
  MarkRefusedAt,
  RunLent,
  RunRefusedAt,
  Takes,
  Turns,
  TurnRefusedAt,
}
use Rattle.board.proofs.Called.{
  board_done,
  load-place,
  load-state,
  load-refused,
  load-done,
  mark-place,
  mark-loaded,
  mark-done,
  turn-state,
  turn-samples,
  turn-done,
}
use Rattle.board.proofs.Due.{next-below}
use Rattle.board.proofs.Stretch.{answer_of, left_of, never, outside-27, inside-runs, reset-length, cycle-of-length}
use Rattle.board.proofs.Words.{words_same, words-length, samples-length}
use Rattle.board.proofs.Places.{loaded-held, run-held}
use Rattle.board.proofs.Numbers.{
  part-there,
  part-one,
  stretch-there,
  words-set,
  words-set-one,
  place-set-one,
  loaded-true,
  loaded-false,
  loaded-set,
  marked-set,
  taken-set,
  taken-set-one,
  next_place,
  next-none,
  next_one,
}

-- How a call ends: done as said, or refused as said and leaving what was lent.
data Ends {A : Type 0} (m : NumberScene) (Done : A → NumberScene → Type 0) (Refused : Fault → Type 0) (answer : Outcome A)
    (after : NumberScene) : Type 0 where
  does : (a : A) → answer ≡ accepted a → Done a after → Ends m Done Refused answer after
  stays : (f : Fault) → answer ≡ refused f → Refused f → after ≡ m → Ends m Done Refused answer after

-- Where what is said allows one end only, the call ends so exactly if it is said.
module _ {A : Type 0} {m : NumberScene} {Done : A → NumberScene → Type 0} {Refused : Fault → Type 0} {answer : Outcome A}
    {after : NumberScene} where
  exactly : Ends m Done Refused answer after →
      ((a b : A) (l l' : NumberScene) → Done a l → Done b l' → (a ≡ b) × (l ≡ l')) →
      ((f g : Fault) → Refused f → Refused g → f ≡ g) → ((a : A) (l : NumberScene) (f : Fault) → Done a l → Refused f → ⊥) →
      CallExactly m Done Refused answer after
  exactly (does b e d) one only apart =
      record {
        done =
            λ a left. (
              λ q. let same : b ≡ a = cc (sym e ∙ q.0) in
                  subst (λ (x : A). Done x left) same (subst (Done b) q.1 d),
              λ x. let s = one b a after left d x in (e ∙ ap accepted s.0, s.1),
            );
        refuses = λ f left. (λ q. absurd (never b f (sym e ∙ q.0)), λ r. absurd (apart b after f d r.0));
      }
  exactly (stays g e r same) one only apart =
      record {
        done = λ a left. (λ q. absurd (never a g (sym q.0 ∙ e)), λ x. absurd (apart a left g x r));
        refuses =
            λ f left. (
              λ q. let z : g ≡ f = cc (sym e ∙ q.0) in (subst Refused z r, sym q.1 ∙ same),
              λ x. (e ∙ ap refused (only g f r x.0), same ∙ sym x.1),
            );
      }

scenes-same : {l r : NumberScene} → l.numbers ≡ r.numbers → l.images ≡ r.images → l.state ≡ r.state → l ≡ r
scenes-same p q s = λ i. record { numbers = p i; images = q i; state = s i }

abbrev called : BoardEffect ℕ → Outcome ℕ
called c = c.answer

own-words : (k : ℕ) (state : List ℤ) → k < 4 → 260 ≤ length state → OwnWords k state (place_words k state)
own-words k state lt le = part-there (pos 0) state (65 * k) 65 (omega arith)

module _ (m : NumberScene) (seventeen : length m.numbers ≡ 17) where
  module _ (k start size : ℕ) where
    abbrev before : List ℤ
    before = place_words k m.state

    abbrev image : List ℕ
    image = stretch m.images start (start + size)

    abbrev reset : Effect ℕ ℤ
    reset = reset_in m.images start size before

    abbrev LoadEndsAt : NumberScene → Type 0
    LoadEndsAt = Ends m (Loads m k start size) (LoadRefusedAt m k start size) (load_answer m k start size)

    abbrev LoadEnds : Type 0
    LoadEnds = LoadEndsAt (after_call m (load k start size))

    -- A load that has come to an effect.
    by-load : {c : BoardEffect ℕ} → load_of (board_of m.numbers) m.images m.state k start size ≡ c →
        LoadEndsAt (record {
          numbers = load_record m.numbers k start size c.answer;
          images = m.images;
          state = c.left;
        }) → LoadEnds
    unfolding after_call
    by-load e =
        subst (λ (c : BoardEffect ℕ). LoadEndsAt (record {
          numbers = load_record m.numbers k start size c.answer;
          images = m.images;
          state = c.left;
        })) (sym e)

    module _ (p : ltb k 4 ≡ true) (q : leb 260 (length m.state) ≡ true)
        (inside : leb (start + size) (length m.images) ≡ true) where
      lt : k < 4
      lt = ltb-true k 4 p

      le : 260 ≤ length m.state
      le = leb-true 260 (length m.state) q

      lies : StretchIs m.images start size image
      lies = stretch-there m.images start size (leb-true (start + size) (length m.images) inside)

      reset-is : reset ≡ reset_of image before
      reset-is = inside-runs m.images start size before (λ i. reset_of i before) inside

      load-fault : {f : Fault} → ResetRefusedAt image before f → LoadRefusedAt m k start size f
      load-fault (ResetRefusedAt.unformed none) = LoadRefusedAt.unformed lt le lies none
      load-fault (ResetRefusedAt.short lends few) =
          absurd (omega (arith, lends.formed.signals, words-length k m.state lt le))

      reset-ends : (o : Outcome ℕ) → (reset_of image before).answer ≡ o → LoadEnds
      reset-ends (accepted n) h =
          let e = load-done (board_of m.numbers) m.images m.state k start size p q n (ap answer_of reset-is ∙ h) in
          let long : length reset.left ≡ 65 =
          ap (λ (x : Effect ℕ ℤ). length x.left) reset-is ∙ reset-length image before ∙ words-length k m.state lt le in
          by-load e
          (does n (ap called e)
          (record {
            place = lt;
            long = le;
            image = image;
            stretch = lies;
            old = before;
            words = reset.left;
            own = own-words k m.state lt le;
            resets = ((reset-exactly image before).done n reset.left).0 (h, sym (ap left_of reset-is));
            numbers = loaded-set m.numbers seventeen k lt start size;
            images = refl;
            state = words-set k m.state reset.left lt le long;
          }))
      reset-ends (refused f) h =
          let e = load-refused (board_of m.numbers) m.images m.state k start size p q f (ap answer_of reset-is ∙ h) in
          by-load e
          (stays f (ap called e)
          (load-fault (((reset-exactly image before).refuses f (reset_of image before).left).0 (h, refl)).0) refl)

    load-ends : LoadEnds
    load-ends = place (ltb k 4) refl
      where
        stretched : ltb k 4 ≡ true → leb 260 (length m.state) ≡ true → (t : Bool) →
            leb (start + size) (length m.images) ≡ t → LoadEnds
        stretched p q true r = reset-ends p q r (reset_of image before).answer refl
        stretched p q false r =
            let e =
            load-refused (board_of m.numbers) m.images m.state k start size p q (fault 27 0)
            (ap answer_of (outside-27 m.images start size before (λ i. reset_of i before) r)) in
            by-load e
            (stays (fault 27 0) (ap called e)
            (LoadRefusedAt.outside (ltb-true k 4 p) (leb-true 260 (length m.state) q)
            (leb-false (start + size) (length m.images) r)) refl)

        words : ltb k 4 ≡ true → (t : Bool) → leb 260 (length m.state) ≡ t → LoadEnds
        words p true q = stretched p q (leb (start + size) (length m.images)) refl
        words p false q =
            let e = load-state (board_of m.numbers) m.images m.state k start size p q in
            by-load e
            (stays (fault 21 0) (ap called e)
            (LoadRefusedAt.short (omega (arith, ltb-true k 4 p)) (leb-false 260 (length m.state) q)) refl)

        place : (t : Bool) → ltb k 4 ≡ t → LoadEnds
        place true p = words p (leb 260 (length m.state)) refl
        place false p =
            let e = load-place (board_of m.numbers) m.images m.state k start size p in
            by-load e (stays (fault 26 0) (ap called e) (LoadRefusedAt.no_place (ltb-false k 4 p)) refl)

    loads-one : (a b : ℕ) (l r : NumberScene) → Loads m k start size a l → Loads m k start size b r → (a ≡ b) × (l ≡ r)
    loads-one a b l r p q =
        let same = part-one 0 m.images start size q.stretch p.stretch in
        let old = part-one (pos 0) m.state (65 * k) 65 q.own p.own in
        let x = ((reset-exactly p.image p.old).done a p.words).1 p.resets in
        let y = ((reset-exactly p.image p.old).done b q.words).1 (rw (same, old) at q.resets) in
        let n : a ≡ b = cc in
        let words : q.words ≡ p.words = sym y.1 ∙ x.1 in (
          n,
          scenes-same (place-set-one seventeen p.place p.numbers q.numbers) (p.images ∙ sym q.images)
              (words-set-one p.state (rw words at q.state)),
        )

    load-faults-one : (f g : Fault) → LoadRefusedAt m k start size f → LoadRefusedAt m k start size g → f ≡ g
    load-faults-one f g x y = go x y
      where
        go : {f g : Fault} → LoadRefusedAt m k start size f → LoadRefusedAt m k start size g → f ≡ g
        go (LoadRefusedAt.no_place a) (LoadRefusedAt.no_place b) = refl
        go (LoadRefusedAt.no_place a) (LoadRefusedAt.short b c) = absurd (omega arith)
        go (LoadRefusedAt.no_place a) (LoadRefusedAt.outside b c d) = absurd (omega arith)
        go (LoadRefusedAt.no_place a) (LoadRefusedAt.unformed b c s d) = absurd (omega arith)
        go (LoadRefusedAt.short a b) (LoadRefusedAt.no_place c) = absurd (omega arith)
        go (LoadRefusedAt.short a b) (LoadRefusedAt.short c d) = refl
        go (LoadRefusedAt.short a b) (LoadRefusedAt.outside c d e) = absurd (omega arith)
        go (LoadRefusedAt.short a b) (LoadRefusedAt.unformed c d s e) = absurd (omega arith)
        go (LoadRefusedAt.outside a b c) (LoadRefusedAt.no_place d) = absurd (omega arith)
        go (LoadRefusedAt.outside a b c) (LoadRefusedAt.short d e) = absurd (omega arith)
        go (LoadRefusedAt.outside a b c) (LoadRefusedAt.outside d e h) = refl
        go (LoadRefusedAt.outside a b c) (LoadRefusedAt.unformed d e s h) = absurd (omega (arith, s.inside))
        go (LoadRefusedAt.unformed a b s c) (LoadRefusedAt.no_place d) = absurd (omega arith)
        go (LoadRefusedAt.unformed a b s c) (LoadRefusedAt.short d e) = absurd (omega arith)
        go (LoadRefusedAt.unformed a b s c) (LoadRefusedAt.outside d e h) = absurd (omega (arith, s.inside))
        go (LoadRefusedAt.unformed a b s c) (LoadRefusedAt.unformed d e z h) = refl

    load_apart : (n : ℕ) (l : NumberScene) (f : Fault) → Loads m k start size n l → LoadRefusedAt m k start size f → ⊥
    load_apart n l f d (LoadRefusedAt.no_place a) = omega (arith, d.place)
    load_apart n l f d (LoadRefusedAt.short a b) = omega (arith, d.long)
    load_apart n l f d (LoadRefusedAt.outside a b c) = omega (arith, d.stretch.inside)
    load_apart n l f d (LoadRefusedAt.unformed a b s none) =
        none d.resets.image
        (subst (λ (i : List ℕ). WellLent i d.resets.image) (part-one 0 m.images start size d.stretch s)
        d.resets.usable.lends)

  module _ (k : ℕ) where
    abbrev MarkEndsAt : NumberScene → Type 0
    MarkEndsAt = Ends m (Marks m k) (MarkRefusedAt m k) (mark_answer m k)

    abbrev MarkEnds : Type 0
    MarkEnds = MarkEndsAt (after_call m (mark k))

    by-mark : {c : BoardEffect ℕ} → mark_place_of (board_of m.numbers) k ≡ c →
        MarkEndsAt (record { numbers = mark_record m.numbers k c.answer; images = m.images; state = m.state }) → MarkEnds
    unfolding after_call
    by-mark e =
        subst (λ (c : BoardEffect ℕ). MarkEndsAt (record {
          numbers = mark_record m.numbers k c.answer;
          images = m.images;
          state = m.state;
        })) (sym e)

    mark-ends : MarkEnds
    mark-ends = place (ltb k 4) refl
      where
        loaded : ltb k 4 ≡ true → (t : Bool) → (place_at (board_of m.numbers) k).loaded ≡ t → MarkEnds
        loaded p true q =
            let lt = ltb-true k 4 p in
            let e = mark-done (board_of m.numbers) k p q in
            by-mark e
            (does 0 (ap called e)
            (record {
              place = lt;
              loaded = loaded-true (flags_at m.numbers k) (sym (loaded-held m.numbers k lt) ∙ q);
              is = refl;
              numbers = marked-set m.numbers seventeen k lt;
              images = refl;
              state = refl;
            }))
        loaded p false q =
            let lt = ltb-true k 4 p in
            let e = mark-loaded (board_of m.numbers) k p q in
            by-mark e
            (stays (fault 28 0) (ap called e)
            (MarkRefusedAt.unloaded (omega arith)
            (loaded-false (flags_at m.numbers k) (sym (loaded-held m.numbers k lt) ∙ q))) refl)

        place : (t : Bool) → ltb k 4 ≡ t → MarkEnds
        place true p = loaded p (place_at (board_of m.numbers) k).loaded refl
        place false p =
            let e = mark-place (board_of m.numbers) k p in
            by-mark e (stays (fault 26 0) (ap called e) (MarkRefusedAt.no_place (ltb-false k 4 p)) refl)

    marks-one : (a b : ℕ) (l r : NumberScene) → Marks m k a l → Marks m k b r → (a ≡ b) × (l ≡ r)
    marks-one a b l r p q = (
      p.is ∙ sym q.is,
      scenes-same (place-set-one seventeen p.place p.numbers q.numbers) (p.images ∙ sym q.images)
          (p.state ∙ sym q.state),
    )

    mark-faults-one : (f g : Fault) → MarkRefusedAt m k f → MarkRefusedAt m k g → f ≡ g
    mark-faults-one f g x y = go x y
      where
        go : {f g : Fault} → MarkRefusedAt m k f → MarkRefusedAt m k g → f ≡ g
        go (MarkRefusedAt.no_place a) (MarkRefusedAt.no_place b) = refl
        go (MarkRefusedAt.no_place a) (MarkRefusedAt.unloaded b c) = absurd (omega arith)
        go (MarkRefusedAt.unloaded a b) (MarkRefusedAt.no_place c) = absurd (omega arith)
        go (MarkRefusedAt.unloaded a b) (MarkRefusedAt.unloaded c d) = refl

    mark-apart : (n : ℕ) (l : NumberScene) (f : Fault) → Marks m k n l → MarkRefusedAt m k f → ⊥
    mark-apart n l f d (MarkRefusedAt.no_place a) = omega (arith, d.place)
    mark-apart n l f d (MarkRefusedAt.unloaded a b) = b d.loaded

  module _ (samples : List ℤ) where
    abbrev TurnEndsAt : NumberScene → Type 0
    TurnEndsAt = Ends m (Turns m samples) (TurnRefusedAt m samples) (turn_answer m samples)

    abbrev TurnEnds : Type 0
    TurnEnds = TurnEndsAt (after_call m (turn samples))

    by_turn : {c : BoardEffect Yield} → turn_of (board_of m.numbers) m.images m.state samples ≡ c →
        TurnEndsAt (record { numbers = turn_record m.numbers c.answer; images = m.images; state = c.left }) → TurnEnds
    unfolding after_call
    by_turn e =
        subst (λ (c : BoardEffect Yield). TurnEndsAt (record {
          numbers = turn_record m.numbers c.answer;
          images = m.images;
          state = c.left;
        })) (sym e)

    module _ (p : leb 260 (length m.state) ≡ true) (q : leb 256 (length samples) ≡ true) (k : ℕ)
        (d : next_due (board_of m.numbers) ≡ Some k) where
      below : k < 4
      below = next-below (board_of m.numbers) k d

      room : 260 ≤ length m.state
      room = leb-true 260 (length m.state) p

      enough : 256 ≤ length samples
      enough = leb-true 256 (length samples) q

      abbrev start_of : ℕ
      start_of = start_at m.numbers k

      abbrev size_of : ℕ
      size_of = size_at m.numbers k

      abbrev words : List ℤ
      words = place_words k m.state

      abbrev own : List ℤ
      own = place_samples k samples

      abbrev loaded : List ℕ
      loaded = stretch m.images start_of (start_of + size_of)

      abbrev run : Effect ℕ ℤ
      run = run_of (board_of m.numbers) m.images m.state samples k

      on-stretch : run ≡ on_stretch m.images start_of size_of words (λ i. cycle_of i words own)
      on-stretch = run-held m.numbers m.images m.state samples k below

      turned : turn_of (board_of m.numbers) m.images m.state samples ≡
          board_done (took k run.answer) (taken_at (board_of m.numbers) k) (with_words k m.state run.left)
      unfolding turn_with
      turned = turn-done (board_of m.numbers) m.images m.state samples p q (Some k) d

      takes : (state : List ℤ) →
          Takes m samples k (record { numbers = taken_words m.numbers k; images = m.images; state = state })
      takes state =
          record {
            long = room;
            enough = enough;
            next = next_place m.numbers k d;
            numbers = taken-set m.numbers seventeen k below;
            images = refl;
          }

      answers : (o : Outcome ℕ) → run.answer ≡ o → turn_answer m samples ≡ accepted (took k o)
      answers o h = ap (λ (x : BoardEffect Yield). x.answer) turned ∙ ap (λ (o : Outcome ℕ). accepted (took k o)) h

      fails-so : (f : Fault) → run.answer ≡ refused f → run.left ≡ words → RunRefusedAt m samples k f → TurnEnds
      fails-so f h left r =
          by_turn turned
          (does (took k (refused f)) (answers (refused f) h)
          (Turns.fails (takes (with_words k m.state run.left)) r
          (ap (with_words k m.state) left ∙ words_same k m.state)))

      module _ (inside : leb (start_of + size_of) (length m.images) ≡ true) where
        lent : RunLent m samples k loaded words own
        lent =
            record {
              stretch =
                  stretch-there m.images start_of size_of (leb-true (start_of + size_of) (length m.images) inside);
              words_are = own-words k m.state below room;
              samples-are = part-there (pos 0) samples (64 * k) 64 (omega (arith, below, enough));
            }

        run_is : run ≡ cycle_of loaded words own
        run_is = on-stretch ∙ inside-runs m.images start_of size_of words (λ i. cycle_of i words own) inside

        run-fault : {f : Fault} → CycleRefusedAt loaded words own f → RunRefusedAt m samples k f
        run-fault (CycleRefusedAt.unready (ResetRefusedAt.unformed none)) = RunRefusedAt.unformed lent none
        run-fault (CycleRefusedAt.unready (ResetRefusedAt.short lends few)) =
            absurd (omega (arith, lends.formed.signals, words-length k m.state below room))
        run-fault (CycleRefusedAt.outside usable none) = RunRefusedAt.unpositioned lent usable none
        run-fault (CycleRefusedAt.unsampled usable positioned few) =
            absurd (omega (arith, usable.lends.formed.signals, samples-length k samples below enough))

        run_ends : (o : Outcome ℕ) → (cycle_of loaded words own).answer ≡ o → TurnEnds
        run_ends (accepted n) h =
            let long : length run.left ≡ 65 =
            ap (λ (x : Effect ℕ ℤ). length x.left) run_is ∙ cycle-of-length loaded words own ∙
            words-length k m.state below room in
            by_turn turned
            (does (took k (accepted n)) (answers (accepted n) (ap answer_of run_is ∙ h))
            (Turns.runs (takes (with_words k m.state run.left)) lent
            (((cycle-exactly loaded words own).done n run.left).0 (h, sym (ap left_of run_is)))
            (words-set k m.state run.left below room long)))
        run_ends (refused f) h =
            let x = ((cycle-exactly loaded words own).refuses f (cycle_of loaded words own).left).0 (h, refl) in
            fails-so f (ap answer_of run_is ∙ h) (ap left_of run_is ∙ x.1) (run-fault x.0)

      place-ends : (t : Bool) → leb (start_of + size_of) (length m.images) ≡ t → TurnEnds
      place-ends true e = run_ends e (cycle_of loaded words own).answer refl
      place-ends false e =
          let x = on-stretch ∙ outside-27 m.images start_of size_of words (λ i. cycle_of i words own) e in
          fails-so (fault 27 0) (ap answer_of x) (ap left_of x)
          (RunRefusedAt.outside (leb-false (start_of + size_of) (length m.images) e))

    turn-ends : TurnEnds
    unfolding turn_with
    turn-ends = state-long (leb 260 (length m.state)) refl
      where
        due : leb 260 (length m.state) ≡ true → leb 256 (length samples) ≡ true → (d : Option ℕ) →
            next_due (board_of m.numbers) ≡ d → TurnEnds
        due p q (Some k) d =
            place-ends p q k d (leb (start_at m.numbers k + size_at m.numbers k) (length m.images)) refl
        due p q None d =
            let e = turn-done (board_of m.numbers) m.images m.state samples p q None d in
            by_turn e
            (does idle (ap (λ (x : BoardEffect Yield). x.answer) e)
            (Turns.idles (leb-true 260 (length m.state) p) (leb-true 256 (length samples) q) (next-none m.numbers d) refl))

        lent-many : leb 260 (length m.state) ≡ true → (t : Bool) → leb 256 (length samples) ≡ t → TurnEnds
        lent-many p true q = due p q (next_due (board_of m.numbers)) refl
        lent-many p false q =
            let e = turn-samples (board_of m.numbers) m.images m.state samples p q in
            by_turn e
            (stays (fault 23 0) (ap (λ (x : BoardEffect Yield). x.answer) e)
            (TurnRefusedAt.few (omega (arith, leb-true 260 (length m.state) p)) (leb-false 256 (length samples) q)) refl)

        state-long : (t : Bool) → leb 260 (length m.state) ≡ t → TurnEnds
        state-long true p = lent-many p (leb 256 (length samples)) refl
        state-long false p =
            let e = turn-state (board_of m.numbers) m.images m.state samples p in
            by_turn e
            (stays (fault 21 0) (ap (λ (x : BoardEffect Yield). x.answer) e)
            (TurnRefusedAt.short (leb-false 260 (length m.state) p)) refl)

    -- What is lent to a run is one, and so is its end.
    module _ (k : ℕ) where
      abbrev Lent : List ℕ → List ℤ → List ℤ → Type 0
      Lent image words own = RunLent m samples k image words own

      images-one : {i j : List ℕ} {v w x y : List ℤ} → Lent i v x → Lent j w y → i ≡ j
      images-one a b =
          part-one 0 m.images (start_at m.numbers k) (size_at m.numbers k) a.stretch b.stretch

      words-one : {i j : List ℕ} {v w x y : List ℤ} → Lent i v x → Lent j w y → v ≡ w
      words-one a b = part-one (pos 0) m.state (65 * k) 65 a.words_are b.words_are

      samples-one : {i j : List ℕ} {v w x y : List ℤ} → Lent i v x → Lent j w y → x ≡ y
      samples-one a b = part-one (pos 0) samples (64 * k) 64 a.samples-are b.samples-are

      run-apart : {n : ℕ} {f : Fault} {i : List ℕ} {v x w : List ℤ} → Lent i v x → Cycles i v x n w →
          RunRefusedAt m samples k f → ⊥
      run-apart a c (RunRefusedAt.outside lt) = omega (arith, a.stretch.inside)
      run-apart a c (RunRefusedAt.unformed b none) =
          none c.image (rw (images-one a b) at c.usable.lends)
      run-apart {n} {f} {i} {v} {x} {w} a c (RunRefusedAt.unpositioned b usable none) =
          never n (fault 22 0)
          (sym (((cycle-exactly i v x).done n w).1 c).0 ∙
          (((cycle-exactly i v x).refuses (fault 22 0) v).1 (
            CycleRefusedAt.outside (rw (images-one b a, words-one b a) at usable)
                (rw (images-one b a, words-one b a) at none),
            refl,
          )).0)

      run-faults-one : {f g : Fault} → RunRefusedAt m samples k f → RunRefusedAt m samples k g → f ≡ g
      run-faults-one (RunRefusedAt.outside a) (RunRefusedAt.outside b) = refl
      run-faults-one (RunRefusedAt.outside a) (RunRefusedAt.unformed b h) = absurd (omega (arith, b.stretch.inside))
      run-faults-one (RunRefusedAt.outside a) (RunRefusedAt.unpositioned b u h) = absurd (omega (arith, b.stretch.inside))
      run-faults-one (RunRefusedAt.unformed a h) (RunRefusedAt.outside b) = absurd (omega (arith, a.stretch.inside))
      run-faults-one (RunRefusedAt.unformed a h) (RunRefusedAt.unformed b i) = refl
      run-faults-one (RunRefusedAt.unformed a h) (RunRefusedAt.unpositioned b u i) =
          absurd (h _ (rw (images-one b a) at u.lends))
      run-faults-one (RunRefusedAt.unpositioned a u h) (RunRefusedAt.outside b) = absurd (omega (arith, a.stretch.inside))
      run-faults-one (RunRefusedAt.unpositioned a u h) (RunRefusedAt.unformed b i) =
          absurd (i _ (rw (images-one a b) at u.lends))
      run-faults-one (RunRefusedAt.unpositioned a u h) (RunRefusedAt.unpositioned b v i) = refl

      takes_one : {l r : NumberScene} → Takes m samples k l → Takes m samples k r → l.state ≡ r.state → l ≡ r
      takes_one a b e =
          scenes-same (taken-set-one m.numbers seventeen k a.next.ahead.place a.numbers b.numbers)
          (a.images ∙ sym b.images) e

      runs-one : {n o : ℕ} {i j : List ℕ} {v w x y a b : List ℤ} {l r : NumberScene} → Takes m samples k l → Lent i v x →
          Cycles i v x n a → WordsSet k m.state a l.state → Takes m samples k r → Lent j w y → Cycles j w y o b →
          WordsSet k m.state b r.state → (n ≡ o) × (l ≡ r)
      runs-one {n} {o} {i} {j} {v} {w} {x} {y} {a} {b} t lends c s t' lends' c' s' =
          let p = ((cycle-exactly i v x).done n a).1 c in
          let q =
          ((cycle-exactly i v x).done o b).1
          (rw (images-one lends' lends, words-one lends' lends, samples-one lends' lends) at c') in
          let same : n ≡ o = cc (sym p.0 ∙ q.0) in
          let left : b ≡ a = sym q.1 ∙ p.1 in
          (same, takes_one t t' (words-set-one s (rw left at s')))

    nothing-next : {k : ℕ} {l : NumberScene} → NoneDue m.numbers → Takes m samples k l → ⊥
    nothing-next {k} none t = none k t.next.ahead.place t.next.due

    turns-one : (a b : Yield) (l r : NumberScene) → Turns m samples a l → Turns m samples b r → (a ≡ b) × (l ≡ r)
    turns-one a b l r x y = go x y
      where
        go : {a b : Yield} {l r : NumberScene} → Turns m samples a l → Turns m samples b r → (a ≡ b) × (l ≡ r)
        go (Turns.idles p q n e) (Turns.idles p' q' n' e') = (refl, e ∙ sym e')
        go (Turns.idles p q n e) (Turns.runs t lends c s) = absurd (nothing-next n t)
        go (Turns.idles p q n e) (Turns.fails t f s) = absurd (nothing-next n t)
        go (Turns.runs t lends c s) (Turns.idles p q n e) = absurd (nothing-next n t)
        go {r = r} (Turns.runs {k = k} t lends c s) (Turns.runs {k = j} t' lends' c' s') =
            let same : j ≡ k = next_one m.numbers t'.next t.next in
            let o = runs-one k t lends c s (rw same at t') (rw same at lends') c' (rw same at s') in
            let n = o.0 in
            (cc, o.1)
        go (Turns.runs {k = k} t lends c s) (Turns.fails {k = j} t' f s') =
            let same : j ≡ k = next_one m.numbers t'.next t.next in absurd (run-apart k lends c (rw same at f))
        go (Turns.fails t f s) (Turns.idles p q n e) = absurd (nothing-next n t)
        go (Turns.fails {k = k} t f s) (Turns.runs {k = j} t' lends' c' s') =
            let same : k ≡ j = next_one m.numbers t.next t'.next in absurd (run-apart j lends' c' (rw same at f))
        go (Turns.fails {k = k} t f s) (Turns.fails {k = j} t' f' s') =
            let same : j ≡ k = next_one m.numbers t'.next t.next in
            let g = run-faults-one k f (rw same at f') in
            (cc, takes_one k t (rw same at t') (s ∙ sym s'))

    turn-faults-one : (f g : Fault) → TurnRefusedAt m samples f → TurnRefusedAt m samples g → f ≡ g
    turn-faults-one f g x y = go x y
      where
        go : {f g : Fault} → TurnRefusedAt m samples f → TurnRefusedAt m samples g → f ≡ g
        go (TurnRefusedAt.short a) (TurnRefusedAt.short b) = refl
        go (TurnRefusedAt.short a) (TurnRefusedAt.few b c) = absurd (omega arith)
        go (TurnRefusedAt.few a b) (TurnRefusedAt.short c) = absurd (omega arith)
        go (TurnRefusedAt.few a b) (TurnRefusedAt.few c d) = refl

    turn-apart : (y : Yield) (l : NumberScene) (f : Fault) → Turns m samples y l → TurnRefusedAt m samples f → ⊥
    turn-apart y l f d r = go (lends d) r
      where
        lends : {y : Yield} {l : NumberScene} → Turns m samples y l → (260 ≤ length m.state) × (256 ≤ length samples)
        lends (Turns.idles p q n e) = (p, q)
        lends (Turns.runs t a c s) = (t.long, t.enough)
        lends (Turns.fails t f s) = (t.long, t.enough)

        go : {f : Fault} → (260 ≤ length m.state) × (256 ≤ length samples) → TurnRefusedAt m samples f → ⊥
        go (p, q) (TurnRefusedAt.short a) = omega arith
        go (p, q) (TurnRefusedAt.few a b) = omega arith

  pub board-calls : BoardCalls m
  board-calls =
      record {
        load-exactly = λ k start size.
            exactly (load-ends k start size) (loads-one k start size) (load-faults-one k start size) (load_apart k start size);
        mark-exactly = λ k. exactly (mark-ends k) (marks-one k) (mark-faults-one k) (mark-apart k);
        turn-exactly = λ samples.
            exactly (turn-ends samples) (turns-one samples) (turn-faults-one samples) (turn-apart samples);
      }
