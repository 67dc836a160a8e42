-- On a board the samples and the signals of one place reach nothing else. Assumes nothing.
use Rattle.std.specs.Prelude.{Option, Some, None}
use Prim.Native.Nat.{ℕ, ◌+◌, ◌-◌, ◌*◌, ◌/◌, ◌≤◌, ◌<◌}
use mathlib.Core.Bool.{Bool, true, false, cond}
use mathlib.Core.List.{List, ◌∷◌}
use mathlib.Core.Path.{◌≡◌, refl, sym, ap, ap₂, subst, ◌∙◌}
use native.Mathlib.Decide.{dec_lt}
use native.Mathlib.Omega.{arith}
use borrow.Author.Tests.{leb-true, le-leb, lt-leb, ltb-true, eqb-true, eqb-false}
use lib.Dec.{leb, ltb, eqb}
use lib.IntN.{ℤ, pos}
use lib.ListN.{length, get_or, drop}
use lib.Seq.{get_or-take, get_or-drop, get_or-set_same, ext_get_or}
use Rattle.model.specs.Rules.Machine.{
  Effect,
  effect,
  stretch,
  count_of,
  hyper_of,
  image_part,
  lent_ok,
  is_position,
  list_of,
  position_of,
  next_position,
  count_signals,
  run_signals,
  reset_words,
  cycle_words,
  cycle_count,
  reset_of,
  cycle_of,
}
use Rattle.model.specs.Rules.Outcome.{Outcome, accepted, refused, refuse, ◌▷◌, provided}
use Rattle.model.specs.declared.Fault.{Fault}
use Rattle.model.proofs.Images.Cycles as Cycles
use Rattle.model.proofs.Images.Tails.{lent-formed}
use Rattle.board.specs.Board.{
  place_at,
  place_words,
  place_samples,
  with_words,
  next_due,
  on_stretch,
  reset_in,
  cycle_in,
  run_of,
  BoardEffect,
  took,
  load_of,
  mark_place_of,
  turn_with,
  turn_of,
}
use Rattle.board.specs.Board.{Board}
use Rattle.board.specs.Events.{Event, load, mark, turn, change, Scene, load_by, turn_by, after_event, after_events}
use Rattle.board.proofs.Alone.{run_length, reset-in-length}
use Rattle.board.proofs.Called.{
  board_refusal,
  load-place,
  load-state,
  load-refused,
  load-done,
  turn-state,
  turn-samples,
  turn-done,
}
use Rattle.board.proofs.Due.{next-below}
use Rattle.board.proofs.Stretch.{few-signals}
use Rattle.board.proofs.Words.{words-length, samples-length, put-length, words-own, words-elsewhere}
use Rattle.promises.specs.Scenes.{
  SignalWord,
  StateBut,
  SceneBut,
  OtherSamples,
  EventsBut,
  BoardAnswer,
  call,
  turned,
  answers_in,
  Confined,
}

-- A reset and a cycle, on any image: what they answer, and the position that they leave, do not depend on the signals' words,
-- nor on the samples where there are 64 or more.
pub record EffectsAlike (e e' : Effect ℕ ℤ) : Type 0 where
  pub answer : e.answer ≡ e'.answer
  pub position : get_or e.left 0 (pos 0) ≡ get_or e'.left 0 (pos 0)

module _ (lent : List ℕ) (w w' : List ℤ) (size : length w' ≡ length w) (first : get_or w' 0 (pos 0) ≡ get_or w 0 (pos 0)) where
  reset-alike : EffectsAlike (reset_of lent w) (reset_of lent w')
  unfolding reset_of ◌▷◌ provided reset_words
  reset-alike = rw size (go (lent_ok lent) (ltb (count_of (image_part lent)) (length w)))
    where
      reset : List ℤ → Bool → Bool → Effect ℕ ℤ
      reset v a b =
          effect v
          (provided a 20 0 ▷ λ _. provided b 21 0 ▷ λ _. accepted (record { yields = 0; leaves = reset_words (image_part lent) v }))

      go : (a b : Bool) → EffectsAlike (reset w a b) (reset w' a b)
      go false b = record { answer = refl; position = sym first }
      go true false = record { answer = refl; position = sym first }
      go true true = record { answer = refl; position = refl }

  module _ (m m' : List ℤ) (many : 64 ≤ length m) (many' : 64 ≤ length m') where
    abbrev image : List ℕ
    image = image_part lent

    -- The position that a cycle leaves.
    next-is : (v samples : List ℤ) → count_of image < length v →
        get_or (cycle_words image v samples) 0 (pos 0) ≡ pos (next_position (hyper_of image) (position_of (get_or v 0 (pos 0))))
    unfolding cycle_words
    next-is v samples lt =
        get_or-set_same (run_signals image (list_of image (position_of (get_or v 0 (pos 0)))) samples v) 0 _ (pos 0)
        (omega (arith, Cycles.run_length image (list_of image (position_of (get_or v 0 (pos 0)))) samples v))

    cycle-alike : EffectsAlike (cycle_of lent w m) (cycle_of lent w' m')
    unfolding cycle_of ◌▷◌ provided cycle_count
    cycle-alike =
        rw (size, first)
        (go (lent_ok lent) (ltb (count_of image) (length w)) (is_position (hyper_of image) (get_or w 0 (pos 0))) refl refl)
      where
        cycle : List ℤ → List ℤ → Bool → Bool → Bool → Effect ℕ ℤ
        cycle v samples a b c =
            effect v
            (provided a 20 0 ▷ λ _.
            provided b 21 0 ▷ λ _.
            provided c 22 0 ▷ λ _.
            provided (leb (count_of image) (length samples)) 23 0 ▷ λ _.
            accepted
            (record {
              yields = count_signals image (list_of image (position_of (get_or w 0 (pos 0))));
              leaves = cycle_words image v samples;
            }))

        go : (a b c : Bool) → lent_ok lent ≡ a → ltb (count_of image) (length w) ≡ b →
            EffectsAlike (cycle w m a b c) (cycle w' m' a b c)
        go false b c p q = record { answer = refl; position = sym first }
        go true false c p q = record { answer = refl; position = sym first }
        go true true false p q = record { answer = refl; position = sym first }
        go true true true p q =
            let few = few-signals image (lent-formed lent p) in
            let lt = ltb-true (count_of image) (length w) q in
            rw (le-leb (count_of image) (length m) (omega arith), le-leb (count_of image) (length m') (omega arith))
            (record {
              answer = refl;
              position =
                  next-is w m lt ∙
                  ap (λ (x : ℤ). pos (next_position (hyper_of image) (position_of x))) (sym first) ∙
                  sym (next-is w' m' (omega arith));
            })

-- The words of place j in two such states: the same, or for place k the same position.
module _ (k j : ℕ) where
  abbrev WordsBut : List ℤ → List ℤ → Type 0
  WordsBut w w' = (m : ℕ) → m < 65 → ¬ SignalWord k (65 * j + m) → get_or w m (pos 0) ≡ get_or w' m (pos 0)

  word-at : (state : List ℤ) (m : ℕ) → m < 65 → get_or (place_words j state) m (pos 0) ≡ get_or state (65 * j + m) (pos 0)
  word-at state m lt = get_or-take 65 (drop (65 * j) state) m (pos 0) lt ∙ get_or-drop (65 * j) state m (pos 0)

  words-but : (state state' : List ℤ) → StateBut k state state' → WordsBut (place_words j state) (place_words j state')
  words-but state state' h m lt far = word-at state m lt ∙ h.words (65 * j + m) far ∙ sym (word-at state' m lt)

  words-first : (w w' : List ℤ) → WordsBut w w' → get_or w 0 (pos 0) ≡ get_or w' 0 (pos 0)
  words-first w w' h = h 0 (omega arith) (λ x. first x.0 x.1)
    where
      first : 65 * k < 65 * j + 0 → 65 * j + 0 < 65 * k + 65 → ⊥
      first l l' = omega arith

  words-all : (w w' : List ℤ) → length w ≡ 65 → length w' ≡ 65 → ¬ (j ≡ k) → WordsBut w w' → w ≡ w'
  words-all w w' size size' ne h =
      ext_get_or (pos 0) w w' (size ∙ sym size') (λ m lt. h m (rw size at lt) (λ x. apart m (rw size at lt) x.0 x.1))
    where
      apart : (m : ℕ) → m < 65 → 65 * k < 65 * j + m → 65 * j + m < 65 * k + 65 → ⊥
      apart m lt l l' = ne (omega arith)

  -- Put back, they leave two such states.
  put-but : (state state' w w' : List ℤ) → j < 4 → 260 ≤ length state → length w ≡ 65 → length w' ≡ 65 →
      StateBut k state state' → WordsBut w w' → StateBut k (with_words j state w) (with_words j state' w')
  put-but state state' w w' lt le size size' h g =
      record {
        size = put-length j state w lt le size ∙ h.size ∙ sym (put-length j state' w' lt le' size');
        words = λ v far. go v far (eqb (v / 65) j) refl;
      }
    where
      le' : 260 ≤ length state'
      le' = omega (arith, h.size)

      own : (st u : List ℤ) → 260 ≤ length st → length u ≡ 65 → (m : ℕ) → m < 65 →
          get_or (with_words j st u) (65 * j + m) (pos 0) ≡ get_or u m (pos 0)
      own st u l s m less =
          sym (word-at (with_words j st u) m less) ∙ ap (λ (x : List ℤ). get_or x m (pos 0)) (words-own j st u lt l s)

      inside : (v m : ℕ) → v ≡ 65 * j + m → m < 65 → ¬ SignalWord k v →
          get_or (with_words j state w) v (pos 0) ≡ get_or (with_words j state' w') v (pos 0)
      inside v m e less far =
          rw e (own state w le size m less ∙ g m less (subst (λ (x : ℕ). ¬ SignalWord k x) e far) ∙
          sym (own state' w' le' size' m less))

      go : (v : ℕ) → ¬ SignalWord k v → (t : Bool) → eqb (v / 65) j ≡ t →
          get_or (with_words j state w) v (pos 0) ≡ get_or (with_words j state' w') v (pos 0)
      go v far true e =
          let q = eqb-true (v / 65) j e in inside v (v - 65 * j) (omega arith) (omega arith) far
      go v far false e =
          words-elsewhere j state w lt le size v (eqb-false (v / 65) j e) ∙ h.words v far ∙
          sym (words-elsewhere j state' w' lt le' size' v (eqb-false (v / 65) j e))

  -- Two resets or runs of place j: the same, or for place k alike.
  pub record EffectBut (e e' : Effect ℕ ℤ) : Type 0 where
    pub answer : e.answer ≡ e'.answer
    pub left : WordsBut e.left e'.left

  effect-but : (e e' : Effect ℕ ℤ) → EffectsAlike e e' → (¬ (j ≡ k) → e ≡ e') → EffectBut e e'
  effect-but e e' a same = go (eqb j k) refl
    where
      first : j ≡ k → (m : ℕ) → m < 65 → ¬ SignalWord k (65 * j + m) → Dec (0 < m) →
          get_or e.left m (pos 0) ≡ get_or e'.left m (pos 0)
      first q m lt far (yes l) = absurd (far (omega arith, omega arith))
      first q m lt far (no l) =
          let z : m ≡ 0 = omega arith in
          ap (λ (x : ℕ). get_or e.left x (pos 0)) z ∙ a.position ∙ ap (λ (x : ℕ). get_or e'.left x (pos 0)) (sym z)

      go : (t : Bool) → eqb j k ≡ t → EffectBut e e'
      go true q = record { answer = a.answer; left = λ m lt far. first (eqb-true j k q) m lt far (dec_lt 0 m) }
      go false q =
          let s = same (eqb-false j k q) in
          record {
            answer = a.answer;
            left = λ m lt far. ap (λ (x : Effect ℕ ℤ). get_or x.left m (pos 0)) s;
          }

-- On a stretch of the images.
on_alike : (images : List ℕ) (start size : ℕ) (w w' : List ℤ) (run run' : List ℕ → Effect ℕ ℤ) →
    get_or w 0 (pos 0) ≡ get_or w' 0 (pos 0) → ((image : List ℕ) → EffectsAlike (run image) (run' image)) →
    EffectsAlike (on_stretch images start size w run) (on_stretch images start size w' run')
unfolding on_stretch
on_alike images start size w w' run run' first alike = go (leb (start + size) (length images))
  where
    go : (t : Bool) →
        EffectsAlike (cond t (run (stretch images start (start + size))) (record { answer = refuse 27 0; left = w }))
        (cond t (run' (stretch images start (start + size))) (record { answer = refuse 27 0; left = w' }))
    go true = alike (stretch images start (start + size))
    go false = record { answer = refl; position = first }

-- Two calls that are lent such states: what they answer, and the record and state that they leave.
pub record CallBut {A : Type 0} (k : ℕ) (c c' : BoardEffect A) : Type 0 where
  pub answer : c.answer ≡ c'.answer
  pub board : c.board ≡ c'.board
  pub left : StateBut k c.left c'.left

module _ (k : ℕ) (b : Board) (images : List ℕ) (state state' : List ℤ) (h : StateBut k state state') where
  refused-but : {A : Type 0} (f : Fault) {c c' : BoardEffect A} → c ≡ board_refusal f b state → c' ≡ board_refusal f b state' →
      CallBut k c c'
  refused-but f e e' = rw (e, e') (record { answer = refl; board = refl; left = h })

  -- A place's words.
  module _ (j : ℕ) (lt : j < 4) (le : 260 ≤ length state) where
    le' : 260 ≤ length state'
    le' = omega (arith, h.size)

    long : length (place_words j state') ≡ length (place_words j state)
    long = words-length j state' lt le' ∙ sym (words-length j state lt le)

    same_first : get_or (place_words j state) 0 (pos 0) ≡ get_or (place_words j state') 0 (pos 0)
    same_first = words-first k j (place_words j state) (place_words j state') (words-but k j state state' h)

    same-words : ¬ (j ≡ k) → place_words j state ≡ place_words j state'
    same-words ne =
        words-all k j (place_words j state) (place_words j state') (words-length j state lt le) (words-length j state' lt le') ne
        (words-but k j state state' h)

    reset-but : (start size : ℕ) →
        EffectBut k j (reset_in images start size (place_words j state)) (reset_in images start size (place_words j state'))
    reset-but start size =
        effect-but k j _ _
        (on_alike images start size _ _ _ _ same_first
        (λ image. reset-alike image (place_words j state) (place_words j state') long (sym same_first)))
        (λ ne. ap (reset_in images start size) (same-words ne))

    run-but : (samples samples' : List ℤ) → 256 ≤ length samples → 256 ≤ length samples' →
        (¬ (j ≡ k) → place_samples j samples ≡ place_samples j samples') →
        EffectBut k j (run_of b images state samples j) (run_of b images state' samples' j)
    unfolding run_of
    run-but samples samples' many many' same =
        effect-but k j _ _
        (on_alike images (place_at b j).start (place_at b j).size _ _ _ _ same_first
        (λ image.
        cycle-alike image (place_words j state) (place_words j state') long (sym same_first) (place_samples j samples)
        (place_samples j samples') (omega (arith, samples-length j samples lt many))
        (omega (arith, samples-length j samples' lt many'))))
        (λ ne.
        ap₂ (λ (w m : List ℤ). cycle_in images (place_at b j).start (place_at b j).size w m) (same-words ne) (same ne))

  load-but : (j start size : ℕ) → CallBut k (load_of b images state j start size) (load_of b images state' j start size)
  load-but j start size = place (ltb j 4) refl
    where
      ran : (p : ltb j 4 ≡ true) (q : leb 260 (length state) ≡ true) (o : Outcome ℕ) →
          (reset_in images start size (place_words j state)).answer ≡ o →
          EffectBut k j (reset_in images start size (place_words j state)) (reset_in images start size (place_words j state')) →
          CallBut k (load_of b images state j start size) (load_of b images state' j start size)
      ran p q (accepted n) e r =
          let lt = ltb-true j 4 p in
          let le = leb-true 260 (length state) q in
          rw (
            load-done b images state j start size p q n e,
            load-done b images state' j start size p (rw (sym h.size) q) n (sym r.answer ∙ e),
          )
          (record {
            answer = refl;
            board = refl;
            left =
                put-but k j state state' (reset_in images start size (place_words j state)).left
                (reset_in images start size (place_words j state')).left lt le (reset-in-length images start size j state lt le)
                (reset-in-length images start size j state' lt (omega (arith, h.size))) h r.left;
          })
      ran p q (refused f) e r =
          refused-but f (load-refused b images state j start size p q f e)
          (load-refused b images state' j start size p (rw (sym h.size) q) f (sym r.answer ∙ e))

      words : (p : ltb j 4 ≡ true) (t : Bool) → leb 260 (length state) ≡ t →
          CallBut k (load_of b images state j start size) (load_of b images state' j start size)
      words p true q =
          ran p q (reset_in images start size (place_words j state)).answer refl
          (reset-but j (ltb-true j 4 p) (leb-true 260 (length state) q) start size)
      words p false q =
          refused-but _ (load-state b images state j start size p q)
          (load-state b images state' j start size p (rw (sym h.size) q))

      place : (t : Bool) → ltb j 4 ≡ t → CallBut k (load_of b images state j start size) (load_of b images state' j start size)
      place true p = words p (leb 260 (length state)) refl
      place false p =
          refused-but _ (load-place b images state j start size p) (load-place b images state' j start size p)

  -- A turn that both times is lent too few samples, or the same samples of every other place.
  few-but : (samples samples' : List ℤ) → length samples < 256 → length samples' < 256 →
      CallBut k (turn_of b images state samples) (turn_of b images state' samples')
  few-but samples samples' few few' = words (leb 260 (length state)) refl
    where
      words : (t : Bool) → leb 260 (length state) ≡ t →
          CallBut k (turn_of b images state samples) (turn_of b images state' samples')
      words true q =
          refused-but _ (turn-samples b images state samples q (lt-leb 256 (length samples) few))
          (turn-samples b images state' samples' (rw (sym h.size) q) (lt-leb 256 (length samples') few'))
      words false q =
          refused-but _ (turn-state b images state samples q) (turn-state b images state' samples' (rw (sym h.size) q))

  turn-but : (samples samples' : List ℤ) → 256 ≤ length samples → 256 ≤ length samples' →
      OtherSamples k samples samples' →
      CallBut k (turn_of b images state samples) (turn_of b images state' samples')
  unfolding turn_with
  turn-but samples samples' many many' same = words (leb 260 (length state)) refl
    where
      due : leb 260 (length state) ≡ true → (d : Option ℕ) → next_due b ≡ d →
          CallBut k (turn_of b images state samples) (turn_of b images state' samples')
      due q (Some j) e =
          let lt = next-below b j e in
          let le = leb-true 260 (length state) q in
          let r = run-but j lt le samples samples' many many' (same j lt) in
          rw (
            turn-done b images state samples q (le-leb 256 (length samples) many) (Some j) e,
            turn-done b images state' samples' (rw (sym h.size) q) (le-leb 256 (length samples') many') (Some j) e,
          )
          (record {
            answer = ap (λ (o : Outcome ℕ). accepted (took j o)) r.answer;
            board = refl;
            left =
                put-but k j state state' (run_of b images state samples j).left (run_of b images state' samples' j).left lt le
                (run_length b images state samples j lt le)
                (run_length b images state' samples' j lt (omega (arith, h.size))) h r.left;
          })
      due q None e =
          rw (
            turn-done b images state samples q (le-leb 256 (length samples) many) None e,
            turn-done b images state' samples' (rw (sym h.size) q) (le-leb 256 (length samples') many') None e,
          ) (record { answer = refl; board = refl; left = h })

      words : (t : Bool) → leb 260 (length state) ≡ t →
          CallBut k (turn_of b images state samples) (turn_of b images state' samples')
      words true q = due q (next_due b) refl
      words false q =
          refused-but _ (turn-state b images state samples q) (turn-state b images state' samples' (rw (sym h.size) q))

-- Two scenes, each after a call or a change.
module _ (k : ℕ) (s s' : Scene) (h : SceneBut k s s') where
  pub load_same : (j start size : ℕ) → CallBut k (load_by s j start size) (load_by s' j start size)
  load_same j start size =
      rw (sym h.board, sym h.images) (load-but k s.board s.images s.state s'.state h.state j start size)

  pub few-same : (samples samples' : List ℤ) → length samples < 256 → length samples' < 256 →
      CallBut k (turn_by s samples) (turn_by s' samples')
  few-same samples samples' few few' =
      rw (sym h.board, sym h.images)
      (few-but k s.board s.images s.state s'.state h.state samples samples' few few')

  pub turn-same : (samples samples' : List ℤ) → 256 ≤ length samples → 256 ≤ length samples' →
      OtherSamples k samples samples' →
      CallBut k (turn_by s samples) (turn_by s' samples')
  turn-same samples samples' many many' same =
      rw (sym h.board, sym h.images)
      (turn-but k s.board s.images s.state s'.state h.state samples samples' many many' same)

  pub after-load : (j start size : ℕ) → SceneBut k (after_event s (load j start size)) (after_event s' (load j start size))
  unfolding after_event
  after-load j start size =
      let c = load_same j start size in record { board = c.board; images = h.images; state = c.left }

  pub after-mark : (j : ℕ) → SceneBut k (after_event s (mark j)) (after_event s' (mark j))
  unfolding after_event
  after-mark j =
      record { board = ap (λ (b : Board). (mark_place_of b j).board) h.board; images = h.images; state = h.state }

  pub after_turn : (samples samples' : List ℤ) → CallBut k (turn_by s samples) (turn_by s' samples') →
      SceneBut k (after_event s (turn samples)) (after_event s' (turn samples'))
  unfolding after_event
  after_turn samples samples' c = record { board = c.board; images = h.images; state = c.left }

  pub after-change : (images : List ℕ) (state state' : List ℤ) → StateBut k state state' →
      SceneBut k (after_event s (change images state)) (after_event s' (change images state'))
  unfolding after_event
  after-change images state state' c = record { board = h.board; images = refl; state = c }

-- One answer before the others.
confined-after : {k : ℕ} {s s' t t' : Scene} {es es' fs fs' : List Event} {a a' : BoardAnswer} → a ≡ a' → Confined k t t' fs fs' →
    answers_in s es ≡ a ∷ answers_in t fs → answers_in s' es' ≡ a' ∷ answers_in t' fs' →
    after_events s es ≡ after_events t fs → after_events s' es' ≡ after_events t' fs' → Confined k s s' es es'
confined-after {k} e c p p' q q' =
    record { answers = p ∙ ap₂ ◌∷◌ e c.answers ∙ sym p'; scene = rw (q, q') c.scene }

pub confined : {k : ℕ} {s s' : Scene} {es es' : List Event} → SceneBut k s s' → EventsBut k (OtherSamples k) es es' →
    Confined k s s' es es'
unfolding answers_in after_events
confined h EventsBut.none = record { answers = refl; scene = h }
confined {k} {s} {s'} h (EventsBut.loads j start size a) =
    let next = confined {s = after_event s (load j start size)} (after-load k s s' h j start size) a in
    confined-after (ap call (load_same k s s' h j start size).answer) next refl refl refl refl
confined {k} {s} {s'} h (EventsBut.marks j a) =
    let next = confined {s = after_event s (mark j)} (after-mark k s s' h j) a in
    confined-after (ap (λ (b : Board). call (mark_place_of b j).answer) h.board) next refl refl refl refl
confined {k} {s} {s'} h (EventsBut.few {samples = samples} {samples'} l l' a) =
    let c = few-same k s s' h samples samples' l l' in
    let next = confined {s = after_event s (turn samples)} (after_turn k s s' h samples samples' c) a in
    confined-after (ap turned c.answer) next refl refl refl refl
confined {k} {s} {s'} h (EventsBut.turns {samples = samples} {samples'} l l' same a) =
    let c = turn-same k s s' h samples samples' l l' same in
    let next = confined {s = after_event s (turn samples)} (after_turn k s s' h samples samples' c) a in
    confined-after (ap turned c.answer) next refl refl refl refl
confined {k} {s} {s'} h (EventsBut.changes {state = state} {state'} images c a) =
    let r = confined {s = after_event s (change images state)} (after-change k s s' h images state state' c) a in
    record { answers = r.answers; scene = r.scene }
