-- On a board whose turns are lent samples that differ only in one word, the cycles of its place do too. Assumes nothing.
use Prim.Native.Nat.{ℕ, ◌+◌, ◌*◌, ◌≤◌, ◌<◌}
use mathlib.Core.Bool.{Bool, true, false, cond}
use mathlib.Core.List.{List, ◌∷◌}
use mathlib.Core.Path.{◌≡◌, refl, sym, ap, ◌∙◌}
use native.Mathlib.Decide.{dec_lt}
use native.Mathlib.Omega.{arith}
use borrow.Author.Tests.{lt-leb}
use lib.Dec.{leb, eqb}
use lib.IntN.{ℤ, pos}
use lib.ListN.{length, get_or, drop, get_or-eq_default}
use lib.Seq.{get_or-take, get_or-drop, ext_get_or}
use Rattle.model.specs.Says.Calls.{Call, cycle}
use Rattle.model.specs.Rules.Outcome.{Outcome, accepted, refused}
use Rattle.model.specs.declared.Fault.{Fault}
use Rattle.theorems_streams.specs.Dependence.{LentExcept}
use Rattle.board.specs.Board.{place_samples, BoardEffect, Yield, idle, took}
use Rattle.board.specs.Events.{Event, load, mark, turn, change, Scene, turn_in, after_event, own_cycle, own_cycles}
use Rattle.board.proofs.Called.{turn-state, turn-samples}
use Rattle.board.proofs.Words.{samples-length}
use Rattle.promises.specs.Scenes.{SceneBut, OtherSamples, SamplesExcept, EventsBut}
use Rattle.promises.proofs.Confined.{few-same, turn-same, after-load, after-mark, after_turn, after-change}

-- Word x of a place's samples.
sample-at : (j : ℕ) (samples : List ℤ) (x : ℕ) → x < 64 →
    get_or (place_samples j samples) x (pos 0) ≡ get_or samples (64 * j + x) (pos 0)
sample-at j samples x lt = get_or-take 64 (drop (64 * j) samples) x (pos 0) lt ∙ get_or-drop (64 * j) samples x (pos 0)

module _ (k i : ℕ) (below : i < 64) (samples samples' : List ℤ) (many : 256 ≤ length samples) (many' : 256 ≤ length samples')
    (same : SamplesExcept k i samples samples') where
  except-others : OtherSamples k samples samples'
  except-others j lt ne =
      ext_get_or (pos 0) (place_samples j samples) (place_samples j samples')
      (samples-length j samples lt many ∙ sym (samples-length j samples' lt many'))
      (λ x less. at x (omega (arith, samples-length j samples lt many)))
    where
      at : (x : ℕ) → x < 64 → get_or (place_samples j samples) x (pos 0) ≡ get_or (place_samples j samples') x (pos 0)
      at x less =
          sample-at j samples x less ∙ same (64 * j + x) (λ e. ne (omega arith)) ∙ sym (sample-at j samples' x less)

  except-own : k < 4 → (x : ℕ) → ¬ (x ≡ i) → get_or (place_samples k samples) x (pos 0) ≡ get_or (place_samples k samples') x (pos 0)
  except-own lt x other = go (dec_lt x 64)
    where
      go : Dec (x < 64) → get_or (place_samples k samples) x (pos 0) ≡ get_or (place_samples k samples') x (pos 0)
      go (yes less) =
          sample-at k samples x less ∙ same (64 * k + x) (λ e. other (omega arith)) ∙ sym (sample-at k samples' x less)
      go (no more) =
          get_or-eq_default (place_samples k samples) (pos 0) {n = x} (omega (arith, samples-length k samples lt many)) ∙
          sym (get_or-eq_default (place_samples k samples') (pos 0) {n = x}
          (omega (arith, samples-length k samples' lt many')))

-- Such events are the same but for the samples of the place.
pub except-but : {k i : ℕ} {es es' : List Event} → i < 64 → EventsBut k (SamplesExcept k i) es es' →
    EventsBut k (OtherSamples k) es es'
except-but below EventsBut.none = EventsBut.none
except-but below (EventsBut.loads j start size a) = EventsBut.loads j start size (except-but below a)
except-but below (EventsBut.marks j a) = EventsBut.marks j (except-but below a)
except-but below (EventsBut.few l l' a) = EventsBut.few l l' (except-but below a)
except-but {k} {i} below (EventsBut.turns {samples = samples} {samples'} l l' same a) =
    EventsBut.turns l l' (except-others k i below samples samples' l l' same) (except-but below a)
except-but below (EventsBut.changes images c a) = EventsBut.changes images c (except-but below a)

-- A turn that is lent too few samples is refused.
few-refused : (s : Scene) (samples : List ℤ) → length samples < 256 → (f : Fault) × (turn_in s samples ≡ refused f)
few-refused s samples few = go (leb 260 (length s.state)) refl
  where
    go : (t : Bool) → leb 260 (length s.state) ≡ t → (f : Fault) × (turn_in s samples ≡ refused f)
    go true q =
        let e = turn-samples s.board s.images s.state samples q (lt-leb 256 (length samples) few) in
        (_, ap (λ (c : BoardEffect Yield). c.answer) e)
    go false q =
        let e = turn-state s.board s.images s.state samples q in (_, ap (λ (c : BoardEffect Yield). c.answer) e)

-- A turn with the same outcome adds a cycle to both or to none.
own-both : (k i : ℕ) (samples samples' : List ℤ) →
    ((x : ℕ) → ¬ (x ≡ i) → get_or (place_samples k samples) x (pos 0) ≡ get_or (place_samples k samples') x (pos 0)) →
    (cs cs' : List Call) → LentExcept i cs cs' → (o : Outcome Yield) →
    LentExcept i (own_cycle k samples o cs) (own_cycle k samples' o cs')
own-both k i samples samples' same cs cs' l (accepted idle) = l
own-both k i samples samples' same cs cs' l (accepted (took j (accepted n))) = go (eqb j k)
  where
    go : (t : Bool) →
        LentExcept i (cond t (cycle (place_samples k samples) ∷ cs) cs) (cond t (cycle (place_samples k samples') ∷ cs') cs')
    go true = LentExcept.cycles same l
    go false = l
own-both k i samples samples' same cs cs' l (accepted (took j (refused f))) = l
own-both k i samples samples' same cs cs' l (refused f) = l

pub own-lent : (k i : ℕ) → k < 4 → i < 64 → (s s' : Scene) {es es' : List Event} → SceneBut k s s' →
    EventsBut k (SamplesExcept k i) es es' → LentExcept i (own_cycles k s es) (own_cycles k s' es')
unfolding own_cycles
own-lent k i lt below s s' h EventsBut.none = LentExcept.none
own-lent k i lt below s s' h (EventsBut.loads j start size a) =
    own-lent k i lt below (after_event s (load j start size)) (after_event s' (load j start size))
    (after-load k s s' h j start size) a
own-lent k i lt below s s' h (EventsBut.marks j a) =
    own-lent k i lt below (after_event s (mark j)) (after_event s' (mark j)) (after-mark k s s' h j) a
own-lent k i lt below s s' h (EventsBut.few {samples = samples} {samples'} l l' a) =
    let c = few-same k s s' h samples samples' l l' in
    let e = few-refused s samples l in
    let e' = few-refused s' samples' l' in
    rw (e.1, e'.1)
    (own-lent k i lt below (after_event s (turn samples)) (after_event s' (turn samples')) (after_turn k s s' h samples samples' c)
    a)
own-lent k i lt below s s' h (EventsBut.turns {es = es} {es'} {samples} {samples'} l l' same a) =
    let c = turn-same k s s' h samples samples' l l' (except-others k i below samples samples' l l' same) in
    let t = after_event s (turn samples) in
    let t' = after_event s' (turn samples') in
    rw c.answer
    (own-both k i samples samples' (except-own k i below samples samples' l l' same lt) (own_cycles k t es) (own_cycles k t' es')
    (own-lent k i lt below t t' (after_turn k s s' h samples samples' c) a) (turn_in s' samples'))
own-lent k i lt below s s' h (EventsBut.changes {state = state} {state'} images c a) =
    own-lent k i lt below (after_event s (change images state)) (after_event s' (change images state'))
    (after-change k s s' h images state state' c) a
