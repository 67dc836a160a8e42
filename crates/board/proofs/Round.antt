-- How the turns go round the places: a due place is taken by the fourth. Assumes nothing.
use Prim.Native.Nat.{ℕ, zero, suc, ◌+◌, ◌-◌, ◌%◌, ◌≤◌, ◌<◌}
use mathlib.Core.Bool.{Bool, true, false, cond}
use mathlib.Core.List.{List, [], ◌∷◌}
use mathlib.Core.Path.{◌≡◌, refl, sym, ap, ◌∙◌}
use native.Mathlib.Decide.{dec_lt}
use native.Mathlib.Omega.{arith}
use borrow.Author.Tests.{eqb-true, eqb-false}
use lib.Dec.{eqb}
use lib.IntN.{ℤ}
use lib.ListN.{length, get_or, set}
use lib.Seq.{get_or-set_same, get_or-set_other, set_out}
use Rattle.model.specs.Rules.Outcome.{Outcome, accepted}
use Rattle.board.specs.Board.{
  vacant,
  place_at,
  loaded_at,
  with_due,
  marked_at,
  taken_at,
  place_after,
  due_after,
  BoardEffect,
  Yield,
  took,
  place_with,
}
use Rattle.board.specs.Events.{
  Event,
  load,
  mark,
  turn,
  change,
  Scene,
  turn_in,
  after_event,
  total_of,
  not_refused,
  is_turn,
  takes_place,
  is_taken_at,
  Throughout,
  CallRefused,
  NotLoaded,
  mark_by,
  turn_by,
}
use Rattle.board.specs.Board.{Place}
use Rattle.board.proofs.Called.{board_done}
use Rattle.board.proofs.Due.{true≢false, NextAt, reached, none-due}
use Rattle.board.proofs.Stretch.{never}
use Rattle.board.proofs.Cases.{
  LoadCase,
  load-stays,
  load_does,
  MarkCase,
  mark-stays,
  mark-does,
  TurnCase,
  turn-stays,
  turn-idles,
  turn-takes,
  load-case,
  mark-case,
  turn-case,
  call_answer,
}

-- One place of the list is set: the others stay, and of the one set only what is in the list.
module _ (places : List Place) where
  pub set_other : (j k : ℕ) (p : Place) → (k ≡ j → ⊥) → get_or (set places j p) k vacant ≡ get_or places k vacant
  set_other j k p ne = get_or-set_other places j k p vacant ne

  -- a mark that is set stays, whichever place is marked
  pub due-set : (k : ℕ) (p : Place) → p.due ≡ true → (get_or places k vacant).due ≡ true →
      (get_or (set places k p) k vacant).due ≡ true
  due-set k p e h = go (dec_lt k (length places))
    where
      go : Dec (k < length places) → (get_or (set places k p) k vacant).due ≡ true
      go (yes lt) = ap (λ (q : Place). q.due) (get_or-set_same places k p vacant lt) ∙ e
      go (no ge) = ap (λ (l : List Place). (get_or l k vacant).due) (set_out places k p (omega arith)) ∙ h

-- Some event: place k is taken, or it still waits, after fewer places than before if the event was a turn.
pub data Waits (k : ℕ) (s : Scene) (e : Event) (d : ℕ) : Type 0 where
  hit : is_taken_at k s e ≡ 1 → Waits k s e d
  miss : (i : ℕ) → i + is_turn s e ≤ d → place_after (after_event s e).board i ≡ k →
      (place_at (after_event s e).board k).due ≡ true → Waits k s e d

-- A scene whose record is the old one, with other places, which keep the mark.
module _ (k d : ℕ) (s : Scene) (at : place_after s.board d ≡ k) (due : (place_at s.board k).due ≡ true) where
  load-waits : (j start size : ℕ) → NotLoaded k s (load j start size) → Waits k s (load j start size) d
  unfolding after_event is_turn NotLoaded CallRefused loaded_at
  load-waits j start size free = go (load-case s j start size)
    where
      go : LoadCase s j start size → Waits k s (load j start size) d
      go (load-stays f e) = miss d (omega arith) (rw e at) (rw e due)
      go (load_does lt words n h e) =
          miss d (omega arith) (rw e at)
          (rw e
          (ap (λ (p : Place). p.due)
          (set_other s.board.places j k (place_with start size)
          (λ q. let r = free (sym q) in never n r.0 (sym (ap call_answer e) ∙ r.1))) ∙
          due))

  mark-waits : (j : ℕ) → Waits k s (mark j) d
  unfolding after_event is_turn marked_at
  mark-waits j = go (mark-case s j)
    where
      set-due : (t : Bool) → eqb k j ≡ t →
          (get_or (set s.board.places j (with_due true (place_at s.board j))) k vacant).due ≡ true
      set-due true e = rw (← (eqb-true k j e)) (due-set s.board.places k _ refl due)
      set-due false e = ap (λ (p : Place). p.due) (set_other s.board.places j k _ (eqb-false k j e)) ∙ due

      go : MarkCase s j → Waits k s (mark j) d
      go (mark-stays f e) = miss d (omega arith) (rw e at) (rw e due)
      go (mark-does lt l e) = miss d (omega arith) (rw e at) (rw e (set-due (eqb k j) refl))

-- The places after the one taken come nearer.
nearer : (last j k i d : ℕ) → (last + 1 + i) % 4 ≡ j → (last + 1 + d) % 4 ≡ k → i < d → (j + 1 + (d - i - 1)) % 4 ≡ k
nearer last j k i d p q lt = omega arith

module _ (k d : ℕ) (s : Scene) (few : d < 4) (at : place_after s.board d ≡ k) (due : (place_at s.board k).due ≡ true) where
  due-here : due_after s.board d ≡ true
  due-here = ap (λ (j : ℕ). (place_at s.board j).due) at ∙ due

  -- the place found does not lie behind a due one
  not-past : (j : ℕ) (r : NextAt s.board j) → r.ahead ≤ d
  not-past j r = go (dec_lt d r.ahead)
    where
      go : Dec (d < r.ahead) → r.ahead ≤ d
      go (yes lt) = absurd (true≢false (sym due-here ∙ r.before d lt))
      go (no ge) = omega arith

  turn-waits : (samples : List ℤ) → Waits k s (turn samples) d
  unfolding after_event is_turn is_taken_at taken_at
  turn-waits samples = go (turn-case s samples)
    where
      split : (j : ℕ) (o : Outcome ℕ) (left : List ℤ) → NextAt s.board j →
          turn_by s samples ≡ board_done (took j o) (taken_at s.board j) left → (t : Bool) → eqb j k ≡ t →
          Waits k s (turn samples) d
      split j o left r e true q = hit
          (ap (λ (c : BoardEffect Yield). takes_place k c.answer) e ∙ ap (λ (t : Bool). cond {A = ℕ} t 1 0) q)
      split j o left r e false q =
          let ne = eqb-false j k q in
          let lt : r.ahead < d = further j r ne (dec_lt r.ahead d) in
          let u : not_refused (turn_in s samples) ≡ 1 = ap (λ (c : BoardEffect Yield). not_refused c.answer) e in
          miss (d - r.ahead - 1) (omega arith) (rw e (nearer s.board.last j k r.ahead d r.here at lt))
          (rw e (ap (λ (p : Place). p.due) (set_other s.board.places j k _ (λ z. ne (sym z))) ∙ due))
        where
          further : (j : ℕ) (r : NextAt s.board j) → (j ≡ k → ⊥) → Dec (r.ahead < d) → r.ahead < d
          further j r ne (yes lt) = lt
          further j r ne (no ge) =
              let z : r.ahead ≡ d = omega (arith, not-past j r) in
              absurd (ne (sym r.here ∙ ap (place_after s.board) z ∙ at))

      go : TurnCase s samples → Waits k s (turn samples) d
      go (turn-stays f e) =
          let u : not_refused (turn_in s samples) ≡ 0 = ap (λ (c : BoardEffect Yield). not_refused c.answer) e in
          miss d (omega arith) (rw e at) (rw e due)
      go (turn-idles n e) = absurd (true≢false (sym due-here ∙ none-due s.board n d few))
      go (turn-takes j n w v e) = split j _ _ (reached s.board j n) e (eqb j k) refl

  event-waits : (e : Event) → NotLoaded k s e → Waits k s e d
  unfolding after_event is_turn
  event-waits (load j start size) free = load-waits k d s at due j start size free
  event-waits (mark j) free = mark-waits k d s at due j
  event-waits (turn samples) free = turn-waits samples
  event-waits (change images state) free = miss d (omega arith) at due

-- A place that waits behind d others is taken by turn d + 1.
pub waits-taken : (k d : ℕ) (s : Scene) → d < 4 → place_after s.board d ≡ k → (place_at s.board k).due ≡ true →
    (es : List Event) →
    Throughout (NotLoaded k) s es → d < total_of is_turn s es → 0 < total_of (is_taken_at k) s es
unfolding total_of Throughout
waits-taken k d s few at due [] free lt = absurd (omega arith)
waits-taken k d s few at due (e ∷ es) free lt =
    go (event-waits k d s few at due e free.0) (λ i f p q l. waits-taken k i (after_event s e) f p q es free.1 l)
  where
    go : Waits k s e d →
        ((i : ℕ) → i < 4 → place_after (after_event s e).board i ≡ k → (place_at (after_event s e).board k).due ≡ true →
        i < total_of is_turn (after_event s e) es → 0 < total_of (is_taken_at k) (after_event s e) es) →
        0 < is_taken_at k s e + total_of (is_taken_at k) (after_event s e) es
    go (hit h) ih = omega arith
    go (miss i le p q) ih = omega (arith, ih i (omega arith) p q (omega arith))

-- Every place is one of the four after the last.
distance : (last k : ℕ) → k < 4 → (last + 1 + (k + 3 - last % 4) % 4) % 4 ≡ k
distance last k lt = omega arith

pub due-taken : (k : ℕ) (s : Scene) → k < 4 → (place_at s.board k).due ≡ true → (es : List Event) →
    Throughout (NotLoaded k) s es →
    4 ≤ total_of is_turn s es → 0 < total_of (is_taken_at k) s es
due-taken k s lt due es free le =
    waits-taken k ((k + 3 - s.board.last % 4) % 4) s (omega arith) (distance s.board.last k lt) due es free (omega arith)

-- A place that is due is in the list.
pub due_in : (places : List Place) (k : ℕ) → (get_or places k vacant).due ≡ true → k < length places
due_in [] k e = absurd (true≢false (sym e))
due_in (p ∷ ps) zero e = omega arith
due_in (p ∷ ps) (suc k) e = omega (arith, due_in ps k e)

-- A mark that is not refused makes its place due.
loaded-in : (places : List Place) (k : ℕ) → (get_or places k vacant).loaded ≡ true → k < length places
loaded-in [] k e = absurd (true≢false (sym e))
loaded-in (p ∷ ps) zero e = omega arith
loaded-in (p ∷ ps) (suc k) e = omega (arith, loaded-in ps k e)

pub mark-due : (s : Scene) (k : ℕ) → (mark_by s k).answer ≡ accepted 0 →
    (k < 4) × ((place_at (after_event s (mark k)).board k).due ≡ true)
unfolding after_event marked_at
mark-due s k = go (mark-case s k)
  where
    go : MarkCase s k → (mark_by s k).answer ≡ accepted 0 → (k < 4) × ((place_at (after_event s (mark k)).board k).due ≡ true)
    go (mark-stays f e) a =
        let q = sym (ap call_answer e) ∙ a in let z : ◌≡◌ {A = ℕ} 0 1 = cc in absurd (omega arith)
    go (mark-does lt l e) a =
        (lt, rw e (ap (λ (p : Place). p.due) (get_or-set_same s.board.places k _ vacant (loaded-in s.board.places k l))))
