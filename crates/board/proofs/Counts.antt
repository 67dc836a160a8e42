-- The count of a place tells the turns that took it, up to its maximum. Assumes nothing.
use Rattle.std.specs.Prelude.{Some}
use Prim.Native.Nat.{ℕ, ◌+◌, ◌≤◌, ◌<◌}
use mathlib.Core.Bool.{Bool, true, false, cond}
use mathlib.Core.List.{List, [], ◌∷◌}
use mathlib.Core.Path.{◌≡◌, refl, sym, ap, ◌∙◌}
use native.Mathlib.Decide.{dec_lt}
use native.Mathlib.Omega.{arith}
use borrow.Author.Tests.{ltb-true, ltb-false, leb-true, leb-false, eqb-true, eqb-false}
use lib.Dec.{leb, ltb, eqb}
use lib.ListN.{length, get_or, set}
use lib.Seq.{get_or-set_same, set_out}
use Rattle.board.specs.Board.{
  vacant,
  place_at,
  count_up,
  place_with,
  with_due,
  taken_place,
  loaded_at,
  marked_at,
  taken_at,
  next_due,
  BoardEffect,
  Yield,
}
use Rattle.board.specs.Events.{
  Event,
  load,
  mark,
  turn,
  change,
  Scene,
  turn_by,
  turn_in,
  after_event,
  after_events,
  CallRefused,
  total_of,
  takes_place,
  is_taken_at,
  Throughout,
  NotLoaded,
  held,
  Held,
}
use Rattle.board.specs.Board.{Board}
use Rattle.board.specs.Board.{Place}
use Rattle.board.proofs.Cases.{
  LoadCase,
  load-stays,
  load_does,
  MarkCase,
  mark-stays,
  mark-does,
  TurnCase,
  turn-stays,
  turn-idles,
  turn-takes,
  load-case,
  mark-case,
  turn-case,
  call_answer,
}
use Rattle.board.proofs.Due.{reached}
use Rattle.board.proofs.Round.{set_other, due_in}
use Rattle.board.proofs.Stretch.{never}

pub held-is : (n : ℕ) → Held n (held n)
held-is n = go (leb n 4294967295) refl
  where
    go : (t : Bool) → leb n 4294967295 ≡ t → Held n (cond t n 4294967295)
    go true e = record { small = λ h. refl; large = λ h. omega (arith, leb-true n 4294967295 e) }
    go false e =
        record { small = λ h. absurd (omega (arith, leb-false n 4294967295 e)); large = λ h. refl }

pub is_held : (n h : ℕ) → Held n h → h ≡ held n
is_held n h w = go (leb n 4294967295) refl
  where
    go : (t : Bool) → leb n 4294967295 ≡ t → h ≡ cond t n 4294967295
    go true e = w.small (leb-true n 4294967295 e)
    go false e = w.large (omega (arith, leb-false n 4294967295 e))

counted-held : (n : ℕ) → n ≤ 4294967295 → count_up n ≡ held (n + 1)
unfolding count_up
counted-held n le = is_held (n + 1) _ (go (ltb n 4294967295) refl)
  where
    go : (t : Bool) → ltb n 4294967295 ≡ t → Held (n + 1) (cond t (n + 1) n)
    go true e = record { small = λ h. refl; large = λ h. omega (arith, ltb-true n 4294967295 e) }
    go false e =
        record {
          small = λ h. absurd (omega (arith, ltb-false n 4294967295 e));
          large =
              λ h. omega (arith, ltb-false n 4294967295 e);
        }

held_none : (n : ℕ) → n ≤ 4294967295 → n ≡ held (n + 0)
held_none n le = is_held (n + 0) n (record { small = λ h. omega arith; large = λ h. omega arith })

held-le : (n : ℕ) → held n ≤ 4294967295
held-le n = go (leb n 4294967295) refl
  where
    go : (t : Bool) → leb n 4294967295 ≡ t → cond t n 4294967295 ≤ 4294967295
    go true e = leb-true n 4294967295 e
    go false e = omega arith

held-add : (n u m : ℕ) → held (held (n + u) + m) ≡ held (n + (u + m))
held-add n u m = is_held (n + (u + m)) _ (go (leb (n + u) 4294967295) refl)
  where
    go : (t : Bool) → leb (n + u) 4294967295 ≡ t → Held (n + (u + m)) (held (cond t (n + u) 4294967295 + m))
    go true e =
        let w = held-is (n + u + m) in
        record { small = λ h. w.small (omega arith) ∙ omega arith; large = λ h. w.large (omega arith) }
    go false e =
        let w = held-is (4294967295 + m) in
        record { small = λ h. absurd (omega (arith, leb-false (n + u) 4294967295 e)); large = λ h. w.large (omega arith) }

-- What place k counts, after one of the places is set: another one, or itself without its count.
set-count : (places : List Place) (j k : ℕ) (p : Place) → (k ≡ j → ⊥) →
    (get_or (set places j p) k vacant).count ≡ (get_or places k vacant).count
set-count places j k p ne = ap (λ (q : Place). q.count) (set_other places j k p ne)

mark-count : (places : List Place) (j k : ℕ) →
    (get_or (set places j (with_due true (get_or places j vacant))) k vacant).count ≡ (get_or places k vacant).count
mark-count places j k = other (eqb k j) refl
  where
    own : Dec (k < length places) →
        (get_or (set places k (with_due true (get_or places k vacant))) k vacant).count ≡ (get_or places k vacant).count
    own (yes lt) = ap (λ (q : Place). q.count) (get_or-set_same places k (with_due true (get_or places k vacant)) vacant lt)
    own (no ge) =
        ap (λ (l : List Place). (get_or l k vacant).count)
        (set_out places k (with_due true (get_or places k vacant)) (omega arith))

    other : (t : Bool) → eqb k j ≡ t →
        (get_or (set places j (with_due true (get_or places j vacant))) k vacant).count ≡ (get_or places k vacant).count
    other true e = rw (← (eqb-true k j e)) (own (dec_lt k (length places)))
    other false e = set-count places j k (with_due true (get_or places j vacant)) (eqb-false k j e)

abbrev count_at : ℕ → Board → ℕ
count_at k b = (place_at b k).count

module _ (k : ℕ) (s : Scene) (le : count_at k s.board ≤ 4294967295) where
  abbrev own : ℕ
  own = count_at k s.board

  count-step : (e : Event) → NotLoaded k s e → count_at k (after_event s e).board ≡ held (own + is_taken_at k s e)
  unfolding after_event is_taken_at NotLoaded CallRefused loaded_at marked_at taken_at
  count-step (load j start size) free = go (load-case s j start size)
    where
      go : LoadCase s j start size → count_at k (after_event s (load j start size)).board ≡ held (own + 0)
      go (load-stays f e) = rw e (held_none own le)
      go (load_does lt w n h e) =
          rw e
          (set-count s.board.places j k (place_with start size)
          (λ q. let r = free (sym q) in never n r.0 (sym (ap call_answer e) ∙ r.1)) ∙
          held_none own le)
  count-step (mark j) free = go (mark-case s j)
    where
      go : MarkCase s j → count_at k (after_event s (mark j)).board ≡ held (own + 0)
      go (mark-stays f e) = rw e (held_none own le)
      go (mark-does lt l e) = rw e (mark-count s.board.places j k ∙ held_none own le)
  count-step (turn samples) free = go (turn-case s samples)
    where
      one : (c : BoardEffect Yield) → turn_by s samples ≡ c → count_at k c.board ≡ held (own + takes_place k c.answer) →
          count_at k (after_event s (turn samples)).board ≡ held (own + takes_place k (turn_in s samples))
      one c e h =
          ap (λ (c : BoardEffect Yield). count_at k c.board) e ∙ h ∙
          sym (ap (λ (c : BoardEffect Yield). held (own + takes_place k c.answer)) e)

      -- the place taken is due, so it is in the list
      taken : (j : ℕ) → next_due s.board ≡ Some j → (t : Bool) → eqb j k ≡ t →
          count_at k (taken_at s.board j) ≡ held (own + cond t 1 0)
      taken j n true q =
          let r = reached s.board j n in
          let due : (place_at s.board j).due ≡ true = ap (λ (i : ℕ). (place_at s.board i).due) (sym r.here) ∙ r.is-due in
          ap (λ (i : ℕ). count_at i (taken_at s.board j)) (sym (eqb-true j k q)) ∙
          ap (λ (p : Place). p.count)
          (get_or-set_same s.board.places j (taken_place (place_at s.board j)) vacant (due_in s.board.places j due)) ∙
          ap (λ (i : ℕ). count_up (place_at s.board i).count) (eqb-true j k q) ∙
          counted-held own le
      taken j n false q =
          set-count s.board.places j k (taken_place (place_at s.board j)) (λ z. eqb-false j k q (sym z)) ∙ held_none own le

      go : TurnCase s samples → count_at k (after_event s (turn samples)).board ≡ held (own + takes_place k (turn_in s samples))
      go (turn-stays f e) = one _ e (held_none own le)
      go (turn-idles n e) = one _ e (held_none own le)
      go (turn-takes j n w v e) = one _ e (taken j n (eqb j k) refl)
  count-step (change images state) free = held_none own le

pub count-from : (k : ℕ) (s : Scene) (es : List Event) → count_at k s.board ≤ 4294967295 → Throughout (NotLoaded k) s es →
    count_at k (after_events s es).board ≡ held (count_at k s.board + total_of (is_taken_at k) s es)
unfolding after_events total_of Throughout
count-from k s [] le free = held_none (count_at k s.board) le
count-from k s (e ∷ es) le free =
    let step = count-step k s le e free.0 in
    count-from k (after_event s e) es (rw step (held-le (count_at k s.board + is_taken_at k s e))) free.1 ∙
    ap (λ (n : ℕ). held (n + total_of (is_taken_at k) (after_event s e) es)) step ∙
    held-add (count_at k s.board) (is_taken_at k s e) (total_of (is_taken_at k) (after_event s e) es)
