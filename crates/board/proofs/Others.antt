-- A call at one place leaves all that is no part of it. Assumes nothing.
use Prim.Native.Nat.{ℕ}
use mathlib.Core.List.{List}
use mathlib.Core.Path.{◌≡◌, refl, sym, ap, ◌∙◌}
use borrow.Author.Tests.{leb-true}
use lib.IntN.{ℤ}
use lib.ListN.{length}
use Rattle.model.specs.Rules.Outcome.{Outcome, accepted}
use Rattle.board.specs.Board.{loaded_at, marked_at, taken_at, took}
use Rattle.board.specs.Events.{Event, load, mark, turn, change, Scene, turn_in, after_event, OfPlace, Elsewhere}
use Rattle.board.proofs.Alone.{reset-in-length, run_length}
use Rattle.board.proofs.Cases.{
  LoadCase,
  load-stays,
  load_does,
  MarkCase,
  mark-stays,
  mark-does,
  TurnCase,
  turn-stays,
  turn-idles,
  turn-takes,
  load-case,
  mark-case,
  turn-case,
  turn_answer,
  reset_by,
  run_by,
}
use Rattle.board.proofs.Due.{next-below}
use Rattle.board.proofs.Round.{set_other}
use Rattle.board.proofs.Words.{put-length, words-elsewhere}

nothing : (k : ℕ) (s t : Scene) → t ≡ s → Elsewhere k s t
nothing k s t e =
    record { images = ap (λ (x : Scene). x.images) e; size = rw e; words = λ i ne. rw e; places = λ j ne. rw e }

module _ (s : Scene) where
  load-elsewhere : (k start size : ℕ) → Elsewhere k s (after_event s (load k start size))
  unfolding after_event loaded_at
  load-elsewhere k start size = go (load-case s k start size)
    where
      go : LoadCase s k start size → Elsewhere k s (after_event s (load k start size))
      go (load-stays f e) = nothing k s (after_event s (load k start size)) (rw e)
      go (load_does lt w n h e) =
          let le = leb-true 260 (length s.state) w in
          let words = (reset_by s k start size).left in
          let long = reset-in-length s.images start size k s.state lt le in
          record {
            images = refl;
            size = rw e (put-length k s.state words lt le long);
            words = λ i ne. rw e (words-elsewhere k s.state words lt le long i ne);
            places = λ j ne. rw e (set_other s.board.places k j _ ne);
          }

  mark-elsewhere : (k : ℕ) → Elsewhere k s (after_event s (mark k))
  unfolding after_event marked_at
  mark-elsewhere k = go (mark-case s k)
    where
      go : MarkCase s k → Elsewhere k s (after_event s (mark k))
      go (mark-stays f e) = nothing k s (after_event s (mark k)) (rw e)
      go (mark-does lt l e) =
          record {
            images = refl;
            size = refl;
            words = λ i ne. refl;
            places =
                λ j ne. rw e (set_other s.board.places k j _ ne);
          }

  turn-elsewhere : (samples : List ℤ) (k : ℕ) (o : Outcome ℕ) → turn_in s samples ≡ accepted (took k o) →
      Elsewhere k s (after_event s (turn samples))
  unfolding after_event taken_at
  turn-elsewhere samples k o h = go (turn-case s samples)
    where
      go : TurnCase s samples → Elsewhere k s (after_event s (turn samples))
      go (turn-stays f e) = nothing k s (after_event s (turn samples)) (rw e)
      go (turn-idles n e) = nothing k s (after_event s (turn samples)) (rw e)
      go (turn-takes j n w v e) =
          let q = sym (ap turn_answer e) ∙ h in
          let place : j ≡ k = cc in
          let lt = next-below s.board j n in
          let le = leb-true 260 (length s.state) w in
          let words = (run_by s samples j).left in
          let long = run_length s.board s.images s.state samples j lt le in
          record {
            images = refl;
            size = rw e (put-length j s.state words lt le long);
            words = λ i ne. rw e (words-elsewhere j s.state words lt le long i (λ z. ne (z ∙ place)));
            places = λ m ne. rw e (set_other s.board.places j m _ (λ z. ne (z ∙ place)));
          }

  pub event-elsewhere : (e : Event) (k : ℕ) → OfPlace k s e → Elsewhere k s (after_event s e)
  unfolding OfPlace
  event-elsewhere (load j start size) k p = rw (← p) (load-elsewhere j start size)
  event-elsewhere (mark j) k p = rw (← p) (mark-elsewhere j)
  event-elsewhere (turn samples) k (o, h) = turn-elsewhere samples k o h
  event-elsewhere (change images state) k p = absurd p
