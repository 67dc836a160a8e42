-- What a place of a board holds. Assumes nothing.
use Prim.Native.Nat.{ℕ, ◌+◌}
use mathlib.Core.List.{List, ◌∷◌}
use mathlib.Core.Path.{◌≡◌, subst}
use lib.IntN.{ℤ}
use lib.ListN.{length}
use Rattle.board.specs.Board.{place_words}
use Rattle.board.specs.Events.{Event, load, Scene, load_by, after_event, after_events, Throughout, Untouched, own_cycles}
use Rattle.model.specs.Rules.Machine.{stretch}
use Rattle.model.specs.Rules.Outcome.{accepted}
use Rattle.model.specs.Rules.Program.{Program}
use Rattle.model.specs.Rules.Schedule.{Schedule}
use Rattle.theorems_streams.specs.Held.{state_by, log_by, Holds}
use Rattle.board.proofs.Promises.{place-alone, place-cycles}
use Rattle.board.proofs.Lists.{four}

-- What a list on its image holds a place holds, with c the number of turns that ran it since its load: word 0 is the remainder of
-- c by H, signal x its element floor((c − 1 − p)/P), or its initial word if c ≤ p, and words beyond N are as before the load.
pub place-holds : (p : Program) (q : Schedule) (h : ℕ) (s : Scene) (k start size n : ℕ) →
    length s.board.places ≡ 4 → (load_by s k start size).answer ≡ accepted n → (es : List Event) →
    Throughout (Untouched k) (after_event s (load k start size)) es → (X : ℕ → ℕ → ℤ) →
    let image = stretch s.images start (start + size) in
    let cycles = own_cycles k (after_event s (load k start size)) es in
    let old = place_words k s.state in
    Holds p q h X old (length (log_by image old cycles)) (state_by image old cycles) →
    Holds p q h X old (length cycles) (place_words k (after_events s (load k start size ∷ es)).state)
place-holds p q h s k start size n four a es free X holds =
    let image = stretch s.images start (start + size) in
    let cycles = own_cycles k (after_event s (load k start size)) es in
    let old = place_words k s.state in
    rw (place-alone s k start size n four a es free)
    (subst (λ (c : ℕ). Holds p q h X old c (state_by image old cycles)) (place-cycles s k start size n four a es free).1 holds)
