-- `board::turn` meets its contract. Assumes nothing.
use Rattle.std.specs.Prelude.{Some, None}
use Prim.Native.Nat.{ℕ, ◌+◌, ◌*◌, ◌%◌, ◌<◌}
use mathlib.Core.List.{List}
use mathlib.Core.Path.{◌≡◌, refl, sym, ap, subst, ◌∙◌}
use native.Mathlib.Omega.{arith}
use borrow.Author.Tests.{le-leb, lt-leb}
use lib.IntN.{ℤ}
use lib.ListN.{get_or, set}
use Rattle.model.specs.Rules.Machine.{Effect}
use Rattle.model.specs.Rules.Outcome.{Outcome, accepted}
use Rattle.board.specs.Board.{with_words, next_due, BoardEffect, Yield, idle, took, turn_with, turned_of}
use Rattle.board.proofs.Called.{turn-state, turn-samples, turn-done}
use Rattle.board.proofs.Due.{next-below}
use Rattle.board.specs.Record.{board_of, taken_words, turn_record}
use Rattle.board.proofs.Places.{run-held}
use Rattle.board.proofs.turn.Goals as goal
use Rattle.board.proofs.turn.Goals.{In-Some}

-- what a turn hands back, once its definition is known
abbrev Gives : List ℕ → Outcome Yield → List ℕ → List ℤ → BoardEffect Yield → Type 0
Gives w answer array left x = (answer ≡ x.answer) × (array ≡ turn_record w x.answer) × (left ≡ x.left)

comes : (w : List ℕ) {t u : BoardEffect Yield} {answer : Outcome Yield} {array : List ℕ} {left : List ℤ} → t ≡ u →
    answer ≡ u.answer → array ≡ turn_record w u.answer → left ≡ u.left → Gives w answer array left t
comes w {answer = answer} {array = array} {left = left} e p q r = subst (Gives w answer array left) (sym e) (p, q, r)

-- the place that was found
found : (f : In-Some) → let d = f in
    next_due (board_of d.args.words.now) ≡ Some f.in-Some.place
found f = sym f.next_due.ensures ∙ f.in-Some.is

below : (f : In-Some) → f.in-Some.place < 4
below f = next-below _ _ (found f)

pub returns-then-state-lt-WORDS : goal.returns-then-state-lt-WORDS
returns-then-state-lt-WORDS c =
    let a = c.args in
    let e = turn-state (board_of a.words.now) a.images.now a.state.now a.samples.now (lt-leb _ _ c.if-state-lt-WORDS.true) in
    let g = comes a.words.now e (ap turned_of c.refuse.ensures) refl refl in
    record { answer = g.0; kept = g.1; left = g.2 }

pub returns-then-samples-lt-SAMPLES : goal.returns-then-samples-lt-SAMPLES
returns-then-samples-lt-SAMPLES c =
    let a = c.args in
    let e = turn-samples (board_of a.words.now) a.images.now a.state.now a.samples.now
    (le-leb _ _ c.if-state-lt-WORDS.false) (lt-leb _ _ c.if-samples-lt-SAMPLES.true) in
    let g = comes a.words.now e (ap turned_of c.refuse-then-samples-lt-SAMPLES.ensures) refl refl in
    record { answer = g.0; kept = g.1; left = g.2 }

pub returns-in_default : goal.returns-in_default
unfolding turn_with
returns-in_default c =
    let a = c.args in
    let e = turn-done (board_of a.words.now) a.images.now a.state.now a.samples.now
    (le-leb _ _ c.if-state-lt-WORDS.false) (le-leb _ _ c.if-samples-lt-SAMPLES.false) None
    (sym c.next_due.ensures ∙ c.in_default.is) in
    let g = comes a.words.now {answer = accepted idle} e refl refl refl in
    record { answer = g.0; kept = g.1; left = g.2 }

pub overflow_add-at : goal.overflow_add-at
overflow_add-at c = omega (arith, below (goal.at.overflow_add-at c).In-Some)

pub offset_bounds-words-at-4 : goal.offset_bounds-words-at-4
offset_bounds-words-at-4 c = omega (arith, below (goal.at.offset_bounds-words-at-4 c).In-Some)

pub bounds-words-at-4 : goal.bounds-words-at-4
bounds-words-at-4 c = omega (arith, below (goal.at.bounds-words-at-4 c).In-Some)

pub run_place-run-requires : goal.run_place-run-requires
run_place-run-requires c = (below (goal.at.run_place-run-requires c).In-Some, omega arith, omega arith)

pub overflow_cast-result : goal.overflow_cast-result
overflow_cast-result c = omega (arith, below (goal.at.overflow_cast-result c).In-Some)

pub returns : goal.returns
unfolding turn_with taken_words
returns c =
    let f = (goal.at.returns c).In-Some in
    let a = c.args in
    let w = a.words.now in
    let k = f.in-Some.place in
    let run = run-held w a.images.now a.state.now a.samples.now k (below f) in
    let answer = c.run_place-run.ensures.answer ∙ sym (ap (λ (x : Effect ℕ ℤ). x.answer) run) in
    let e = turn-done (board_of w) a.images.now a.state.now a.samples.now
    (le-leb _ _ c.if-state-lt-WORDS.false) (le-leb _ _ c.if-samples-lt-SAMPLES.false) (Some k) (found f) in
    let g = comes w e (ap (λ o. accepted (took k o)) answer)
    (ap (λ m. set (set (set w (4 * k) (get_or w (4 * k) 0 % 2)) (4 * k + 3) m) 16 k) c.counted-count.ensures)
    (c.run_place-run.ensures.left ∙ ap (with_words k a.state.now) (sym (ap (λ (x : Effect ℕ ℤ). x.left) run))) in
    record { answer = g.0; kept = g.1; left = g.2 }

pub overflow_mul-at : goal.overflow_mul-at
overflow_mul-at c = omega (arith, below c)

pub offset_bounds-words-at : goal.offset_bounds-words-at
offset_bounds-words-at c = omega (arith, below c)

pub bounds-words-at : goal.bounds-words-at
bounds-words-at c = omega (arith, below (goal.at.bounds-words-at c).In-Some)

pub overflow_add-start : goal.overflow_add-start
overflow_add-start c = omega (arith, below (goal.at.overflow_add-start c).In-Some)

pub offset_bounds-words-at-2 : goal.offset_bounds-words-at-2
offset_bounds-words-at-2 c = omega (arith, below (goal.at.offset_bounds-words-at-2 c).In-Some)

pub bounds-words-at-2 : goal.bounds-words-at-2
bounds-words-at-2 c = omega (arith, below (goal.at.bounds-words-at-2 c).In-Some)

pub overflow_add-size : goal.overflow_add-size
overflow_add-size c = omega (arith, below (goal.at.overflow_add-size c).In-Some)

pub offset_bounds-words-at-3 : goal.offset_bounds-words-at-3
offset_bounds-words-at-3 c = omega (arith, below (goal.at.offset_bounds-words-at-3 c).In-Some)

pub bounds-words-at-3 : goal.bounds-words-at-3
bounds-words-at-3 c = omega (arith, below (goal.at.bounds-words-at-3 c).In-Some)

pub offset_bounds-words-at-5 : goal.offset_bounds-words-at-5
offset_bounds-words-at-5 c = omega (arith, below (goal.at.offset_bounds-words-at-5 c).In-Some)

pub bounds-words-at-5 : goal.bounds-words-at-5
bounds-words-at-5 c = omega (arith, below (goal.at.bounds-words-at-5 c).In-Some)

pub overflow_add-words : goal.overflow_add-words
overflow_add-words c = omega (arith, below (goal.at.overflow_add-words c).In-Some)

pub offset_bounds-words-at-6 : goal.offset_bounds-words-at-6
offset_bounds-words-at-6 c = omega (arith, below (goal.at.offset_bounds-words-at-6 c).In-Some)

pub bounds-words-at-6 : goal.bounds-words-at-6
bounds-words-at-6 c = omega (arith, below (goal.at.bounds-words-at-6 c).In-Some)
