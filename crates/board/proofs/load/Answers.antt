-- `board::load` meets its contract. Assumes nothing.
use Prim.Native.Nat.{ℕ}
use mathlib.Core.Bool.{true}
use mathlib.Core.List.{List}
use mathlib.Core.Path.{◌≡◌, refl, sym, ap, ◌∙◌}
use Rattle.std.specs.Prelude.{Err}
use Rattle.std.proofs.lemmas.Result.{err_from_is_err_and}
use borrow.Author.Tests.{lt-ltb, le-ltb, le-leb, lt-leb}
use lib.Dec.{leb, ltb}
use lib.IntN.{ℤ}
use lib.ListN.{length}
use Rattle.model.specs.Rules.Machine.{ran_of, reset_of}
use Rattle.model.specs.Rules.Outcome.{Outcome, refused}
use Rattle.board.specs.Board.{place_words, with_words, reset_in, BoardEffect}
use Rattle.board.proofs.Called.{load-place, load-state, load-refused, load-done}
use Rattle.board.proofs.Cases.{call_answer}
use Rattle.board.proofs.Stretch.{reset-keeps, on-keeps}
use Rattle.board.proofs.Words.{words_same}
use Rattle.board.specs.Record.{board_of, loaded_words, load_record}
use Rattle.board.proofs.load.Goals as goal
use Rattle.board.proofs.load.Goals.{Else-state-lt-WORDS}

-- what a load hands back, once its definition is known
gives : (w : List ℕ) (k start size : ℕ) {t u : BoardEffect ℕ} {answer : Outcome ℕ} {array : List ℕ} {left : List ℤ} → t ≡ u →
    answer ≡ u.answer → array ≡ load_record w k start size u.answer → left ≡ u.left →
    (answer ≡ t.answer) × (array ≡ load_record w k start size t.answer) × (left ≡ t.left)
gives w k start size e p q r =
    let s = sym (ap call_answer e) in
    (p ∙ s, q ∙ ap (load_record w k start size) s, r ∙ sym (ap (λ (x : BoardEffect ℕ). x.left) e))

below : (e : Else-state-lt-WORDS) → ltb e.args.place 4 ≡ true
below e = lt-ltb _ _ e.if-place-ge-PLACES.false

enough : (e : Else-state-lt-WORDS) → leb 260 (length e.args.state.now) ≡ true
enough e = le-leb _ _ e.if-state-lt-WORDS.false

pub returns-then-place-ge-PLACES : goal.returns-then-place-ge-PLACES
returns-then-place-ge-PLACES c =
    let a = c.args in
    let e = load-place (board_of a.words.now) a.images.now a.state.now a.place a.start a.size
    (le-ltb _ _ c.if-place-ge-PLACES.true) in
    let g = gives a.words.now a.place a.start a.size e (ap ran_of c.refuse.ensures) refl refl in
    record { answer = g.0; kept = g.1; left = g.2 }

pub returns-then-state-lt-WORDS : goal.returns-then-state-lt-WORDS
returns-then-state-lt-WORDS c =
    let a = c.args in
    let e = load-state (board_of a.words.now) a.images.now a.state.now a.place a.start a.size
    (lt-ltb _ _ c.if-place-ge-PLACES.false) (lt-leb _ _ c.if-state-lt-WORDS.true) in
    let g = gives a.words.now a.place a.start a.size e (ap ran_of c.refuse-then-state-lt-WORDS.ensures) refl refl in
    record { answer = g.0; kept = g.1; left = g.2 }

pub returns-in_err-load_place : goal.returns-in_err-load_place
returns-in_err-load_place c =
    let e = (goal.at.returns-in_err-load_place c).Else-state-lt-WORDS in
    let a = c.args in
    let f = c.in_err-load_place.field-0.0 in
    let words = place_words a.place a.state.now in
    let h : (reset_in a.images.now a.start a.size (place_words a.place a.state.now)).answer ≡ refused f =
    sym c.in_err-load_place.ensures.answer in
    let p = err_from_is_err_and c.from_residual.result c.from_residual.ensures.1 in
    let t = load-refused (board_of a.words.now) a.images.now a.state.now a.place a.start a.size (below e) (enough e) f h in
    let g = gives a.words.now a.place a.start a.size t (ap ran_of (p.1 ∙ ap Err p.2)) refl
    (c.load_place.ensures.left ∙
    ap (with_words a.place a.state.now)
    (on-keeps a.images.now a.start a.size words (λ image. reset_of image words) (reset-keeps words) f h) ∙
    words_same a.place a.state.now) in
    record { answer = g.0; kept = g.1; left = g.2 }

pub returns : goal.returns
unfolding loaded_words
returns c =
    let e = (goal.at.returns c).Else-state-lt-WORDS in
    let a = c.args in
    let d = ap ran_of c.in_ok-load_place.was in
    let t = load-done (board_of a.words.now) a.images.now a.state.now a.place a.start a.size (below e) (enough e) 0
    (sym c.load_place.ensures.answer ∙ d) in
    let g = gives a.words.now a.place a.start a.size t refl refl c.load_place.ensures.left in
    record { answer = g.0; kept = g.1; left = g.2 }
