-- `board::mark` meets its contract. Assumes nothing.
use mathlib.Core.Path.{◌≡◌, sym, ap, ◌∙◌}
use borrow.Author.Tests.{lt-ltb, le-ltb}
use Rattle.model.specs.Rules.Machine.{ran_of}
use Rattle.board.specs.Board.{place_at}
use Rattle.board.proofs.Called.{mark-place, mark-loaded, mark-done}
use Rattle.board.proofs.Cases.{call_answer}
use Rattle.board.specs.Record.{board_of, mark_record}
use Rattle.board.proofs.Places.{loaded-held}
use Rattle.board.proofs.mark.Goals as goal
use Rattle.board.proofs.mark.Goals.{After-is_loaded}

-- whether the place is loaded
held : (l : After-is_loaded) → let a = l.args in
    (place_at (board_of a.words.now) a.place).loaded ≡ l.is_loaded.result
held l = loaded-held _ _ l.if-place-ge-PLACES.false ∙ sym l.is_loaded.ensures

pub returns-then-place-ge-PLACES : goal.returns-then-place-ge-PLACES
returns-then-place-ge-PLACES c =
    let a = c.args in
    let e = sym (ap call_answer (mark-place (board_of a.words.now) a.place (le-ltb _ _ c.if-place-ge-PLACES.true))) in
    record {
      answer = ap ran_of c.refuse.ensures ∙ e;
      kept = ap (mark_record a.words.now a.place) e;
    }

pub returns-then-not-is_loaded : goal.returns-then-not-is_loaded
returns-then-not-is_loaded c =
    let a = c.args in
    let lt = lt-ltb _ _ c.if-place-ge-PLACES.false in
    let loaded = held (goal.at.returns-then-not-is_loaded c).After-is_loaded ∙ c.if-not-is_loaded.true in
    let e = sym (ap call_answer (mark-loaded (board_of a.words.now) a.place lt loaded)) in
    record {
      answer = ap ran_of c.refuse-then-not-is_loaded.ensures ∙ e;
      kept = ap (mark_record a.words.now a.place) e;
    }

pub returns : goal.returns
returns c =
    let a = c.args in
    let lt = lt-ltb _ _ c.if-place-ge-PLACES.false in
    let loaded = held (goal.at.returns c).After-is_loaded ∙ c.if-not-is_loaded.false in
    let e = sym (ap call_answer (mark-done (board_of a.words.now) a.place lt loaded)) in
    record {
      answer = e;
      kept = ap (mark_record a.words.now a.place) e;
    }
