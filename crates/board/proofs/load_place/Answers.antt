-- `board::load_place` meets its contract. Assumes nothing.
use mathlib.Core.List.{List}
use mathlib.Core.Path.{ap, ◌∙◌}
use lib.IntN.{ℤ}
use Rattle.board.specs.Board.{with_words, reset_in}
use Rattle.board.proofs.Words.{part-words, put-words}
use Rattle.board.proofs.load_place.Goals as goal

pub returns : goal.returns
returns c =
    let a = c.args in
    let images = a.images.now in
    let state = a.state.now in
    let words = part-words a.place state in record {
      answer = c.reset_place.ensures.0 ∙ ap (λ (ws : List ℤ). (reset_in images a.start a.size ws).answer) words;
      left = put-words a.place state c.reset_place.new.words ∙
          ap (with_words a.place state)
          (c.reset_place.ensures.1 ∙ ap (λ (ws : List ℤ). (reset_in images a.start a.size ws).left) words);
    }
