-- `board::run_place` meets its contract. Assumes nothing.
use mathlib.Core.List.{List}
use mathlib.Core.Path.{ap, ap₂, ◌∙◌}
use lib.IntN.{ℤ}
use Rattle.board.specs.Board.{with_words, cycle_in}
use Rattle.board.proofs.Words.{part-words, part-samples, put-words}
use Rattle.board.proofs.run_place.Goals as goal

pub returns : goal.returns
returns c =
    let a = c.args in
    let images = a.images.now in
    let state = a.state.now in
    let words = part-words a.place state in
    let samples = part-samples a.place a.samples.now in record {
      answer = c.cycle_place.ensures.0 ∙ ap₂ (λ (ws ss : List ℤ). (cycle_in images a.start a.size ws ss).answer) words samples;
      left = put-words a.place state c.cycle_place.new.words ∙
          ap (with_words a.place state)
          (c.cycle_place.ensures.1 ∙ ap₂ (λ (ws ss : List ℤ). (cycle_in images a.start a.size ws ss).left) words samples);
    }
