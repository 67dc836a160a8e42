-- `text_list::put_letters` meets its contract. Assumes nothing.
use lib.ListN.{drop}
use Rattle.model.proofs.Basics.Left.{Left}
use Rattle.text_keyword.specs.Cells.{letters_of}
use Rattle.text_list.proofs.put_letters.Given as goal

abbrev pub invariant-loop-letter : goal.invariant-loop-letter
invariant-loop-letter l =
    Left l.initial.out l.to (letters_of l.letters) l.out l.end (letters_of (drop l.letter-index l.letters))
