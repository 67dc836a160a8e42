-- `text_keyword::is_spelled` meets its contract. Assumes nothing.
use Rattle.text_keyword.proofs.Finding.{Comparing}
use Rattle.text_keyword.proofs.is_spelled.Given as goal

abbrev pub invariant-loop-i : goal.invariant-loop-i
invariant-loop-i l = Comparing l.letters l.token l.i
