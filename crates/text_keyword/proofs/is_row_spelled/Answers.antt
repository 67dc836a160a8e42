-- `text_keyword::is_row_spelled` meets its contract. Assumes nothing.
use Rattle.text_keyword.proofs.Finding.{part-rest}
use Rattle.text_keyword.proofs.is_row_spelled.Goals as goal

pub returns : goal.returns
returns c = let e = c.is_spelled.ensures in rw part-rest at e
