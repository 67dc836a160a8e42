-- `text_keyword::table` meets its contract: the table in the code is that of the definitions. Assumes nothing.
use mathlib.Core.Path.{refl}
use Rattle.model.specs.Rules.Search.{table_from, table, join_from}
use Rattle.model.specs.Rules.TextForm.{keywords, names}
use Rattle.text_keyword.specs.Cells.{rows, cells}
use Rattle.text_keyword.proofs.table.Goals as goal

pub returns : goal.returns
unfolding cells rows keywords names join_from table table_from
returns c = refl
