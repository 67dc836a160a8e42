-- The tail by tables: labels, periods and phases by signal.
use Rattle.std.specs.Prelude.{ℕ, List, get_or}
use Rattle.model.specs.Rules.Image.{joined, tail_entry}
use Rattle.model.specs.Rules.Search.{table}

abbrev pub entry_by : List ℕ → List ℕ → List ℕ → ℕ → List ℕ
entry_by labels periods phases x = tail_entry (get_or labels x 0) (get_or periods x 0) (get_or phases x 0)

unfoldable pub tail_by : List ℕ → List ℕ → List ℕ → ℕ → List ℕ
tail_by labels periods phases n = joined (table n (entry_by labels periods phases))
