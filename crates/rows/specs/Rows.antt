-- The rows of a text by the offsets of their commands.
use Rattle.std.specs.Prelude.{ℕ, ◌+◌, ◌≤◌, ◌<◌, List, length, get_or}
use Rattle.model.specs.Rules.Search.{table}
use Rattle.model.specs.Rules.Table.{Row, row_from}
use Rattle.model.specs.Rules.Width.{in_program}

abbrev pub text_row : List ℕ → List ℕ → ℕ → Row
text_row text offsets n = row_from text (get_or offsets n 0) (get_or offsets n 0 + 1)

unfoldable pub text_rows : List ℕ → List ℕ → ℕ → List Row
text_rows text offsets count = table count (text_row text offsets)

-- At most 32, each within the text.
abbrev pub Placed : List ℕ → List ℕ → ℕ → Type 0
Placed text offsets count = (count ≤ 32) × ((n : ℕ) → n < count → get_or offsets n 0 + in_program 0x16 ≤ length text)
