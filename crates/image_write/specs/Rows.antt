-- The table of an image by the offsets of its ROWs.
use Rattle.std.specs.Prelude.{ℕ, ◌<◌, List}
use Rattle.model.specs.Rules.Table.{by_low, table_bytes}
use Rattle.model.specs.Says.Rows.{AllUpright, Covers}
use Rattle.rows.specs.Rows.{text_rows, Placed}

-- Its bytes.
abbrev pub table_by : List ℕ → List ℕ → ℕ → List ℕ
table_by text offsets count = table_bytes (by_low (text_rows text offsets count))

-- Rows that stand in the text, no low above its high, and cover if there are some.
pub record TableStands (text offsets : List ℕ) (count : ℕ) : Type 0 where
  pub placed : Placed text offsets count
  pub upright : AllUpright (text_rows text offsets count)
  pub covers : 0 < count → Covers (text_rows text offsets count)
