-- What the rows of a join are written from.
use Rattle.std.specs.Prelude.{ℕ, ◌≤◌, List, ◌≡◌}
use Rattle.model.specs.Rules.Join.{parts_in, texts_at, program_text, lent, parts_from}
use Rattle.model.specs.Rules.Outcome.{accepted}
use Rattle.model.specs.Rules.Parts.{Part}
use Rattle.model.specs.Rules.Table.{by_low, table_bytes}
use Rattle.rows.specs.Rows.{text_rows}
use Rattle.join_gather.specs.Rows.{TableOf}
use Rattle.join_gather.specs.declared.Table.{Table}

-- Texts that are lent, the parts that they are, each accepted, and the rows, which stand in one part at most.
pub record RowsReady (texts numbers : List ℕ) (t : Table) : Type 0 where
  pub lent-texts : lent texts numbers ≡ accepted tt
  pub parts : List Part
  pub checked : parts_from texts numbers 0 (parts_in numbers) ≡ accepted parts
  pub table : TableOf parts t
  pub one : t.parts ≤ 1

-- The bytes of the rows, which stand in the text of one part.
unfoldable pub rows_by : List ℕ → List ℕ → Table → List ℕ
rows_by texts numbers t =
    table_bytes (by_low (text_rows (program_text texts (texts_at numbers t.part)) t.offsets t.rows))
