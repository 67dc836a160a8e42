-- The rows of joined parts, by the tables of the one part that has some.
use Rattle.std.specs.Prelude.{ℕ, ◌≤◌, ◌<◌, List, ◌≡◌, length, get_or}
use Rattle.model.specs.Rules.Parts.{Part, joined_parts, tabled_parts, part_at}
use Rattle.model.specs.Rules.Table.{Row, row_at}
use Rattle.join_gather.specs.declared.Table.{Table}

-- No part has rows yet.
pub record NoTable (t : Table) : Type 0 where
  pub no-parts : t.parts ≡ 0
  pub no_rows : t.rows ≡ 0
  pub space : length t.offsets ≡ 32

-- The table has these rows, which are those of part t .part if there are some.
pub record RowsOf (parts : List Part) (rows : List Row) (t : Table) : Type 0 where
  pub counted : length rows ≡ t.rows
  pub offsets : (n : ℕ) → n < length rows → get_or t.offsets n 0 ≡ (row_at rows n).place
  pub inside : 0 < t.rows → t.part < length parts
  pub rows_are : 0 < t.rows → (part_at parts t.part).program.rows ≡ rows

-- How many parts have rows; where one or none has, the rows are the joined program's.
pub record TableOf (parts : List Part) (t : Table) : Type 0 where
  pub tabled : t.parts ≡ tabled_parts parts
  pub few : t.parts ≤ length parts
  pub one : t.parts ≤ 1 → RowsOf parts (joined_parts parts).program.rows t
