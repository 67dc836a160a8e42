-- Tables (request j): rows, the result of the row that contains a word, and rows as bytes of an image.
use Rattle.std.specs.Prelude.{ℕ, ◌+◌, ◌*◌, Bool, cond, ◌&&◌, List, [], ◌∷◌, ◌++◌, ℤ, pos, negsuc, length, get_or}
use Rattle.std.specs.Int.Signed.{le_z}
use Rattle.model.specs.Rules.Search.{table, join_from}
use Rattle.model.specs.Rules.Word.{byte_at, word_at, word_bytes, neg_word}
use Rattle.model.specs.declared.Unary.{Unary}
use Rattle.model.specs.declared.Unary.TheVariants.{Negate, Table}

-- A row, with the offset of its ROW.
pub record Row : Type 0 where
  pub place : ℕ
  pub low : ℤ
  pub high : ℤ
  pub result : ℤ

-- A row contains the words from its low to its high, both ends included.
unfoldable pub contains : Row → ℤ → Bool
contains row w = le_z row.low w && le_z w row.high

-- TABLE yields the result of the row that contains its operand: of the first, and 0 where there is none.
unfoldable pub table_word : List Row → ℤ → ℤ
table_word [] w = pos 0
table_word (row ∷ rows) w = cond (contains row w) row.result (table_word rows w)

-- The operators with one operand, in a program or an image with these rows.
abbrev pub unary_word : List Row → Unary → ℤ → ℤ
unary_word rows Negate a = neg_word a
unary_word rows Table a = table_word rows a

-- Row n; beyond the last stands one that contains nothing.
abbrev pub no_row : Row
no_row = record { place = 0; low = pos 0; high = negsuc 0; result = pos 0 }

abbrev pub row_at : List Row → ℕ → Row
row_at rows n = get_or rows n no_row

-- By rising low.
unfoldable pub insert : Row → List Row → List Row
insert row [] = row ∷ []
insert row (other ∷ rows) = cond (le_z row.low other.low) (row ∷ other ∷ rows) (other ∷ insert row rows)

unfoldable pub by_low : List Row → List Row
by_low [] = []
by_low (row ∷ rows) = insert row (by_low rows)

-- 12 bytes a row: low, high, result.
unfoldable pub row_bytes : Row → List ℕ
row_bytes row = word_bytes row.low ++ (word_bytes row.high ++ word_bytes row.result)

-- A count byte and the rows.
unfoldable pub table_bytes : List Row → List ℕ
table_bytes rows = length rows ∷ join_from 0 (λ n row. row_bytes row) rows

-- The row whose three words stand from `at` on.
abbrev pub row_from : List ℕ → ℕ → ℕ → Row
row_from bytes place at =
    record { place = place; low = word_at bytes at; high = word_at bytes (at + 4); result = word_at bytes (at + 8) }

-- So many rows from `start` on, and those after the count byte at `at`: rows of an image have no place of their own.
unfoldable pub rows_from : List ℕ → ℕ → ℕ → List Row
rows_from image start n = table n (λ i. row_from image 0 (start + 12 * i))

unfoldable pub area_rows : List ℕ → ℕ → List Row
area_rows image at = rows_from image (at + 1) (byte_at image at)
