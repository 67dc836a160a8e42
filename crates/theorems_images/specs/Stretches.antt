-- Where the lists, the rows and the codes of an image stand, by its bytes.
use Rattle.std.specs.Prelude.{ℕ, ◌+◌, ◌*◌, ◌<◌, List, ◌++◌, ◌≡◌, length}
use Rattle.model.specs.Rules.Machine.{hyper_of, count_of, rows_in}
use Rattle.model.specs.Rules.Table.{row_at}
use Rattle.model.specs.Rules.Word.{byte_at, two_at, word_at}

-- The bytes of an image from one offset to another. Offsets count from byte 0.
pub record IsStretch (image : List ℕ) (from to : ℕ) (bytes : List ℕ) : Type 0 where
  pub before : List ℕ
  pub after : List ℕ
  pub whole : image ≡ before ++ (bytes ++ after)
  pub starts : length before ≡ from
  pub ends : from + length bytes ≡ to

-- The list of cycle c is the stretch between offsets c and c + 1, which stand after the records.
abbrev pub IsList : List ℕ → ℕ → List ℕ → Type 0
IsList image c bytes =
    IsStretch image (two_at image (4 + 6 * count_of image + 2 * c)) (two_at image (4 + 6 * count_of image + 2 * (c + 1))) bytes

-- Where the last list ends stands a count byte, then the rows, 12 bytes each: low, high, result.
pub record RowsStand (image : List ℕ) (at : ℕ) : Type 0 where
  pub here : at ≡ two_at image (4 + 6 * count_of image + 2 * hyper_of image)
  pub many : length (rows_in image) ≡ byte_at image at
  pub low : (n : ℕ) → n < byte_at image at → (row_at (rows_in image) n).low ≡ word_at image (at + 1 + 12 * n)
  pub high : (n : ℕ) → n < byte_at image at → (row_at (rows_in image) n).high ≡ word_at image (at + 1 + 12 * n + 4)
  pub result : (n : ℕ) → n < byte_at image at → (row_at (rows_in image) n).result ≡ word_at image (at + 1 + 12 * n + 8)

-- Code by signal number, without gaps: the code of signal x starts at the offset in its record, behind the initial word; where
-- one after the last would start, the image ends.
pub data CodeStarts (image : List ℕ) (x at : ℕ) : Type 0 where
  signal : x < count_of image → at ≡ two_at image (8 + 6 * x) → CodeStarts image x at
  none : x ≡ count_of image → at ≡ length image → CodeStarts image x at

-- The code of signal x ends where the next one starts.
pub record IsCode (image : List ℕ) (x : ℕ) (bytes : List ℕ) : Type 0 where
  pub from : ℕ
  pub to : ℕ
  pub starts : CodeStarts image x from
  pub ends : CodeStarts image (x + 1) to
  pub stretch : IsStretch image from to bytes
