-- Request j as statements: what TABLE yields, the rows of an image, and images from before.
use Rattle.std.specs.Prelude.{ℕ, ◌≤◌, List, ◌≡◌, ℤ, length}
use Rattle.model.specs.Rules.Machine.{hyper_of, stated_length, list_offset, code_offset}
use Rattle.model.specs.Rules.Table.{Row, row_at}
use Rattle.model.specs.Says.Rows.{Lies, Rising, Reordered, Alike}
use Rattle.model.specs.Says.Words.{IsWord}

-- Rows yield `result` for w: w is a word that lies in exactly one row, and the result is that row's.
pub record Yields (rows : List Row) (w result : ℤ) : Type 0 where
  pub word : IsWord w
  pub row : ℕ
  pub lies : Lies rows w row
  pub only : (m : ℕ) → Lies rows w m → m ≡ row
  pub is : result ≡ (row_at rows row).result

-- The rows stored in an image are a program's, each once, by rising low.
pub record StoresRows (rows stored : List Row) : Type 0 where
  pub ordered : List Row
  pub reordered : Reordered rows ordered
  pub alike : Alike stored ordered
  pub rising : Rising stored

-- An image from before: L bytes, and its code starts where its last list ends.
pub record WithoutTable (image : List ℕ) : Type 0 where
  pub four : 4 ≤ length image
  pub stated : stated_length image ≡ length image
  pub adjacent : code_offset image 0 ≡ list_offset image (hyper_of image)
