-- Well formed, as a statement over the bytes of an image: the paper's sentence, point by point.
use Rattle.std.specs.Prelude.{ℕ, ◌+◌, ◌*◌, ◌≤◌, ◌<◌, List, ◌≡◌, length}
use Rattle.theorems_images.specs.Height.{Changes}
use Rattle.theorems_images.specs.Stretches.{CodeStarts, IsCode}
use Rattle.model.specs.Rules.Image.{lists_at}
use Rattle.model.specs.Rules.Machine.{
  hyper_of,
  count_of,
  stated_length,
  list_offset,
  table_offset,
  row_count,
  rows_in,
}
use Rattle.model.specs.Rules.Tail.{Bears}
use Rattle.model.specs.Rules.Width.{in_code}
use Rattle.model.specs.Rules.Word.{byte_at}
use Rattle.model.specs.Says.Rows.{AllUpright, Rising, Covers}
use Rattle.model.specs.Says.Written.{CodeWritten}
use Rattle.model.specs.declared.Code.{Code}
use Rattle.model.specs.declared.Code.TheVariants as Code
use Rattle.model.specs.declared.Unary.{Unary}
use Rattle.model.specs.declared.Unary.TheVariants.{Negate, Table}

-- TABLE needs a row.
abbrev pub Served : ℕ → Unary → Type 0
Served rows Negate = Unit {0}
Served rows Table = 0 < rows

-- What may stand before the STORE in the code of signal `own`, in an image of n signals and so many rows: only the codes named,
-- loads below N, FETCH only of the code's own signal, TABLE only where there are rows, and no other STORE.
abbrev pub BeforeStore : ℕ → ℕ → ℕ → Code → Type 0
BeforeStore rows n own Code.EndsEarly = ⊥
BeforeStore rows n own Code.Unknown = ⊥
BeforeStore rows n own (Code.Push w) = Unit {0}
BeforeStore rows n own (Code.Load x) = x < n
BeforeStore rows n own (Code.Fetch x) = x ≡ own
BeforeStore rows n own (Code.Store x) = ⊥
BeforeStore rows n own (Code.Binary operator) = Unit {0}
BeforeStore rows n own (Code.Unary operator) = Served rows operator
BeforeStore rows n own Code.If = Unit {0}

-- The code from an offset on, where the working stack holds `height` words: it ends with STORE of its own signal, the stack
-- holding one word; before that the stack is never short (`Changes`) or over 32.
pub data FormedFrom (rows n own : ℕ) (code : List ℕ) : ℕ → ℕ → Type 0 where
  store : {at : ℕ} → CodeWritten code at (Code.Store own) → at + in_code 0x5F ≡ length code → FormedFrom rows n own code at 1
  onward : {at height width after : ℕ} {c : Code} → CodeWritten code at c → BeforeStore rows n own c → Changes c width height
      after →
      after ≤ 32 → FormedFrom rows n own code (at + width) after → FormedFrom rows n own code at height

pub record WellFormed (image : List ℕ) : Type 0 where
  -- The image is L bytes; H 1 to 240; N up to 64.
  pub stated : stated_length image ≡ length image
  pub hyper-some : 1 ≤ hyper_of image
  pub hyper-most : hyper_of image ≤ 240
  pub signals : count_of image ≤ 64
  -- Every area, list and code starts where the one before ended, the last ending at L.
  pub lists-start : list_offset image 0 ≡ lists_at (count_of image) (hyper_of image)
  pub lists-rise : (c : ℕ) → c < hyper_of image → list_offset image c ≤ list_offset image (c + 1)
  pub codes-start : CodeStarts image 0 (table_offset image + 1 + 12 * row_count image)
  -- List entries are below N.
  pub entries : (i : ℕ) → list_offset image 0 ≤ i → i < table_offset image → byte_at image i < count_of image
  -- At most 32 rows, no low above its high, by rising low; if there is one, they cover.
  pub rows : row_count image ≤ 32
  pub upright : AllUpright (rows_in image)
  pub rising : Rising (rows_in image)
  pub covers : 0 < row_count image → Covers (rows_in image)
  -- Each code, from its start with an empty stack to where the next one starts, the last one to L.
  pub codes : (x : ℕ) → x < count_of image →
      (code : List ℕ) × IsCode image x code × FormedFrom (row_count image) (count_of image) x code 0 0

-- What is lent for an image: its L bytes, or with its tail L + 4N.
pub record WellLent (lent image : List ℕ) : Type 0 where
  pub formed : WellFormed image
  pub tail : List ℕ
  pub bears : Bears image tail lent
