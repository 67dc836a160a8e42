-- What is asked of rows, as statements over all words of the range (request j).
use Rattle.std.specs.Prelude.{ℕ, suc, ◌<◌, List, [], ◌∷◌, ◌≡◌, ℤ, length, ◌≤ℤ◌, ◌<ℤ◌}
use Rattle.model.specs.Rules.Table.{Row, row_at}
use Rattle.model.specs.Says.Words.{IsWord}

-- Word w lies in row n, both ends included.
pub record Lies (rows : List Row) (w : ℤ) (n : ℕ) : Type 0 where
  pub inside : n < length rows
  pub from_low : (row_at rows n).low ≤ℤ w
  pub to_high : w ≤ℤ (row_at rows n).high

-- No word lies in two rows.
abbrev pub Disjoint : List Row → Type 0
Disjoint rows = (w : ℤ) → IsWord w → (m n : ℕ) → Lies rows w m → Lies rows w n → m ≡ n

-- Every word lies in exactly one row.
abbrev pub Covers : List Row → Type 0
Covers rows = (w : ℤ) → IsWord w → (n : ℕ) × Lies rows w n × ((m : ℕ) → Lies rows w m → m ≡ n)

-- Two rows have a word in common.
abbrev pub Meet : List Row → ℕ → ℕ → Type 0
Meet rows m n = (w : ℤ) × IsWord w × Lies rows w m × Lies rows w n

-- 29: row n is the first in the text that meets an earlier one.
pub record FirstMeets (rows : List Row) (n : ℕ) : Type 0 where
  pub inside : n < length rows
  pub earlier : (m : ℕ) × (m < n) × Meet rows m n
  pub none : (k : ℕ) → k < n → (m : ℕ) → m < k → Meet rows m k → ⊥

-- 30: a word lies in no row.
abbrev pub Gap : List Row → Type 0
Gap rows = (w : ℤ) × IsWord w × ((n : ℕ) → Lies rows w n → ⊥)

-- A row of words, its low not above its high.
pub record Upright (row : Row) : Type 0 where
  pub low_word : IsWord row.low
  pub high_word : IsWord row.high
  pub upright : row.low ≤ℤ row.high

abbrev pub AllUpright : List Row → Type 0
AllUpright rows = (n : ℕ) → n < length rows → Upright (row_at rows n)

-- By rising low.
abbrev pub Rising : List Row → Type 0
Rising rows = (n : ℕ) → suc n < length rows → (row_at rows n).low <ℤ (row_at rows (suc n)).low

-- The same rows, perhaps in another order.
pub data Reordered : List Row → List Row → Type 0 where
  empty : Reordered [] []
  keep : {row : Row} {rows others : List Row} → Reordered rows others → Reordered (row ∷ rows) (row ∷ others)
  swap : {a b : Row} {rows : List Row} → Reordered (a ∷ b ∷ rows) (b ∷ a ∷ rows)
  then : {xs ys zs : List Row} → Reordered xs ys → Reordered ys zs → Reordered xs zs

-- Rows with the same words, one by one. (Rows of an image have no place of their own.)
pub record SameWords (a b : Row) : Type 0 where
  pub low : a.low ≡ b.low
  pub high : a.high ≡ b.high
  pub result : a.result ≡ b.result

pub record Alike (xs ys : List Row) : Type 0 where
  pub long : length xs ≡ length ys
  pub each : (n : ℕ) → n < length xs → SameWords (row_at xs n) (row_at ys n)
