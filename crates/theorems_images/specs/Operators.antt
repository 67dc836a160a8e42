-- The operators in the paper's words: the byte of each, and what it gives.
use Rattle.std.specs.Prelude.{ℕ, ◌<◌, List, ◌↔◌, ◌⊎◌, ◌≡◌, ℤ, pos, neg_ℤ, ◌+ℤ◌, ◌-ℤ◌, ◌*ℤ◌, ◌≤ℤ◌, ◌<ℤ◌}
use Rattle.model.specs.Rules.Image.{binary_byte, unary_byte}
use Rattle.model.specs.Rules.Table.{Row, row_at, unary_word}
use Rattle.model.specs.Rules.Word.{binary_word, if_word}
use Rattle.model.specs.Says.Rows.{Lies}
use Rattle.model.specs.declared.Binary.{Binary}
use Rattle.model.specs.declared.Binary.TheVariants.{Add, Sub, Mul, Less, Same, Min, Max}
use Rattle.model.specs.declared.Unary.{Unary}
use Rattle.model.specs.declared.Unary.TheVariants.{Negate, Table}
use Rattle.theorems_images.specs.Nearest.{NearestWord}

-- Two operands: 30 ADD, 31 SUB, 32 MUL, 33 LESS, 34 SAME, 35 MIN, 36 MAX. One: 38 NEG, 3B TABLE.
pub record OperatorBytes : Type 0 where
  pub add : binary_byte Add ≡ 0x30
  pub sub : binary_byte Sub ≡ 0x31
  pub mul : binary_byte Mul ≡ 0x32
  pub less : binary_byte Less ≡ 0x33
  pub same : binary_byte Same ≡ 0x34
  pub min : binary_byte Min ≡ 0x35
  pub max : binary_byte Max ≡ 0x36
  pub neg : unary_byte Negate ≡ 0x38
  pub table : unary_byte Table ≡ 0x3B

-- A test gives 1 if it holds, and 0 if not.
pub data Tests (P : Type 0) : ℤ → Type 0 where
  holds : P → Tests P (pos 1)
  fails : ¬ P → Tests P (pos 0)

-- One of two words that stands in an order to both.
pub record Extreme (R : ℤ → ℤ → Type 0) (a b w : ℤ) : Type 0 where
  pub one : (w ≡ a) ⊎ (w ≡ b)
  pub first : R w a
  pub second : R w b

-- ADD, SUB and MUL give the nearest word to the true result. LESS (signed) and SAME give 1 or 0. MIN gives one of both that is
-- not above either, MAX one that is not below.
abbrev pub BinaryGives : Binary → ℤ → ℤ → ℤ → Type 0
BinaryGives Add a b w = NearestWord (a +ℤ b) w
BinaryGives Sub a b w = NearestWord (a -ℤ b) w
BinaryGives Mul a b w = NearestWord (a *ℤ b) w
BinaryGives Less a b w = Tests (a <ℤ b) w
BinaryGives Same a b w = Tests (a ≡ b) w
BinaryGives Min a b w = Extreme (λ v u. v ≤ℤ u) a b w
BinaryGives Max a b w = Extreme (λ v u. u ≤ℤ v) a b w

-- TABLE yields the result of the row that contains its operand: of the first, and 0 where there is none. (Rows that cover leave
-- one row to the first case, and no word to the second.)
pub data TableGives (rows : List Row) (a : ℤ) : ℤ → Type 0 where
  row : {n : ℕ} → Lies rows a n → ((m : ℕ) → m < n → ¬ Lies rows a m) → TableGives rows a (row_at rows n).result
  none : ((n : ℕ) → ¬ Lies rows a n) → TableGives rows a (pos 0)

-- NEG gives the nearest word to the true result.
abbrev pub UnaryGives : List Row → Unary → ℤ → ℤ → Type 0
UnaryGives rows Negate a w = NearestWord (neg_ℤ a) w
UnaryGives rows Table a w = TableGives rows a w

-- IF takes the second operand unless the condition is 0.
pub data IfGives (c a b : ℤ) : ℤ → Type 0 where
  second : ¬ (c ≡ pos 0) → IfGives c a b a
  third : c ≡ pos 0 → IfGives c a b b

-- In the streams as in a cycle an operator gives exactly this word.
pub record OperatorsGive : Type 0 where
  pub binary : (operator : Binary) (a b w : ℤ) → (binary_word operator a b ≡ w) ↔ BinaryGives operator a b w
  pub unary : (rows : List Row) (operator : Unary) (a w : ℤ) → (unary_word rows operator a ≡ w) ↔ UnaryGives rows operator a w
  pub choose : (c a b w : ℤ) → (if_word c a b ≡ w) ↔ IfGives c a b w
