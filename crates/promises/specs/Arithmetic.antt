-- Request d: arithmetic that holds at the ends.
use Rattle.std.specs.Prelude.{◌↔◌, ◌≡◌, ℤ}
use Rattle.model.specs.Rules.Word.{nearest}
use Rattle.theorems_images.specs.Nearest.{WordsRange, NearestWord}
use Rattle.theorems_images.specs.Operators.{OperatorBytes, OperatorsGive}

pub record RequestD : Type 0 where
  -- A word is a signed 32-bit integer.
  pub words-range : WordsRange
  -- The nearest word when the true result lies outside the range, and else the result itself: no word is nearer.
  pub nearest-word : (z w : ℤ) → (nearest z ≡ w) ↔ NearestWord z w
  -- 30 ADD, 31 SUB, 32 MUL, 33 LESS, 34 SAME, 35 MIN, 36 MAX; 38 NEG, 3B TABLE.
  pub operators-listed : OperatorBytes
  -- ADD, SUB, MUL and NEG give the nearest word. LESS (signed) and SAME give 1 or 0. IF takes the second operand unless the
  -- condition is 0. The streams are the ones these operators define.
  pub operators-give : OperatorsGive
