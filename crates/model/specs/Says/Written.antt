-- One command of a text or a code, byte for byte: written (it lies within the text, its first byte is its own, and its operands
-- are in their ranges), cut, or with an operand outside its range. Grammar and stops rest on these; no decoder is named.
use Rattle.std.specs.Prelude.{ℕ, ◌+◌, ◌≤◌, ◌<◌, List, ◌⊎◌, ◌≡◌, length, ◌≤ℤ◌, ◌<ℤ◌}
use Rattle.model.specs.Rules.Command.{index_of, mode_of}
use Rattle.model.specs.Rules.Image.{binary_byte, unary_byte}
use Rattle.model.specs.Rules.Width.{in_program, in_expression, in_schedule, in_code, read_width}
use Rattle.model.specs.Rules.Word.{byte_at, two_at, four_at, word_at}
use Rattle.model.specs.declared.Binary.{Binary}
use Rattle.model.specs.declared.Code.{Code}
use Rattle.model.specs.declared.Code.TheVariants as Code
use Rattle.model.specs.declared.Declaration.{Declaration}
use Rattle.model.specs.declared.Declaration.TheVariants as Declaration
use Rattle.model.specs.declared.Index.TheVariants.{Fixed}
use Rattle.model.specs.declared.Kind.{Kind}
use Rattle.model.specs.declared.Kind.TheVariants.{Now, Last, When, LastWhen, Current}
use Rattle.model.specs.declared.Operator.{Operator}
use Rattle.model.specs.declared.Operator.TheVariants as Operator
use Rattle.model.specs.declared.ScheduleCommand.{ScheduleCommand}
use Rattle.model.specs.declared.ScheduleCommand.TheVariants as ScheduleCommand
use Rattle.model.specs.declared.Unary.{Unary}

-- Periods and n go from 1 to 240.
abbrev pub InPeriods : ℕ → Type 0
InPeriods n = (1 ≤ n) × (n ≤ 240)

-- i is below n, or 255.
abbrev pub InIndices : ℕ → ℕ → Type 0
InIndices i n = (i < n) ⊎ (i ≡ 255)

-- 21 NOW, 22 LAST, 23 WHEN, 24 LASTWHEN, 25 CURRENT.
abbrev pub read_byte : Kind → ℕ
read_byte Now = 0x21
read_byte Last = 0x22
read_byte When = 0x23
read_byte LastWhen = 0x24
read_byte Current = 0x25

-- NOW and LAST, which have a signal alone.
abbrev pub IsPlain : Kind → Type 0
IsPlain Now = Unit {0}
IsPlain Last = Unit {0}
IsPlain When = ⊥
IsPlain LastWhen = ⊥
IsPlain Current = ⊥

-- WHEN, LASTWHEN and CURRENT, which have i and n besides.
abbrev pub IsSampled : Kind → Type 0
IsSampled Now = ⊥
IsSampled Last = ⊥
IsSampled When = Unit {0}
IsSampled LastWhen = Unit {0}
IsSampled Current = Unit {0}

-- The declaration at an offset of the program text.
pub data DeclarationWritten (text : List ℕ) (at : ℕ) : Declaration → Type 0 where
  end : at + in_program 0x00 ≤ length text → byte_at text at ≡ 0x00 → DeclarationWritten text at Declaration.End
  input : at + in_program 0x10 ≤ length text → byte_at text at ≡ 0x10 → InPeriods (byte_at text (at + 1)) →
      DeclarationWritten text at (Declaration.Input (byte_at text (at + 1)) (word_at text (at + 2)))
  equation : at + in_program 0x11 ≤ length text → byte_at text at ≡ 0x11 → InPeriods (byte_at text (at + 1)) →
      DeclarationWritten text at (Declaration.Equation (byte_at text (at + 1)) (word_at text (at + 2)) (two_at text (at + 6)))
  latency : at + in_program 0x12 ≤ length text → byte_at text at ≡ 0x12 → byte_at text (at + 1) ≤ 1 →
      DeclarationWritten text at (Declaration.Latency (mode_of (byte_at text (at + 1))) (two_at text (at + 2)))
  link : at + in_program 0x13 ≤ length text → byte_at text at ≡ 0x13 →
      DeclarationWritten text at (Declaration.Link (byte_at text (at + 1)))
  cap : at + in_program 0x14 ≤ length text → byte_at text at ≡ 0x14 →
      DeclarationWritten text at (Declaration.Cap (four_at text (at + 1)))
  tag : at + in_program 0x15 ≤ length text → byte_at text at ≡ 0x15 →
      DeclarationWritten text at (Declaration.Tag (two_at text (at + 1)))
  row : at + in_program 0x16 ≤ length text → byte_at text at ≡ 0x16 →
      word_at text (at + 1) ≤ℤ word_at text (at + 5) →
      DeclarationWritten text at (Declaration.Row (word_at text (at + 1)) (word_at text (at + 5)) (word_at text (at + 9)))

-- It is cut: its byte stands there, the text ends before its last operand, and the operand that is judged before the others are
-- looked for is in its range, if it is there. Past its end a text reads 0.
pub data DeclarationCut (text : List ℕ) (at : ℕ) : Type 0 where
  -- IN and EQ: the period comes first.
  input : byte_at text at ≡ 0x10 → length text < at + in_program 0x10 →
      (at + 2 ≤ length text → InPeriods (byte_at text (at + 1))) → DeclarationCut text at
  equation : byte_at text at ≡ 0x11 → length text < at + in_program 0x11 →
      (at + 2 ≤ length text → InPeriods (byte_at text (at + 1))) → DeclarationCut text at
  -- LAT: the mode comes first.
  latency : byte_at text at ≡ 0x12 → length text < at + in_program 0x12 →
      (at + 2 ≤ length text → byte_at text (at + 1) ≤ 1) → DeclarationCut text at
  link : byte_at text at ≡ 0x13 → length text < at + in_program 0x13 → DeclarationCut text at
  cap : byte_at text at ≡ 0x14 → length text < at + in_program 0x14 → DeclarationCut text at
  tag : byte_at text at ≡ 0x15 → length text < at + in_program 0x15 → DeclarationCut text at
  -- ROW: low and high come first.
  row : byte_at text at ≡ 0x16 → length text < at + in_program 0x16 →
      (at + 9 ≤ length text → word_at text (at + 1) ≤ℤ word_at text (at + 5)) → DeclarationCut text at

-- It has an operand outside its range, whatever stands after that operand.
pub data DeclarationOutside (text : List ℕ) (at : ℕ) : Type 0 where
  -- IN and EQ: the period.
  input : byte_at text at ≡ 0x10 → at + 2 ≤ length text → ¬ InPeriods (byte_at text (at + 1)) → DeclarationOutside text at
  equation : byte_at text at ≡ 0x11 → at + 2 ≤ length text → ¬ InPeriods (byte_at text (at + 1)) → DeclarationOutside text at
  -- LAT: the mode.
  latency : byte_at text at ≡ 0x12 → at + 2 ≤ length text → 1 < byte_at text (at + 1) → DeclarationOutside text at
  -- ROW: low above high.
  row : byte_at text at ≡ 0x16 → at + 9 ≤ length text → word_at text (at + 5) <ℤ word_at text (at + 1) →
      DeclarationOutside text at

-- The bytes of declarations; LINK, which stands after LAT only, is none of them here.
pub data DeclarationByte (b : ℕ) : Type 0 where
  end : b ≡ 0x00 → DeclarationByte b
  input : b ≡ 0x10 → DeclarationByte b
  equation : b ≡ 0x11 → DeclarationByte b
  latency : b ≡ 0x12 → DeclarationByte b
  cap : b ≡ 0x14 → DeclarationByte b
  tag : b ≡ 0x15 → DeclarationByte b
  row : b ≡ 0x16 → DeclarationByte b

-- The operator at an offset of an expression.
pub data OperatorWritten (text : List ℕ) (at : ℕ) : Operator → Type 0 where
  constant : at + in_expression 0x20 ≤ length text → byte_at text at ≡ 0x20 →
      OperatorWritten text at (Operator.Constant (word_at text (at + 1)))
  -- NOW and LAST: a signal.
  plain : (kind : Kind) → IsPlain kind → at + in_expression 0x21 ≤ length text →
      byte_at text at ≡ read_byte kind →
      OperatorWritten text at (Operator.Read kind (record { signal = byte_at text (at + 1); factor = 1; index = Fixed 0 }))
  -- WHEN, LASTWHEN and CURRENT: a signal, i and n; i is below n, or 255.
  sampled : (kind : Kind) → IsSampled kind → at + in_expression 0x23 ≤ length text →
      byte_at text at ≡ read_byte kind → InPeriods (byte_at text (at + 3)) →
      InIndices (byte_at text (at + 2)) (byte_at text (at + 3)) →
      OperatorWritten text at (Operator.Read kind
      (record { signal = byte_at text (at + 1); factor = byte_at text (at + 3); index = index_of (byte_at text (at + 2)) }))
  -- 30 ADD to 36 MAX, 38 NEG, 3B TABLE, 3A IF.
  binary : (operator : Binary) → at + in_expression 0x30 ≤ length text → byte_at text at ≡ binary_byte operator →
      OperatorWritten text at (Operator.Binary operator)
  unary : (operator : Unary) → at + in_expression 0x38 ≤ length text → byte_at text at ≡ unary_byte operator →
      OperatorWritten text at (Operator.Unary operator)
  choose : at + in_expression 0x3A ≤ length text → byte_at text at ≡ 0x3A → OperatorWritten text at Operator.If

-- It is cut. A signal takes any byte, and i is judged with n, the last.
pub data OperatorCut (text : List ℕ) (at : ℕ) : Type 0 where
  constant : byte_at text at ≡ 0x20 → length text < at + in_expression 0x20 → OperatorCut text at
  read : (kind : Kind) → byte_at text at ≡ read_byte kind → length text < at + read_width kind → OperatorCut text at

-- It has an operand outside its range: i and n of WHEN, LASTWHEN and CURRENT.
pub data OperatorOutside (text : List ℕ) (at : ℕ) : Type 0 where
  sampled : (kind : Kind) → IsSampled kind → at + in_expression 0x23 ≤ length text →
      byte_at text at ≡ read_byte kind →
      ¬ (InPeriods (byte_at text (at + 3)) × InIndices (byte_at text (at + 2)) (byte_at text (at + 3))) → OperatorOutside text at

-- The bytes of expressions: 20 CONST, 21 NOW to 25 CURRENT, 30 ADD to 36 MAX, 38 NEG, 3B TABLE, 3A IF.
pub data OperatorByte (b : ℕ) : Type 0 where
  constant : b ≡ 0x20 → OperatorByte b
  read : (kind : Kind) → b ≡ read_byte kind → OperatorByte b
  binary : (operator : Binary) → b ≡ binary_byte operator → OperatorByte b
  unary : (operator : Unary) → b ≡ unary_byte operator → OperatorByte b
  choose : b ≡ 0x3A → OperatorByte b

-- The command at an offset of the schedule text.
pub data PutWritten (text : List ℕ) (at : ℕ) : ScheduleCommand → Type 0 where
  end : at + in_schedule 0x00 ≤ length text → byte_at text at ≡ 0x00 → PutWritten text at ScheduleCommand.End
  put : at + in_schedule 0x40 ≤ length text → byte_at text at ≡ 0x40 →
      PutWritten text at (ScheduleCommand.Put (byte_at text (at + 1)) (byte_at text (at + 2)))

-- It is cut: a PUT whose signal or phase is missing. It is none: neither END nor PUT.
abbrev pub PutCut : List ℕ → ℕ → Type 0
PutCut text at = (byte_at text at ≡ 0x40) × (length text < at + in_schedule 0x40)

abbrev pub NoPutByte : ℕ → Type 0
NoPutByte b = ¬ (b ≡ 0x00) × ¬ (b ≡ 0x40)

-- The command at an offset of an image's code.
pub data CodeWritten (code : List ℕ) (at : ℕ) : Code → Type 0 where
  push : at + in_code 0x50 ≤ length code → byte_at code at ≡ 0x50 → CodeWritten code at (Code.Push (word_at code (at + 1)))
  load : at + in_code 0x51 ≤ length code → byte_at code at ≡ 0x51 → CodeWritten code at (Code.Load (byte_at code (at + 1)))
  fetch : at + in_code 0x52 ≤ length code → byte_at code at ≡ 0x52 → CodeWritten code at (Code.Fetch (byte_at code (at + 1)))
  store : at + in_code 0x5F ≤ length code → byte_at code at ≡ 0x5F → CodeWritten code at (Code.Store (byte_at code (at + 1)))
  binary : (operator : Binary) → at + in_code 0x30 ≤ length code → byte_at code at ≡ binary_byte operator →
      CodeWritten code at (Code.Binary operator)
  unary : (operator : Unary) → at + in_code 0x38 ≤ length code → byte_at code at ≡ unary_byte operator →
      CodeWritten code at (Code.Unary operator)
  choose : at + in_code 0x3A ≤ length code → byte_at code at ≡ 0x3A → CodeWritten code at Code.If

-- A command that is read whole: neither cut, nor unknown, nor with an operand outside its range.
abbrev pub DeclarationWhole : Declaration → Type 0
DeclarationWhole Declaration.EndsEarly = ⊥
DeclarationWhole Declaration.Unknown = ⊥
DeclarationWhole Declaration.OutOfRange = ⊥
DeclarationWhole Declaration.End = Unit {0}
DeclarationWhole (Declaration.Input period initial) = Unit {0}
DeclarationWhole (Declaration.Equation period initial weight) = Unit {0}
DeclarationWhole (Declaration.Latency mode bound) = Unit {0}
DeclarationWhole (Declaration.Link signal) = Unit {0}
DeclarationWhole (Declaration.Cap n) = Unit {0}
DeclarationWhole (Declaration.Tag label) = Unit {0}
DeclarationWhole (Declaration.Row low high result) = Unit {0}

abbrev pub OperatorWhole : Operator → Type 0
OperatorWhole Operator.EndsEarly = ⊥
OperatorWhole Operator.Unknown = ⊥
OperatorWhole Operator.OutOfRange = ⊥
OperatorWhole (Operator.Constant w) = Unit {0}
OperatorWhole (Operator.Read kind operands) = Unit {0}
OperatorWhole (Operator.Binary operator) = Unit {0}
OperatorWhole (Operator.Unary operator) = Unit {0}
OperatorWhole Operator.If = Unit {0}

abbrev pub PutWhole : ScheduleCommand → Type 0
PutWhole ScheduleCommand.EndsEarly = ⊥
PutWhole ScheduleCommand.Unknown = ⊥
PutWhole ScheduleCommand.End = Unit {0}
PutWhole (ScheduleCommand.Put signal phase) = Unit {0}

abbrev pub CodeWhole : Code → Type 0
CodeWhole Code.EndsEarly = ⊥
CodeWhole Code.Unknown = ⊥
CodeWhole (Code.Push w) = Unit {0}
CodeWhole (Code.Load x) = Unit {0}
CodeWhole (Code.Fetch x) = Unit {0}
CodeWhole (Code.Store x) = Unit {0}
CodeWhole (Code.Binary operator) = Unit {0}
CodeWhole (Code.Unary operator) = Unit {0}
CodeWhole Code.If = Unit {0}
