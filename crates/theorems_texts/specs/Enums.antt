-- The enums of the texts and of image code, case by case: the paper's byte and values for each. (Those of the answers stand with
-- their
-- calls: `yielded_of`, `reported_of`, `ran_of`, `cycled_of`.)
use Rattle.std.specs.Prelude.{ℕ, ◌≤◌, ◌<◌, ◌^◌, List, [], ◌∷◌, ◌++◌, ◌≡◌, length, take, drop, ◌≤ℤ◌}
use Rattle.model.specs.Rules.Image.{binary_byte, unary_byte}
use Rattle.model.specs.Rules.Word.{two_bytes, four_bytes, word_bytes}
use Rattle.model.specs.Says.Written.{InPeriods, read_byte}
use Rattle.model.specs.Says.Words.{IsWord}
use Rattle.model.specs.declared.Code.{Code}
use Rattle.model.specs.declared.Code.TheVariants as Code
use Rattle.model.specs.declared.Declaration.{Declaration}
use Rattle.model.specs.declared.Declaration.TheVariants as Declaration
use Rattle.model.specs.declared.Index.{Index}
use Rattle.model.specs.declared.Index.TheVariants.{Fixed, Open}
use Rattle.model.specs.declared.Kind.{Kind}
use Rattle.model.specs.declared.Kind.TheVariants.{Now, Last, When, LastWhen, Current}
use Rattle.model.specs.declared.Mode.{Mode}
use Rattle.model.specs.declared.Mode.TheVariants.{Exists, Backward}
use Rattle.model.specs.declared.Operator.{Operator}
use Rattle.model.specs.declared.Operator.TheVariants as Operator
use Rattle.model.specs.declared.Sampled.{Sampled}
use Rattle.model.specs.declared.ScheduleCommand.{ScheduleCommand}
use Rattle.model.specs.declared.ScheduleCommand.TheVariants as ScheduleCommand

-- 0 exists, 1 backward.
abbrev pub mode_byte : Mode → ℕ
mode_byte Exists = 0
mode_byte Backward = 1

-- 255 leaves the index open.
abbrev pub index_byte : Index → ℕ
index_byte (Fixed i) = i
index_byte Open = 255

-- NOW s and LAST s; WHEN, LASTWHEN and CURRENT s i n.
abbrev pub operand_bytes : Kind → Sampled → List ℕ
operand_bytes Now x = x.signal ∷ []
operand_bytes Last x = x.signal ∷ []
operand_bytes When x = x.signal ∷ index_byte x.index ∷ x.factor ∷ []
operand_bytes LastWhen x = x.signal ∷ index_byte x.index ∷ x.factor ∷ []
operand_bytes Current x = x.signal ∷ index_byte x.index ∷ x.factor ∷ []

-- A declaration. What was not read whole has no bytes.
abbrev pub declaration_bytes : Declaration → List ℕ
declaration_bytes Declaration.EndsEarly = []
declaration_bytes Declaration.Unknown = []
declaration_bytes Declaration.OutOfRange = []
declaration_bytes Declaration.End = 0x00 ∷ []
declaration_bytes (Declaration.Input period initial) = 0x10 ∷ period ∷ word_bytes initial
declaration_bytes (Declaration.Equation period initial weight) = 0x11 ∷ period ∷ (word_bytes initial ++ two_bytes weight)
declaration_bytes (Declaration.Latency mode bound) = 0x12 ∷ mode_byte mode ∷ two_bytes bound
declaration_bytes (Declaration.Link signal) = 0x13 ∷ signal ∷ []
declaration_bytes (Declaration.Cap n) = 0x14 ∷ four_bytes n
declaration_bytes (Declaration.Tag label) = 0x15 ∷ two_bytes label
declaration_bytes (Declaration.Row low high result) = 0x16 ∷ (word_bytes low ++ word_bytes high ++ word_bytes result)

-- An operator of an expression.
abbrev pub operator_bytes : Operator → List ℕ
operator_bytes Operator.EndsEarly = []
operator_bytes Operator.Unknown = []
operator_bytes Operator.OutOfRange = []
operator_bytes (Operator.Constant w) = 0x20 ∷ word_bytes w
operator_bytes (Operator.Read kind x) = read_byte kind ∷ operand_bytes kind x
operator_bytes (Operator.Binary operator) = binary_byte operator ∷ []
operator_bytes (Operator.Unary operator) = unary_byte operator ∷ []
operator_bytes Operator.If = 0x3A ∷ []

-- A command of the schedule text.
abbrev pub put_bytes : ScheduleCommand → List ℕ
put_bytes ScheduleCommand.EndsEarly = []
put_bytes ScheduleCommand.Unknown = []
put_bytes ScheduleCommand.End = 0x00 ∷ []
put_bytes (ScheduleCommand.Put signal phase) = 0x40 ∷ signal ∷ phase ∷ []

-- A command of an image's code.
abbrev pub code_bytes : Code → List ℕ
code_bytes Code.EndsEarly = []
code_bytes Code.Unknown = []
code_bytes (Code.Push w) = 0x50 ∷ word_bytes w
code_bytes (Code.Load x) = 0x51 ∷ x ∷ []
code_bytes (Code.Fetch x) = 0x52 ∷ x ∷ []
code_bytes (Code.Store x) = 0x5F ∷ x ∷ []
code_bytes (Code.Binary operator) = binary_byte operator ∷ []
code_bytes (Code.Unary operator) = unary_byte operator ∷ []
code_bytes Code.If = 0x3A ∷ []

-- i is below n, or open. NOW and LAST have factor 1 and index 0, and neither in the text.
abbrev pub IndexBelow : ℕ → Index → Type 0
IndexBelow n (Fixed i) = (i < n) × (i < 255)
IndexBelow n Open = Unit {0}

abbrev pub RangedRead : Kind → Sampled → Type 0
RangedRead Now x = (x.factor ≡ 1) × (x.index ≡ Fixed 0)
RangedRead Last x = (x.factor ≡ 1) × (x.index ≡ Fixed 0)
RangedRead When x = InPeriods x.factor × IndexBelow x.factor x.index
RangedRead LastWhen x = InPeriods x.factor × IndexBelow x.factor x.index
RangedRead Current x = InPeriods x.factor × IndexBelow x.factor x.index

-- The operands are within their ranges, and the command was read whole.
abbrev pub DeclarationRanged : Declaration → Type 0
DeclarationRanged Declaration.EndsEarly = ⊥
DeclarationRanged Declaration.Unknown = ⊥
DeclarationRanged Declaration.OutOfRange = ⊥
DeclarationRanged Declaration.End = Unit {0}
DeclarationRanged (Declaration.Input period initial) = InPeriods period × IsWord initial
DeclarationRanged (Declaration.Equation period initial weight) = InPeriods period × IsWord initial × (weight ≤ 65535)
DeclarationRanged (Declaration.Latency mode bound) = bound ≤ 65535
DeclarationRanged (Declaration.Link signal) = Unit {0}
DeclarationRanged (Declaration.Cap n) = n < 2 ^ 32
DeclarationRanged (Declaration.Tag label) = label ≤ 65535
DeclarationRanged (Declaration.Row low high result) =
    IsWord low × IsWord high × IsWord result × (low ≤ℤ high)

abbrev pub OperatorRanged : Operator → Type 0
OperatorRanged Operator.EndsEarly = ⊥
OperatorRanged Operator.Unknown = ⊥
OperatorRanged Operator.OutOfRange = ⊥
OperatorRanged (Operator.Constant w) = IsWord w
OperatorRanged (Operator.Read kind x) = RangedRead kind x
OperatorRanged (Operator.Binary operator) = Unit {0}
OperatorRanged (Operator.Unary operator) = Unit {0}
OperatorRanged Operator.If = Unit {0}

abbrev pub CodeRanged : Code → Type 0
CodeRanged Code.EndsEarly = ⊥
CodeRanged Code.Unknown = ⊥
CodeRanged (Code.Push w) = IsWord w
CodeRanged (Code.Load x) = Unit {0}
CodeRanged (Code.Fetch x) = Unit {0}
CodeRanged (Code.Store x) = Unit {0}
CodeRanged (Code.Binary operator) = Unit {0}
CodeRanged (Code.Unary operator) = Unit {0}
CodeRanged Code.If = Unit {0}

-- Bytes stand at an offset of a text.
pub record BytesAt (text : List ℕ) (at : ℕ) (bytes : List ℕ) : Type 0 where
  pub stand : take (length bytes) (drop at text) ≡ bytes
