-- The operators of an expression that act alike, by their bytes; a read that stands in a text.
use Rattle.std.specs.Prelude.{ℕ, cond, List, ◌≡◌, eqb, leb}
use Rattle.model.specs.Rules.Command.{operator_at}
use Rattle.model.specs.Rules.Program.{is_allowed, unary_lookups}
use Rattle.model.specs.Says.Written.{OperatorWritten}
use Rattle.model.specs.declared.Kind.{Kind}
use Rattle.model.specs.declared.Kind.TheVariants.{Now, Last, When, LastWhen, Current}
use Rattle.model.specs.declared.Operator.{Operator}
use Rattle.model.specs.declared.Operator.TheVariants as Operator
use Rattle.model.specs.declared.Sampled.{Sampled}
use Rattle.model.specs.declared.Unary.TheVariants.{Table}
use Rattle.text_command.specs.declared.Taken.{Taken}

-- The read of a byte from 21 to 25.
unfoldable pub kind_of : ℕ → Kind
kind_of b = cond (eqb b 0x21) Now (cond (eqb b 0x22) Last (cond (eqb b 0x23) When (cond (eqb b 0x24) LastWhen Current)))

-- IF or TABLE, the operators of 3A and 3B.
unfoldable pub if_or_table : ℕ → Operator
if_or_table b = cond (eqb b 0x3A) Operator.If (Operator.Unary Table)

-- A read with a factor below the least one is outside its range.
abbrev pub restricted : ℕ → Operator → Operator
restricted least Operator.EndsEarly = Operator.EndsEarly
restricted least Operator.Unknown = Operator.Unknown
restricted least Operator.OutOfRange = Operator.OutOfRange
restricted least (Operator.Constant w) = Operator.Constant w
restricted least (Operator.Read kind x) = cond (is_allowed least kind x) (Operator.Read kind x) Operator.OutOfRange
restricted least (Operator.Binary operator) = Operator.Binary operator
restricted least (Operator.Unary operator) = Operator.Unary operator
restricted least Operator.If = Operator.If

-- The operator at an offset of an expression whose factors go from a least one on.
unfoldable pub operator_from : ℕ → List ℕ → ℕ → Operator
operator_from least text at = restricted least (operator_at text at)

-- The reads of a kind have a factor in the text, and it is what the least one bounds.
abbrev pub HasFactor : ℕ → Kind → Type 0
HasFactor least kind = (x : Sampled) → is_allowed least kind x ≡ leb least x.factor

-- How many operands an operator has.
unfoldable pub operands_of : Operator → ℕ
operands_of Operator.EndsEarly = 0
operands_of Operator.Unknown = 0
operands_of Operator.OutOfRange = 0
operands_of (Operator.Constant w) = 0
operands_of (Operator.Read kind x) = 0
operands_of (Operator.Binary operator) = 2
operands_of (Operator.Unary operator) = 1
operands_of Operator.If = 3

-- How many TABLEs an operator is.
unfoldable pub lookups_of : Operator → ℕ
lookups_of Operator.EndsEarly = 0
lookups_of Operator.Unknown = 0
lookups_of Operator.OutOfRange = 0
lookups_of (Operator.Constant w) = 0
lookups_of (Operator.Read kind x) = 0
lookups_of (Operator.Binary operator) = 0
lookups_of (Operator.Unary operator) = unary_lookups operator
lookups_of Operator.If = 0

-- An operator stands at `at`, and this is it.
pub record OperatorStands (text : List ℕ) (at : ℕ) : Type 0 where
  pub operator : Operator
  pub written : OperatorWritten text at operator

-- A read stands at `at`, and this is it.
pub record ReadStands (text : List ℕ) (at : ℕ) : Type 0 where
  pub kind : Kind
  pub operands : Sampled
  pub is : operator_at text at ≡ Operator.Read kind operands

pub record ReadTaken (text : List ℕ) (at : ℕ) (r : Taken) : Type 0 where
  pub is : (kind : Kind) (operands : Sampled) → operator_at text at ≡ Operator.Read kind operands →
      r ≡ record { kind = kind; operands = operands }
