-- What the lists of widths say of the decoders.
use Rattle.std.specs.Prelude.{Option, Some, ℕ, ◌+◌, ◌≤◌, ◌<◌, Bool, true, false, List, [], ◌∷◌, ◌↔◌, ◌≡◌, take}
use Rattle.model.specs.Rules.Command.{declaration_at, operator_at}
use Rattle.model.specs.Rules.Machine.{code_at}
use Rattle.model.specs.Rules.Schedule.{schedule_command_at}
use Rattle.model.specs.Rules.Width.{is_listed, program_width, expression_width, schedule_width, code_width}
use Rattle.model.specs.Rules.Word.{byte_at}
use Rattle.model.specs.Says.Written.{DeclarationWhole, OperatorWhole, PutWhole, CodeWhole}
use Rattle.model.specs.declared.Code.{Code}
use Rattle.model.specs.declared.Code.TheVariants as Code
use Rattle.model.specs.declared.Declaration.{Declaration}
use Rattle.model.specs.declared.Declaration.TheVariants as Declaration
use Rattle.model.specs.declared.Operator.{Operator}
use Rattle.model.specs.declared.Operator.TheVariants as Operator
use Rattle.model.specs.declared.ScheduleCommand.{ScheduleCommand}
use Rattle.model.specs.declared.ScheduleCommand.TheVariants as ScheduleCommand

-- The bytes that are known: those that aren't unknown, whatever follows them.
abbrev is_declaration_known : Declaration → Bool
is_declaration_known Declaration.EndsEarly = true
is_declaration_known Declaration.Unknown = false
is_declaration_known Declaration.OutOfRange = true
is_declaration_known Declaration.End = true
is_declaration_known (Declaration.Input period initial) = true
is_declaration_known (Declaration.Equation period initial weight) = true
is_declaration_known (Declaration.Latency mode bound) = true
is_declaration_known (Declaration.Link signal) = true
is_declaration_known (Declaration.Cap n) = true
is_declaration_known (Declaration.Tag label) = true
is_declaration_known (Declaration.Row low high result) = true

abbrev pub known_in_program : ℕ → Bool
known_in_program b = is_declaration_known (declaration_at (b ∷ []) 0)

abbrev is_operator_known : Operator → Bool
is_operator_known Operator.EndsEarly = true
is_operator_known Operator.Unknown = false
is_operator_known Operator.OutOfRange = true
is_operator_known (Operator.Constant w) = true
is_operator_known (Operator.Read kind operands) = true
is_operator_known (Operator.Binary operator) = true
is_operator_known (Operator.Unary operator) = true
is_operator_known Operator.If = true

abbrev pub known_in_expression : ℕ → Bool
known_in_expression b = is_operator_known (operator_at (b ∷ []) 0)

abbrev is_put_known : ScheduleCommand → Bool
is_put_known ScheduleCommand.EndsEarly = true
is_put_known ScheduleCommand.Unknown = false
is_put_known ScheduleCommand.End = true
is_put_known (ScheduleCommand.Put signal phase) = true

abbrev pub known_in_schedule : ℕ → Bool
known_in_schedule b = is_put_known (schedule_command_at (b ∷ []) 0)

abbrev is_code_known : Code → Bool
is_code_known Code.EndsEarly = true
is_code_known Code.Unknown = false
is_code_known (Code.Push w) = true
is_code_known (Code.Load x) = true
is_code_known (Code.Fetch x) = true
is_code_known (Code.Store x) = true
is_code_known (Code.Binary operator) = true
is_code_known (Code.Unary operator) = true
is_code_known Code.If = true

abbrev pub known_in_code : ℕ → Bool
known_in_code b = is_code_known (code_at (b ∷ []) 0)

-- A command of n bytes: of the text cut at m it is read exactly if the cut leaves all of them.
abbrev pub Reaches : {C : Type 0} → (List ℕ → ℕ → C) → List ℕ → ℕ → ℕ → Type 0
Reaches decode text at n = (m : ℕ) → (decode (take m text) at ≡ decode text at) ↔ (at + n ≤ m)

-- A list of widths belongs to a decoder: a byte has a width exactly if the decoder knows it, and a command that is read whole
-- reaches exactly as far as its width.
pub record ListOf {C : Type 0} (width : ℕ → Option ℕ) (known : ℕ → Bool) (decode : List ℕ → ℕ → C) (Read : C → Type 0)
    : Type 0 where
  pub listed : (b : ℕ) → b < 256 → is_listed (width b) ≡ known b
  pub reaches : (text : List ℕ) (at n : ℕ) → Read (decode text at) → width (byte_at text at) ≡ Some n → Reaches decode text at n

-- The four lists.
pub record WidthsListed : Type 0 where
  pub program : ListOf program_width known_in_program declaration_at DeclarationWhole
  pub expression : ListOf expression_width known_in_expression operator_at OperatorWhole
  pub schedule : ListOf schedule_width known_in_schedule schedule_command_at PutWhole
  pub code : ListOf code_width known_in_code code_at CodeWhole
