-- Request b: command widths read off the table. And how commands are decoded: one byte of command, then operands.
use Rattle.std.specs.Prelude.{ℕ, ◌≤◌, ◌<◌, List, ◌↔◌, ◌⊎◌, ◌≡◌, length}
use Rattle.model.specs.Rules.Command.{declaration_at, operator_at}
use Rattle.model.specs.Rules.Machine.{code_at}
use Rattle.model.specs.Rules.Schedule.{schedule_command_at}
use Rattle.model.specs.Rules.Word.{byte_at}
use Rattle.model.specs.Says.Written.{
  DeclarationWritten,
  DeclarationCut,
  DeclarationOutside,
  DeclarationByte,
  OperatorWritten,
  OperatorCut,
  OperatorOutside,
  OperatorByte,
  PutWritten,
  PutCut,
  NoPutByte,
  CodeWritten,
  DeclarationWhole,
  OperatorWhole,
  PutWhole,
  CodeWhole,
}
use Rattle.model.specs.declared.Code.{Code}
use Rattle.model.specs.declared.Declaration.{Declaration}
use Rattle.model.specs.declared.Operator.{Operator}
use Rattle.model.specs.declared.ScheduleCommand.{ScheduleCommand}
use Rattle.theorems_texts.specs.Enums.{
  declaration_bytes,
  operator_bytes,
  put_bytes,
  code_bytes,
  DeclarationRanged,
  OperatorRanged,
  CodeRanged,
  BytesAt,
}
use Rattle.theorems_texts.specs.Reach.{WidthsListed}

pub record RequestB : Type 0 where
  -- A byte not listed for its kind of text (program, expression, schedule, image code) has no width: over all 256 bytes of each
  -- kind a byte has one exactly if its decoder knows it, and a command that is read whole reaches exactly as far as its width.
  pub widths-listed : WidthsListed

pub record Commands : Type 0 where
  -- Each decoded command is an enum case carrying its operands. A declaration of a program is decoded exactly where its bytes are
  -- written ..
  pub declaration-written : (text : List ℕ) (at : ℕ) (c : Declaration) →
      ((declaration_at text at ≡ c) × DeclarationWhole c) ↔ DeclarationWritten text at c
  -- .. so is an operator of an expression ..
  pub operator-written : (text : List ℕ) (at : ℕ) (c : Operator) →
      ((operator_at text at ≡ c) × OperatorWhole c) ↔ OperatorWritten text at c
  -- .. a command of a schedule ..
  pub put_written : (text : List ℕ) (at : ℕ) (c : ScheduleCommand) →
      ((schedule_command_at text at ≡ c) × PutWhole c) ↔ PutWritten text at c
  -- .. and one of image code.
  pub code-written : (code : List ℕ) (at : ℕ) (c : Code) → ((code_at code at ≡ c) × CodeWhole c) ↔ CodeWritten code at c
  -- A definition gives the paper's number and values for each case: where these bytes stand, the declaration is written ..
  pub declaration-bytes : (text : List ℕ) (at : ℕ) (c : Declaration) → DeclarationRanged c →
      BytesAt text at (declaration_bytes c) → DeclarationWritten text at c
  -- .. the operator ..
  pub operator-bytes : (text : List ℕ) (at : ℕ) (c : Operator) → OperatorRanged c → BytesAt text at (operator_bytes c) →
      OperatorWritten text at c
  -- .. the command of a schedule ..
  pub put-bytes : (text : List ℕ) (at : ℕ) (c : ScheduleCommand) → PutWhole c → BytesAt text at (put_bytes c) →
      PutWritten text at c
  -- .. and of image code.
  pub code-bytes : (code : List ℕ) (at : ℕ) (c : Code) → CodeRanged c → BytesAt code at (code_bytes c) → CodeWritten code at c
  -- At each command: ends early if no byte is left or an operand is cut ..
  pub declaration-cut : (text : List ℕ) (at : ℕ) →
      (declaration_at text at ≡ Declaration.EndsEarly) ↔ ((length text ≤ at) ⊎ DeclarationCut text at)
  -- .. outside its range if an operand is, operands in turn ..
  pub declaration-outside : (text : List ℕ) (at : ℕ) →
      (declaration_at text at ≡ Declaration.OutOfRange) ↔ DeclarationOutside text at
  -- .. and unknown if there is no such command; LINK stands in a chain alone.
  pub declaration-unknown : (text : List ℕ) (at : ℕ) →
      (declaration_at text at ≡ Declaration.Unknown) ↔
      ((at < length text) × ¬ DeclarationByte (byte_at text at) × ¬ (byte_at text at ≡ 0x13))
  -- At each operator: the same three.
  pub operator-cut : (text : List ℕ) (at : ℕ) →
      (operator_at text at ≡ Operator.EndsEarly) ↔ ((length text ≤ at) ⊎ OperatorCut text at)
  pub operator-outside : (text : List ℕ) (at : ℕ) → (operator_at text at ≡ Operator.OutOfRange) ↔ OperatorOutside text at
  pub operator-unknown : (text : List ℕ) (at : ℕ) →
      (operator_at text at ≡ Operator.Unknown) ↔ ((at < length text) × ¬ OperatorByte (byte_at text at))
  -- Schedule ends early, or unknown command.
  pub put-cut : (text : List ℕ) (at : ℕ) →
      (schedule_command_at text at ≡ ScheduleCommand.EndsEarly) ↔ ((length text ≤ at) ⊎ PutCut text at)
  pub put-unknown : (text : List ℕ) (at : ℕ) →
      (schedule_command_at text at ≡ ScheduleCommand.Unknown) ↔ ((at < length text) × NoPutByte (byte_at text at))
