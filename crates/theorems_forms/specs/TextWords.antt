-- The words of the text form, by what the readers of the papers' texts take their bytes for.
use Rattle.std.specs.Prelude.{ℕ, List, ◌≡◌, pos, negsuc}
use Prim.Native.String.{String}
use Rattle.model.specs.Rules.Command.{declaration_at, operator_at}
use Rattle.model.specs.Rules.Outcome.{accepted}
use Rattle.model.specs.Rules.Schedule.{schedule_command_at}
use Rattle.model.specs.Rules.Script.{script_command_at}
use Rattle.model.specs.Rules.TextForm.{ascii, assembly}
use Rattle.model.specs.declared.Binary.TheVariants as Binary
use Rattle.model.specs.declared.Declaration.TheVariants as Declaration
use Rattle.model.specs.declared.Index.TheVariants.{Fixed, Open}
use Rattle.model.specs.declared.Kind.TheVariants as Kind
use Rattle.model.specs.declared.Mode.TheVariants.{Exists, Backward}
use Rattle.model.specs.declared.Operator.TheVariants as Operator
use Rattle.model.specs.declared.ScheduleCommand.TheVariants as ScheduleCommand
use Rattle.model.specs.declared.ScriptCommand.TheVariants as ScriptCommand
use Rattle.model.specs.declared.Unary.TheVariants as Unary

-- A text is assembled to bytes that are read as one command.
pub record Means {Command : Type 0} (read_at : List ℕ → ℕ → Command) (text : String) (command : Command) : Type 0 where
  pub bytes : List ℕ
  pub assembled : assembly (ascii text) ≡ accepted bytes
  pub read : read_at bytes 0 ≡ command

-- Programs.
pub record DeclarationsMean : Type 0 where
  pub end : Means declaration_at "END" Declaration.End
  pub input : Means declaration_at "IN 2 -3" (Declaration.Input 2 (negsuc 2))
  pub equation : Means declaration_at "EQ 2 5 700" (Declaration.Equation 2 (pos 5) 700)
  pub exists : Means declaration_at "LAT exists 700" (Declaration.Latency Exists 700)
  pub backward : Means declaration_at "LAT backward 700" (Declaration.Latency Backward 700)
  pub link : Means declaration_at "LINK 9" (Declaration.Link 9)
  pub cap : Means declaration_at "CAP 70000" (Declaration.Cap 70000)
  pub tag : Means declaration_at "TAG 700" (Declaration.Tag 700)
  pub row : Means declaration_at "ROW -3 4 5" (Declaration.Row (negsuc 2) (pos 4) (pos 5))

-- Expressions.
pub record OperatorsMean : Type 0 where
  pub constant : Means operator_at "CONST -3" (Operator.Constant (negsuc 2))
  pub now : Means operator_at "NOW 7" (Operator.Read Kind.Now (record { signal = 7; factor = 1; index = Fixed 0 }))
  pub last : Means operator_at "LAST 7" (Operator.Read Kind.Last (record { signal = 7; factor = 1; index = Fixed 0 }))
  pub when : Means operator_at "WHEN 7 1 4" (Operator.Read Kind.When (record { signal = 7; factor = 4; index = Fixed 1 }))
  pub last_when :
      Means operator_at "LASTWHEN 7 1 4" (Operator.Read Kind.LastWhen (record { signal = 7; factor = 4; index = Fixed 1 }))
  pub current :
      Means operator_at "CURRENT 7 1 4" (Operator.Read Kind.Current (record { signal = 7; factor = 4; index = Fixed 1 }))
  pub open_index : Means operator_at "WHEN 7 open 4" (Operator.Read Kind.When (record { signal = 7; factor = 4; index = Open }))
  pub add : Means operator_at "ADD" (Operator.Binary Binary.Add)
  pub sub : Means operator_at "SUB" (Operator.Binary Binary.Sub)
  pub mul : Means operator_at "MUL" (Operator.Binary Binary.Mul)
  pub less : Means operator_at "LESS" (Operator.Binary Binary.Less)
  pub same : Means operator_at "SAME" (Operator.Binary Binary.Same)
  pub min : Means operator_at "MIN" (Operator.Binary Binary.Min)
  pub max : Means operator_at "MAX" (Operator.Binary Binary.Max)
  pub neg : Means operator_at "NEG" (Operator.Unary Unary.Negate)
  pub choice : Means operator_at "IF" Operator.If
  pub table : Means operator_at "TABLE" (Operator.Unary Unary.Table)

-- Schedules and scripts.
pub record OthersMean : Type 0 where
  pub put : Means schedule_command_at "PUT 7 1" (ScheduleCommand.Put 7 1)
  pub schedule-end : Means schedule_command_at "END" ScheduleCommand.End
  pub set : Means script_command_at "SET 7 -3" (ScriptCommand.Set 7 (negsuc 2))
  pub run : Means script_command_at "RUN 9" (ScriptCommand.Run 9)
  pub script-end : Means script_command_at "END" ScriptCommand.End
