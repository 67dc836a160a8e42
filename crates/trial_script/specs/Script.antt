-- One command of a script as the code goes over it, and what the answers stand for.
use Rattle.std.specs.Prelude.{Result, Ok, Err, ℕ, ◌+◌, Bool, true, List, leb, ℤ, length, set}
use Rattle.model.specs.Rules.Outcome.{Outcome, accepted, refused, refuse, provided}
use Rattle.model.specs.Rules.Width.{in_script}
use Rattle.model.specs.declared.ScriptCommand.{ScriptCommand}
use Rattle.model.specs.declared.Fault.{Fault}

-- What a judgement stands for.
abbrev pub ruled_of : Result (Unit {0}) Fault → Outcome (Unit {0})
ruled_of (Ok tt) = accepted tt
ruled_of (Err f) = refused f

-- The bytes of a SET or RUN; 0 where the script goes no further.
unfoldable pub action_width : ScriptCommand → ℕ
action_width ScriptCommand.EndsEarly = 0
action_width ScriptCommand.Unknown = 0
action_width ScriptCommand.End = 0
action_width (ScriptCommand.Set x w) = in_script 0x70
action_width (ScriptCommand.Run n) = in_script 0x71

-- The cycles that a command makes.
unfoldable pub cycles_made : ScriptCommand → ℕ
cycles_made ScriptCommand.EndsEarly = 0
cycles_made ScriptCommand.Unknown = 0
cycles_made ScriptCommand.End = 0
cycles_made (ScriptCommand.Set x w) = 0
cycles_made (ScriptCommand.Run n) = n

-- The samples after a command.
unfoldable pub altered : List ℤ → ScriptCommand → List ℤ
altered samples ScriptCommand.EndsEarly = samples
altered samples ScriptCommand.Unknown = samples
altered samples ScriptCommand.End = samples
altered samples (ScriptCommand.Set x w) = set samples x w
altered samples (ScriptCommand.Run n) = samples

-- A SET may stand only of an input.
unfoldable pub may_stand : (ℕ → Bool) → ScriptCommand → Bool
may_stand is_input ScriptCommand.EndsEarly = true
may_stand is_input ScriptCommand.Unknown = true
may_stand is_input ScriptCommand.End = true
may_stand is_input (ScriptCommand.Set x w) = is_input x
may_stand is_input (ScriptCommand.Run n) = true

-- How a script ends at a command that is neither.
unfoldable pub ending_at : List ℕ → ℕ → ScriptCommand → Outcome (Unit {0})
ending_at text at ScriptCommand.EndsEarly = refuse 24 (length text)
ending_at text at ScriptCommand.Unknown = refuse 24 at
ending_at text at ScriptCommand.End = provided (leb (length text) (at + in_script 0x00)) 24 (at + in_script 0x00)
ending_at text at (ScriptCommand.Set x w) = accepted tt
ending_at text at (ScriptCommand.Run n) = accepted tt
