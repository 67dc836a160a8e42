-- Script text of a bench trial (24, 25), and the calls that a script makes (request e).
use Rattle.std.specs.Prelude.{ℕ, zero, suc, ◌+◌, Bool, false, cond, List, [], ◌∷◌, ◌++◌, leb, ltb, eqb, ℤ, pos, length, set, replicate}
use Rattle.model.specs.Says.Calls.{Call, cycle}
use Rattle.model.specs.Rules.Outcome.{Outcome, accepted, refuse, ◌▷◌, provided}
use Rattle.model.specs.Rules.Program.{Program, is_input, count, signal_at}
use Rattle.model.specs.Rules.Width.{in_script}
use Rattle.model.specs.Rules.Word.{byte_at, word_at}
use Rattle.model.specs.declared.ScriptCommand.{ScriptCommand}
use Rattle.model.specs.declared.ScriptCommand.TheVariants as ScriptCommand

-- A command of `width` bytes is whole, or the text ends early.
abbrev pub whole_command : List ℕ → ℕ → ℕ → ScriptCommand → ScriptCommand
whole_command text at width command = cond (leb (at + width) (length text)) command ScriptCommand.EndsEarly

-- The command at an offset: 70 SET signal, word; 71 RUN count; 00 END.
unfoldable pub script_command_at : List ℕ → ℕ → ScriptCommand
script_command_at text at =
    cond (ltb at (length text))
    (cond (eqb (byte_at text at) 0x00) ScriptCommand.End
    (cond (eqb (byte_at text at) 0x70)
    (whole_command text at (in_script 0x70) (ScriptCommand.Set (byte_at text (at + 1)) (word_at text (at + 2))))
    (cond (eqb (byte_at text at) 0x71) (whole_command text at (in_script 0x71) (ScriptCommand.Run (byte_at text (at + 1))))
    ScriptCommand.Unknown)))
    ScriptCommand.EndsEarly

-- What a script commands before its END: a SET, with its offset, or a RUN.
pub data Action : Type 0 where
  alter : ℕ → ℕ → ℤ → Action
  run : ℕ → Action

-- A text read: its commands as far as they go, and how it ends (24).
pub record Script : Type 0 where
  pub actions : List Action
  pub ending : Outcome (Unit {0})

abbrev pub preceded : Action → Script → Script
preceded a s = record { actions = a ∷ s.actions; ending = s.ending }

abbrev pub stopped : Outcome (Unit {0}) → Script
stopped ending = record { actions = []; ending = ending }

-- One command; `next` reads on. Cut: the text's length; unknown: its offset; bytes after END: the first.
unfoldable pub script_command : (ℕ → Script) → List ℕ → ℕ → ScriptCommand → Script
script_command next text at ScriptCommand.EndsEarly = stopped (refuse 24 (length text))
script_command next text at ScriptCommand.Unknown = stopped (refuse 24 at)
script_command next text at ScriptCommand.End =
    stopped (provided (leb (length text) (at + in_script 0x00)) 24 (at + in_script 0x00))
script_command next text at (ScriptCommand.Set signal word) = preceded (alter at signal word) (next (at + in_script 0x70))
script_command next text at (ScriptCommand.Run n) = preceded (run n) (next (at + in_script 0x71))

-- The commands from `at` on: `left` bytes hold no more than `left` of them.
unfoldable pub script_from : ℕ → List ℕ → ℕ → Script
script_from zero text at = stopped (refuse 24 (length text))
script_from (suc left) text at = script_command (λ n. script_from left text n) text at (script_command_at text at)

unfoldable pub script_at : List ℕ → ℕ → Script
script_at text at = script_from (length text) text at

abbrev pub script_of : List ℕ → Script
script_of text = script_at text 0

-- Whether a signal is declared and an input.
unfoldable pub is_input_of : Program → ℕ → Bool
is_input_of p x = cond (ltb x (count p)) (is_input (signal_at p x).body) false

-- 25 at the first SET of a signal that is no input.
unfoldable pub inputs_only : (ℕ → Bool) → List Action → Outcome (Unit {0})
inputs_only settable [] = accepted tt
inputs_only settable (alter at signal word ∷ actions) = provided (settable signal) 25 at ▷ λ _. inputs_only settable actions
inputs_only settable (run n ∷ actions) = inputs_only settable actions

-- The checks of a script in their order.
unfoldable pub check_of : (ℕ → Bool) → List ℕ → Outcome (Unit {0})
check_of settable text =
    provided (leb (length text) 2048) 24 0 ▷ λ _.  -- 24, over length
    (script_of text).ending ▷ λ _.  -- 24, cut, unknown or after END
    inputs_only settable (script_of text).actions  -- 25

-- The calls that commands make: a SET alters the sample of its signal until its next SET, a RUN makes that many cycles.
unfoldable pub calls_from : List ℤ → List Action → List Call
calls_from samples [] = []
calls_from samples (alter at signal word ∷ actions) = calls_from (set samples signal word) actions
calls_from samples (run n ∷ actions) = replicate n (cycle samples) ++ calls_from samples actions

-- All samples start at 0.
abbrev pub no_samples : List ℤ
no_samples = replicate 64 (pos 0)

abbrev pub calls_of : List ℕ → List Call
calls_of text = calls_from no_samples (script_of text).actions

-- The sum of the RUNs.
unfoldable pub cycles_of : List Action → ℕ
cycles_of [] = 0
cycles_of (alter at signal word ∷ actions) = cycles_of actions
cycles_of (run n ∷ actions) = n + cycles_of actions
