-- Schedule text (11), and the schedule that it gives a program (12, 13).
use Rattle.std.specs.Prelude.{ℕ, zero, suc, ◌+◌, Bool, false, cond, ◌||◌, List, [], ◌∷◌, ◌++◌, map, leb, ltb, eqb, length, get_or}
use Rattle.model.specs.Rules.Outcome.{Outcome, accepted, refuse, fault, ◌▷◌, provided, lowest, Parsed, parsed}
use Rattle.model.specs.Rules.Program.{Program, count, signal_at}
use Rattle.model.specs.Rules.Search.{all_below, table}
use Rattle.model.specs.Rules.Width.{in_schedule}
use Rattle.model.specs.Rules.Word.{byte_at}
use Rattle.model.specs.declared.Fault.{Fault}
use Rattle.model.specs.declared.ScheduleCommand.{ScheduleCommand}
use Rattle.model.specs.declared.ScheduleCommand.TheVariants as ScheduleCommand

-- The command at an offset of the schedule text.
unfoldable pub schedule_command_at : List ℕ → ℕ → ScheduleCommand
schedule_command_at text at =
    cond (ltb at (length text))
    (cond (eqb (byte_at text at) 0x00) ScheduleCommand.End
    (cond (eqb (byte_at text at) 0x40)
    (cond (leb (at + in_schedule 0x40) (length text)) (ScheduleCommand.Put (byte_at text (at + 1)) (byte_at text (at + 2)))
    ScheduleCommand.EndsEarly)
    ScheduleCommand.Unknown))
    ScheduleCommand.EndsEarly

-- A PUT, with its offset.
pub record Put : Type 0 where
  pub place : ℕ
  pub signal : ℕ
  pub phase : ℕ

-- One command after the PUTs of `puts`; `next` reads on. What is read is the PUTs and the offset of END.
unfoldable pub schedule_command : (ℕ → List Put → Outcome (Parsed (List Put))) → List ℕ → ℕ → List Put → ScheduleCommand →
    Outcome (Parsed (List Put))
schedule_command next text at puts ScheduleCommand.EndsEarly = refuse 11 (length text)
schedule_command next text at puts ScheduleCommand.Unknown = refuse 11 at
schedule_command next text at puts ScheduleCommand.End =
    provided (leb (length text) (at + in_schedule 0x00)) 11 (at + in_schedule 0x00) ▷ λ _. parsed puts at
schedule_command next text at puts (ScheduleCommand.Put signal phase) =
    next (at + in_schedule 0x40) (puts ++ (record { place = at; signal = signal; phase = phase } ∷ []))

-- The commands from `at` on: `left` bytes hold no more than `left` of them.
unfoldable pub parse_puts : ℕ → List ℕ → ℕ → List Put → Outcome (Parsed (List Put))
parse_puts zero text at puts = refuse 11 (length text)
parse_puts (suc left) text at puts = schedule_command (λ n qs. parse_puts left text n qs) text at puts (schedule_command_at text at)

unfoldable pub parse_schedule : List ℕ → Outcome (Parsed (List Put))
parse_schedule text = parse_puts (length text) text 0 []

-- The signals in PUT order, and the phase of each signal by its number.
pub record Schedule : Type 0 where
  pub order : List ℕ
  pub phases : List ℕ

abbrev pub phase_of : Schedule → ℕ → ℕ
phase_of s x = get_or s.phases x 0

-- Whether a signal is put.
unfoldable pub is_put : List Put → ℕ → Bool
is_put [] x = false
is_put (q ∷ qs) x = eqb q.signal x || is_put qs x

-- 12 at a PUT of an undeclared signal or of one put before; 13 at a phase not below its period.
unfoldable pub put_faults : Program → List Put → Put → List Fault
put_faults p before q =
    cond (ltb q.signal (count p))
    (cond (is_put before q.signal) (fault 12 q.place ∷ [])
    (cond (ltb q.phase (signal_at p q.signal).period) [] (fault 13 q.place ∷ [])))
    (fault 12 q.place ∷ [])

-- PUT after PUT.
unfoldable pub puts_faults : Program → List Put → List Put → List Fault
puts_faults p before [] = []
puts_faults p before (q ∷ qs) = put_faults p before q ++ puts_faults p (before ++ (q ∷ [])) qs

-- The phase of a signal's PUT.
unfoldable pub put_phase : List Put → ℕ → ℕ
put_phase [] x = 0
put_phase (q ∷ qs) x = cond (eqb q.signal x) q.phase (put_phase qs x)

unfoldable pub schedule_of : Program → List Put → Schedule
schedule_of p puts = record { order = map (λ q. q.signal) puts; phases = table (count p) (put_phase puts) }

-- 12 and 13 together; a signal missing is judged after all PUTs, at END.
unfoldable pub placed : Program → Parsed (List Put) → Outcome Schedule
placed p puts =
    lowest (puts_faults p [] puts.value) ▷ λ _.
    provided (all_below (count p) (is_put puts.value)) 12 puts.next ▷ λ _.
    accepted (schedule_of p puts.value)
