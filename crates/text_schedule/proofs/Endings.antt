-- How the reading of PUTs ends and goes on. Assumes nothing.
use Rattle.std.specs.Prelude.{Result, Ok, Err}
use mathlib.Core.Path.{◌≡◌, refl, subst}
use mathlib.Core.Bool.{Bool, true, false, cond}
use mathlib.Core.List.{List, [], ◌∷◌, ◌++◌}
use types.Run.{OneOf, miss}
use Prim.Native.Nat.{ℕ, zero, suc, ◌+◌, ◌≤◌}
use lib.Dec.{leb}
use lib.ListN.{length}
use borrow.Author.Tests.{le-ltb}
use denote.Enum.Declared.{tag_of, declared}
use Rattle.model.specs.Rules.Outcome.{Outcome, refuse, provided, ◌▷◌, fault, Parsed, parsed}
use Rattle.model.specs.Rules.Schedule.{Put, schedule_command_at, schedule_command, parse_puts}
use Rattle.model.specs.declared.ScheduleCommand.{ScheduleCommand}
use Rattle.model.specs.declared.ScheduleCommand.TheVariants as ScheduleCommand
use Rattle.model.specs.contracts.ScheduleCommand.{enum}
use Rattle.basics.specs.Judgement.{Answers}
use Rattle.model.specs.declared.Fault.{Fault}
use Rattle.text_schedule.specs.Slots.{end_judged}

abbrev stops : List ℕ
stops = 0 ∷ 1 ∷ 2 ∷ []

abbrev pub EndsAt : Outcome (Parsed (List Put)) → ℕ → Result (Unit {0}) Fault → Type 0
EndsAt o at j = Answers (λ x _. x.next ≡ at) o j

end_by : (text : List ℕ) (at : ℕ) (puts : List Put) (b : Bool) →
    EndsAt (provided b 11 (at + 1) ▷ λ _. parsed puts at) at (cond b (Ok tt) (Err (fault 11 (at + 1))))
unfolding Answers provided ◌▷◌
end_by text at puts true = (tt, refl, refl)
end_by text at puts false = refl

-- A command that is no PUT is the answer.
pub puts-stop : (text : List ℕ) (at left : ℕ) (puts : List Put) (c : ScheduleCommand) → OneOf stops (tag_of (declared enum) c) →
    schedule_command_at text at ≡ c → EndsAt (parse_puts (suc left) text at puts) at (end_judged text at c)
unfolding parse_puts schedule_command end_judged Answers
puts-stop text at left puts ScheduleCommand.EndsEarly k e = rw e refl
puts-stop text at left puts ScheduleCommand.Unknown k e = rw e refl
puts-stop text at left puts ScheduleCommand.End k e = rw e (end_by text at puts (leb (length text) (at + 1)))
puts-stop text at left puts (ScheduleCommand.Put signal phase) k e = absurd (miss stops 3 tt k)

-- So is the end of the text.
pub puts-past : (left : ℕ) (text : List ℕ) (at : ℕ) (puts : List Put) → length text ≤ at →
    parse_puts left text at puts ≡ refuse 11 (length text)
unfolding parse_puts schedule_command schedule_command_at
puts-past zero text at puts h = refl
puts-past (suc left) text at puts h = rw (le-ltb at (length text) h)

-- After a PUT reading goes on.
pub puts-more : (left : ℕ) (text : List ℕ) (at : ℕ) (puts : List Put) (signal phase : ℕ) →
    schedule_command_at text at ≡ ScheduleCommand.Put signal phase →
    parse_puts (suc left) text at puts ≡
    parse_puts left text (at + 3) (puts ++ (record { place = at; signal = signal; phase = phase } ∷ []))
unfolding parse_puts schedule_command
puts-more left text at puts signal phase e = rw e

-- What is no PUT is none.
pub not-put : (c : ScheduleCommand) (signal phase : ℕ) → OneOf stops (tag_of (declared enum) c) →
    c ≡ ScheduleCommand.Put signal phase → ⊥
not-put c signal phase k e = miss stops 3 tt (subst (λ x. OneOf stops (tag_of (declared enum) x)) e k)
