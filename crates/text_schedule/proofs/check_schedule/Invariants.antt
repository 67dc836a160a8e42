-- `text_schedule::check_schedule` meets its contract. Assumes nothing.
use Rattle.std.specs.Prelude.{Ok}
use Prim.Native.Nat.{ℕ, ◌+◌, ◌*◌, ◌-◌, ◌≤◌, ◌<◌}
use mathlib.Core.Bool.{false≢true}
use mathlib.Core.List.{List}
use mathlib.Core.Path.{◌≡◌, refl, sym, ap, ◌∙◌}
use native.Mathlib.Omega.{arith}
use lib.ListN.{length}
use borrow.Author.Rules.{rules}
use borrow.Author.Tests.{not-true, not-false}
use Rattle.model.specs.Rules.Outcome.{Parsed, accepted}
use Rattle.model.specs.Rules.Program.{Program, count}
use Rattle.model.specs.Rules.Schedule.{Put, is_put, parse_schedule, schedule_command_at}
use Rattle.model.specs.declared.ScheduleCommand.TheVariants as ScheduleCommand
use Rattle.text_program.specs.Tables.{PeriodsOf}
use Rattle.text_schedule.specs.Slots.{all_ranked}
use Rattle.text_schedule.specs.declared.Slots.{Slots}
use Rattle.text_schedule.proofs.Endings.{not-put}
use Rattle.text_schedule.proofs.Puts.{
  Progress,
  unranked,
  progress_start,
  next-put,
  put_refused,
  put-fine,
  placed-missing,
  placed-all,
  placed-slots,
}
use Rattle.text_schedule.proofs.check_schedule.Given as goal

abbrev pub invariant-loop-at : goal.invariant-loop-at
invariant-loop-at l =
    (l.at ≡ 3 * l.slots.puts) × (l.at ≤ l.end + 2) × (l.signals ≤ 64) × (l.end ≤ 192) ×
    ((p : Program) (o : Parsed (List Put)) → count p ≡ l.signals → PeriodsOf p l.periods → parse_schedule l.text ≡ accepted o →
    o.next ≡ l.end → Progress l.text p o l.at l.slots)

abbrev pub decreases-loop-at : goal.decreases-loop-at
decreases-loop-at l = l.end - l.at
