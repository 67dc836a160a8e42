-- `text_schedule::read_schedule` meets its contract. Assumes nothing.
use Rattle.basics.specs.Judgement.{Answers}
use Prim.Native.Nat.{ℕ, suc, ◌+◌, ◌-◌, ◌≤◌, ◌<◌}
use mathlib.Core.Path.{◌≡◌, refl, sym, ap, ◌∙◌}
use mathlib.Core.List.{List, []}
use native.Mathlib.Omega.{arith}
use lib.ListN.{length}
use borrow.Author.Rules.{rules}
use Rattle.model.specs.Rules.Schedule.{Put, parse_puts, parse_schedule}
use Rattle.model.proofs.Texts.Puts.{put-sound}
use Rattle.text_schedule.proofs.Endings.{puts-stop, puts-past, puts-more}
use Rattle.text_schedule.proofs.read_schedule.Given as goal

abbrev pub invariant-loop-at : goal.invariant-loop-at
invariant-loop-at l =
    (puts : List Put) × (left : ℕ) × (length l.text ≤ l.at + left) × (parse_schedule l.text ≡ parse_puts left l.text l.at puts)

abbrev pub decreases-loop-at : goal.decreases-loop-at
decreases-loop-at l = length l.text - l.at
