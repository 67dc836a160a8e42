-- `check_pair::check_puts` meets its contract. Assumes nothing.
use Prim.Native.Nat.{◌≤◌}
use mathlib.Core.List.{List}
use mathlib.Core.Path.{◌≡◌}
use native.Mathlib.Omega.{arith}
use Rattle.model.specs.Rules.Outcome.{accepted, Parsed}
use Rattle.model.specs.Rules.Schedule.{Put, parse_schedule}
use Rattle.model.proofs.Basics.Outcomes.{accepted-then, refused-then}
use Rattle.model.proofs.Texts.Puts.{puts-spelled, puts-end}
use Rattle.basics.proofs.Judgements.{answers-ok, answers-refused, answers-gives, handed-on}
use Rattle.check_pair.specs.Groups.{schedule_for}
use Rattle.check_pair.proofs.check_puts.Goals as goal
use Rattle.check_pair.proofs.check_puts.Goals.{In_ok-end}

-- where 11 is passed
read : (e : In_ok-end) →
    (puts : Parsed (List Put)) × (parse_schedule e.args.schedule.now ≡ accepted puts) × (puts.next ≡ e.in_ok-end.end)
read e = answers-ok _ _ _ _ e.read_schedule.ensures e.in_ok-end.was

pub returns-in_err-end : goal.returns-in_err-end
unfolding schedule_for
returns-in_err-end c p n per =
    answers-gives _ _ _ _ (refused-then _ _ _ (answers-refused _ _ _ _ c.read_schedule.ensures c.in_err-end.was))
    (handed-on _ c.from_residual.ensures.1)

pub check_schedule-requires : goal.check_schedule-requires
check_schedule-requires c =
    let g = read (goal.at.check_schedule-requires c).In_ok-end in
    let l = puts-end (puts-spelled _ g.0 g.1) in
    (c.requires.0, omega (arith, l.1, g.2, c.requires.1))

pub returns : goal.returns
unfolding schedule_for
returns c p n per =
    let g = read (goal.at.returns c).In_ok-end in
    rw (accepted-then _ _ _ g.1) (c.check_schedule.ensures p g.0 n per g.1 g.2)
