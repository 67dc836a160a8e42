-- `text_schedule::read_schedule` meets its contract. Assumes nothing.
use Rattle.basics.specs.Judgement.{Answers}
use Prim.Native.Nat.{ℕ, suc, ◌+◌, ◌-◌, ◌≤◌, ◌<◌}
use mathlib.Core.Path.{◌≡◌, refl, sym, ap, ◌∙◌}
use mathlib.Core.List.{List, []}
use native.Mathlib.Omega.{arith}
use lib.ListN.{length}
use borrow.Author.Rules.{rules}
use Rattle.model.specs.Rules.Schedule.{Put, parse_puts, parse_schedule}
use Rattle.model.proofs.Texts.Puts.{put-sound}
use Rattle.basics.proofs.Judgements.{handed-on, answers-ok, answers-refused, answers-gives, answers-accepted}
use Rattle.text_schedule.specs.Slots.{end_judged}
use Rattle.text_schedule.proofs.Endings.{EndsAt, puts-stop, puts-past, puts-more}
use borrow.Enum.Refused.{opened}
use Rattle.text_schedule.proofs.read_schedule.Goals as goal
use Rattle.text_schedule.proofs.read_schedule.Goals.{In-Put, In_default}

one_less : (n : ℕ) → 0 < n → n ≡ suc (n - 1)
one_less n h = omega arith

-- a PUT lies within the text
inside : (c : In-Put) →
    let c4 = c in c4.loop-at.at + 3 ≤ length c4.args.text.now
inside c = (put-sound _ _ _ (sym c.schedule_command_at-command.ensures ∙ c.in-Put.is)).2

pub loop-at-init : goal.loop-at-init
unfolding parse_schedule
loop-at-init c = ([], length c.args.text.now, omega arith, refl)

-- how the reading ends at a command that is no PUT
ended : (c : In_default) → let at = c.loop-at.at in
    EndsAt (parse_schedule c.args.text.now) at (end_judged c.args.text.now at c.schedule_command_at-command.result)
ended c =
    let i = c.loop-at.invariant in
    rw (i.3 ∙ ap (λ m. parse_puts m c.args.text.now c.loop-at.at i.0) (one_less i.1 (omega (arith, c.loop-at-test.true))))
    (puts-stop c.args.text.now c.loop-at.at (i.1 - 1) i.0 _ (opened c.in_default.in_default-own.keys2)
    (sym c.schedule_command_at-command.ensures))

pub returns-in_err-judge_end : goal.returns-in_err-judge_end
returns-in_err-judge_end c =
    answers-gives _ _ _ _ (answers-refused _ _ _ _ (ended (goal.at.returns-in_err-judge_end c).In_default)
    (sym c.judge_end.ensures ∙ c.in_err-judge_end.was)) (handed-on _ c.from_residual.ensures.1)

pub returns-in_default : goal.returns-in_default
returns-in_default c =
    let o = answers-ok _ _ _ _ (ended (goal.at.returns-in_default c).In_default) (sym c.judge_end.ensures ∙ c.in_ok-judge_end.was) in
    answers-accepted _ _ _ _ _ o.1 refl o.2

pub loop-at-preserved : goal.loop-at-preserved
loop-at-preserved c =
    let c3 = c in
    let c5 = c in
    let c7 = c in
    let l = c5.loop-at in
    let i = l.invariant in
    let text = c7.args.text.now in
    rw c.in_schedule-at.ensures (
      _,
      i.1 - 1,
      omega arith,
      i.3 ∙ ap (λ m. parse_puts m text l.at i.0) (one_less i.1 (omega arith)) ∙
          puts-more (i.1 - 1) text l.at i.0 _ _
          (sym c3.schedule_command_at-command.ensures ∙ c.in-Put.is),
    )

pub returns : goal.returns
unfolding Answers
returns c =
    let l = c.loop-at in
    let i = l.invariant in
    rw (i.3 ∙ puts-past i.1 _ l.at i.0 c.loop-at-test.false) c.refuse.ensures

pub overflow_add-at : goal.overflow_add-at
overflow_add-at c = omega (arith, inside (goal.at.overflow_add-at c).In-Put)
