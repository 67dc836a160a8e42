-- `text_schedule::check_schedule` meets its contract. Assumes nothing.
use Rattle.std.specs.Prelude.{Ok, Err}
use Prim.Native.Nat.{ℕ, ◌+◌, ◌*◌, ◌-◌, ◌≤◌, ◌<◌}
use mathlib.Core.Bool.{false≢true}
use mathlib.Core.List.{List}
use mathlib.Core.Path.{◌≡◌, refl, sym, ap, ◌∙◌}
use native.Mathlib.Omega.{arith}
use lib.ListN.{length}
use borrow.Author.Rules.{rules}
use borrow.Author.Tests.{not-true, not-false}
use Rattle.basics.proofs.Judgements.{handed-on, answers-gives, answers-accepted}
use Rattle.model.specs.Rules.Outcome.{Parsed, accepted}
use Rattle.model.specs.Rules.Program.{Program, count}
use Rattle.model.specs.Rules.Schedule.{Put, is_put, parse_schedule, schedule_command_at}
use Rattle.model.specs.declared.ScheduleCommand.TheVariants as ScheduleCommand
use Rattle.text_program.specs.Tables.{PeriodsOf}
use Rattle.text_schedule.specs.Slots.{all_ranked}
use Rattle.text_schedule.specs.declared.Slots.{Slots}
use Rattle.text_schedule.proofs.Endings.{not-put}
use Rattle.text_schedule.proofs.Puts.{
  Progress,
  unranked,
  progress_start,
  next-put,
  put_refused,
  put-fine,
  placed-missing,
  placed-all,
  placed-slots,
}
use borrow.Enum.Refused.{opened}
use Rattle.text_schedule.proofs.check_schedule.Goals as goal
use Rattle.text_schedule.proofs.check_schedule.Goals.{After-from_byte-x, After-judge_put, At-loop-at, In-Put}

-- the PUT that is judged, and the tables before it
module _ (c : After-judge_put) where
  abbrev put-at : In-Put
  put-at = (goal.at.After-judge_put c).In-Put

  abbrev top : At-loop-at
  top = (goal.at.After-judge_put c).At-loop-at

  abbrev slots : Slots
  slots = top.loop-at.slots

  is-put : schedule_command_at top.args.text.now top.loop-at.at ≡
      ScheduleCommand.Put put-at.in-Put.signal put-at.in-Put.phase
  is-put = sym put-at.schedule_command_at-command.ensures ∙ put-at.in-Put.is

  declared : c.judge_put.result ≡ Ok tt → put-at.in-Put.signal < 64
  declared e = omega (arith, (c.judge_put.ensures slots refl).declared e, top.loop-at.invariant.2)

pub loop-at-init : goal.loop-at-init
unfolding is_put
loop-at-init c = (
  omega arith,
  omega arith,
  c.requires.0,
  c.requires.1,
  λ p o n per e z.
      progress_start _ p o _ e
      (record {
        puts-are = refl;
        order_is = λ j h. absurd (omega arith);
        unput = λ x lt e. unranked x lt;
        ranks-are = λ x lt e. absurd (false≢true e);
        phases-are = λ x lt e. absurd (false≢true e);
        space = (refl, refl, refl);
      }),
)

pub returns-in_default : goal.returns-in_default
returns-in_default c =
    let m = c in
    let l = m.loop-at in
    λ p o n per e z.
    let g = l.invariant.4 p o n per e z in
    let q = next-put g.spelled (omega arith) in
    absurd (not-put _ q.signal q.phase (opened m.in_default.in_default-own.keys2) (m.schedule_command_at-command.ensures ∙ q.command))

pub returns-in_err-judge_put : goal.returns-in_err-judge_put
returns-in_err-judge_put c =
    let told = c.in_err-judge_put.was in
    let j = (goal.at.returns-in_err-judge_put c).After-judge_put in
    let l = (top j).loop-at in
    λ p o n per e z.
    let g = l.invariant.4 p o n per e z in
    let few : length g.done < 64 = omega (arith, g.after.puts-are) in
    answers-gives _ _ _ _
    (put_refused _ p o l.at _ _ (slots j) g (omega arith) (is-put j) _
    (sym told ∙ (j.judge_put.ensures (slots j) refl).judged p g.done n per g.after few))
    (handed-on _ c.from_residual.ensures.1)

-- the entries that the PUT is written to
module _ (c : After-from_byte-x) where
  abbrev judged-at : After-judge_put
  judged-at = (goal.at.After-from_byte-x c).After-judge_put

  signal-low : c.from_byte-x.result < 64
  signal-low = omega (arith, c.from_byte-x.ensures.0, declared judged-at c.in_ok-judge_put.was)

  puts-few : (top judged-at).loop-at.slots.puts < 64
  puts-few = let l = judged-at in omega (arith, l.loop-at.invariant.0, l.loop-at.invariant.3)

pub loop-at-preserved : goal.loop-at-preserved
loop-at-preserved c =
    let w = (goal.at.loop-at-preserved c).After-from_byte-x in
    let j = (goal.at.loop-at-preserved c).After-judge_put in
    let l = (top j).loop-at in
    let told = w.in_ok-judge_put.was in (
      omega arith,
      omega arith,
      l.invariant.2,
      l.invariant.3,
      λ p o n per e z.
          let g = l.invariant.4 p o n per e z in
          let few : length g.done < 64 = omega (arith, g.after.puts-are, puts-few w) in
          rw (c.in_schedule-at.ensures, w.from_byte-x.ensures.0)
          (put-fine _ p o l.at _ _ (slots j) g (omega arith) (is-put j) (declared j told) few
          (sym told ∙ (j.judge_put.ensures (slots j) refl).judged p g.done n per g.after few)),
    )

pub returns-then-not-all_put : goal.returns-then-not-all_put
returns-then-not-all_put c =
    let a = c in
    let l = a.loop-at in
    λ p o n per e z.
    let g = l.invariant.4 p o n per e z in
    let past : o.next ≤ l.at = omega arith in
    let few : count p ≤ 64 = omega arith in
    let fit : length g.done ≤ 64 = omega (arith, g.after.puts-are) in
    let missing = ap (all_ranked _) n ∙ sym a.all_put.ensures ∙
    c.if-not-all_put.true in
    answers-gives _ _ _ _
    (placed-missing _ p o l.at l.slots g past few fit missing)
    (c.refuse.ensures ∙
    ap (λ x. Err (record { number = 12; place = x })) (sym z))

pub returns : goal.returns
returns c =
    let a = c in
    let l = a.loop-at in
    λ p o n per e z.
    let g = l.invariant.4 p o n per e z in
    let past : o.next ≤ l.at = omega arith in
    let few : count p ≤ 64 = omega arith in
    let fit : length g.done ≤ 64 = omega (arith, g.after.puts-are) in
    let all = ap (all_ranked _) n ∙ sym a.all_put.ensures ∙ c.if-not-all_put.false in
    let t = l.slots in
    answers-accepted _ _ _ _ _ (placed-all _ p o l.at t g past few fit all) refl
    (placed-slots _ p o l.at t g past few fit all)

pub overflow_cast-slots : goal.overflow_cast-slots
overflow_cast-slots c = omega (arith, puts-few c)

pub overflow_add-slots : goal.overflow_add-slots
overflow_add-slots c = omega (arith, puts-few c)

pub bounds-slots-x : goal.bounds-slots-x
bounds-slots-x c =
    omega (arith, declared (goal.at.bounds-slots-x c).After-judge_put c.in_ok-judge_put.was, c.from_byte-x.ensures.0)

pub bounds-slots-x-in-loop-at : goal.bounds-slots-x-in-loop-at
bounds-slots-x-in-loop-at c =
    omega (arith, declared (goal.at.bounds-slots-x-in-loop-at c).After-judge_put c.in_ok-judge_put.was, c.from_byte-x.ensures.0)
