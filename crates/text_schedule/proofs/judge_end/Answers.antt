-- `text_schedule::judge_end` meets its contract. Assumes nothing.
use Rattle.text_schedule.specs.Slots.{end_judged}
use borrow.Author.Tests.{le-leb, lt-leb}
use lib.ListN.{length}
use Prim.Native.Nat.{◌+◌}
use native.Mathlib.Omega.{arith}
use borrow.Author.Rules.{rules}
use Rattle.text_schedule.proofs.judge_end.Goals as goal

pub returns-then-next-text : goal.returns-then-next-text
unfolding end_judged
returns-then-next-text c =
    let c3 = c in
    let c6 = c in
    let a = c6.args in
    rw (c3.in-End.is, lt-leb (length a.text.now) (a.at + 1) (omega arith))
    (rw c.in_schedule.ensures at c.refuse-then-next-text.ensures)

pub returns-in-EndsEarly : goal.returns-in-EndsEarly
unfolding end_judged
returns-in-EndsEarly c = rw c.in-EndsEarly.is c.refuse.ensures

pub returns-in-Unknown : goal.returns-in-Unknown
unfolding end_judged
returns-in-Unknown c = rw c.in-Unknown.is c.refuse-in-Unknown.ensures

pub returns-else-next-text : goal.returns-else-next-text
unfolding end_judged
returns-else-next-text c =
    let a = c.args in
    rw (c.in-End.is, le-leb (length a.text.now) (a.at + 1) (omega arith))

pub returns-in-Put : goal.returns-in-Put
unfolding end_judged
returns-in-Put c = rw c.in-Put.is c.refuse-in-Put.ensures
