-- `width::schedule` meets its contract. Assumes nothing.
use borrow.Author.Tests.{ne_eqb}
use Rattle.width.proofs.schedule.Goals as goal

pub returns-in_default : goal.returns-in_default
returns-in_default c =
    let b = c.args.byte in
    simp (ne_eqb b 0x00 c.in_default.in_default-own.rest.0.1, ne_eqb b 0x40 c.in_default.in_default-own.rest.1)

pub returns-in-0 : goal.returns-in-0
returns-in-0 c = rw c.in-0.is

pub returns-in-64 : goal.returns-in-64
returns-in-64 c = rw c.in-64.is
