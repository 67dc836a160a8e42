-- `check_rates::lower` meets its contract. Assumes nothing.
use borrow.Author.Tests.{lt-ltb, le-ltb}
use Rattle.check_rates.specs.Rates.{lower_of}
use borrow.Author.Rules.{rules}
use Rattle.check_rates.proofs.lower.Goals as goal

pub returns-then-other-one : goal.returns-then-other-one
unfolding lower_of
returns-then-other-one c =
    let c4 = c in
    let c7 = c in
    rw (c7.in-Err.is, c4.in-Err-b.is) (rw (lt-ltb _ _ c.if-other-one.true))

pub returns-in-Ok : goal.returns-in-Ok
unfolding lower_of
returns-in-Ok c = rw c.in-Ok.is

pub returns-in-Ok-b : goal.returns-in-Ok-b
unfolding lower_of
returns-in-Ok-b c = rw (c.in-Err.is, c.in-Ok-b.is)

pub returns-else-other-one : goal.returns-else-other-one
unfolding lower_of
returns-else-other-one c =
    let c4 = c in
    let c7 = c in
    rw (c7.in-Err.is, c4.in-Err-b.is) (rw (le-ltb _ _ c.if-other-one.false))
