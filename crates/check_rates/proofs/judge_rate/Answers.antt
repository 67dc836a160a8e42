-- `check_rates::judge_rate` meets its contract. Assumes nothing.
use borrow.Author.Tests.{not-true, not-false}
use Rattle.check_rates.specs.Rates.{rate_judged}
use borrow.Author.Rules.{rules}
use Rattle.check_rates.proofs.judge_rate.Goals as goal

pub returns-then-not-declared : goal.returns-then-not-declared
unfolding rate_judged
returns-then-not-declared c = rw (c.if-not-declared.true) c.refuse.ensures

pub returns-then-not-kept : goal.returns-then-not-kept
unfolding rate_judged
returns-then-not-kept c =
    let a = c.args in
    rw (c.if-not-declared.false, c.if-not-kept.true) c.refuse-then-not-kept.ensures

pub returns : goal.returns
unfolding rate_judged
returns c =
    let a = c.args in
    rw (c.if-not-declared.false, c.if-not-kept.false)
