-- `latency_rule::enough_for` meets its contract. Assumes nothing.
use borrow.Author.Rules.{rules}
use borrow.Author.Tests.{lt-ltb, le-ltb}
use Rattle.latency_rule.proofs.enough_for.Goals as goal

pub returns-in_default : goal.returns-in_default
returns-in_default c = rw c.in_default.is

pub returns-then-l-least : goal.returns-then-l-least
returns-then-l-least c =
    rw (c.in-Some.is, c.in-Exists.is, lt-ltb _ _ c.if-l-least.true)

pub returns-else-l-least : goal.returns-else-l-least
returns-else-l-least c =
    rw (c.in-Some.is, c.in-Exists.is, le-ltb _ _ c.if-l-least.false)

pub returns-then-least-l : goal.returns-then-least-l
returns-then-least-l c =
    rw (c.in-Some.is, c.in-Backward.is, lt-ltb _ _ c.if-least-l.true)

pub returns-else-least-l : goal.returns-else-least-l
returns-else-least-l c =
    rw (c.in-Some.is, c.in-Backward.is, le-ltb _ _ c.if-least-l.false)
