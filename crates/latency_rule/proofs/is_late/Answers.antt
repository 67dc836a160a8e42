-- `latency_rule::is_late` meets its contract. Assumes nothing.
use borrow.Author.Rules.{rules}
use Rattle.latency_rule.proofs.is_late.Goals as goal

pub returns-in-Some : goal.returns-in-Some
returns-in-Some c = rw c.in-Some.is
