-- `latency_rule::is_in_time` meets its contract. Assumes nothing.
use borrow.Author.Rules.{rules}
use Rattle.latency_rule.proofs.is_in_time.Goals as goal

pub returns-in-Some : goal.returns-in-Some
returns-in-Some c = rw c.in-Some.is
