-- `check_latency::timing_at` meets its contract. Assumes nothing.
use borrow.Author.Rules.{rules}
use Rattle.check_latency.proofs.timing_at.Goals as goal

pub returns : goal.returns
returns c = λ i. record { period = c.period_at.ensures i; phase = c.period_at-2.ensures i }
