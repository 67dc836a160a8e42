-- `check_rates::period_at` meets its contract. Assumes nothing.
use borrow.Author.Tests.{lt-ltb, le-ltb}
use Rattle.check_rates.specs.Rates.{period_at}
use borrow.Author.Rules.{rules}
use Rattle.check_rates.proofs.period_at.Goals as goal

pub returns-then-signal-lt64 : goal.returns-then-signal-lt64
unfolding period_at
returns-then-signal-lt64 c = rw (lt-ltb c.args.signal 64 c.if-signal-lt64.true)

pub returns-else-signal-lt64 : goal.returns-else-signal-lt64
unfolding period_at
returns-else-signal-lt64 c = rw (le-ltb c.args.signal 64 c.if-signal-lt64.false)
