-- `text_command::is_index` meets its contract. Assumes nothing.
use borrow.Author.Tests.{lt-ltb, le-ltb}
use Rattle.text_command.proofs.is_index.Goals as goal

pub returns-then-i-n : goal.returns-then-i-n
returns-then-i-n c = rw (lt-ltb _ _ c.if-i-n.true)

pub returns-else-i-n : goal.returns-else-i-n
returns-else-i-n c = rw (le-ltb _ _ c.if-i-n.false)
