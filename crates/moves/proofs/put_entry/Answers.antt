-- `moves::put_entry` meets its contract. Assumes nothing.
use borrow.Author.Rules.{rules}
use borrow.Author.Tests.{lt-ltb, le-ltb}
use Rattle.moves.proofs.put_entry.Goals as goal

pub returns-then-second-list : goal.returns-then-second-list
returns-then-second-list c = rw (lt-ltb _ _ c.if-second-list.true)

pub returns-else-second-list : goal.returns-else-second-list
returns-else-second-list c = rw (le-ltb _ _ c.if-second-list.false)
