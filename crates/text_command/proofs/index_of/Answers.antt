-- `text_command::index_of` meets its contract. Assumes nothing.
use borrow.Author.Tests.{ne_eqb}
use Rattle.text_command.proofs.index_of.Goals as goal

pub returns-then-i-eq255 : goal.returns-then-i-eq255
returns-then-i-eq255 c = rw c.if-i-eq255.true

pub returns-else-i-eq255 : goal.returns-else-i-eq255
returns-else-i-eq255 c = rw (ne_eqb _ 255 c.if-i-eq255.false)
