-- `run_code::leaf_length` meets its contract. Assumes nothing.
use borrow.Author.Tests.{eq-eqb, ne_eqb}
use borrow.Author.Rules.{rules}
use Rattle.run_code.proofs.leaf_length.Goals as goal

pub returns-then-byte-eq80 : goal.returns-then-byte-eq80
returns-then-byte-eq80 c = rw (eq-eqb _ _ c.if-byte-eq80.true) c.in_code.ensures

pub returns-else-byte-eq80 : goal.returns-else-byte-eq80
returns-else-byte-eq80 c = rw (ne_eqb _ _ c.if-byte-eq80.false) c.in_code-else-byte-eq80.ensures
