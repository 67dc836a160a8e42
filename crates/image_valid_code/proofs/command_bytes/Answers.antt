-- `image_valid_code::command_bytes` meets its contract. Assumes nothing.
use borrow.Author.Tests.{eq-eqb, ne_eqb, lt-ltb, le-ltb}
use Rattle.image_valid_code.specs.Shape.{command_bytes}
use Rattle.image_valid_code.proofs.command_bytes.Goals as goal

pub returns-then-byte-eq80 : goal.returns-then-byte-eq80
unfolding command_bytes
returns-then-byte-eq80 c = rw (eq-eqb _ _ c.if-byte-eq80.true) c.in_code.ensures

pub returns-then-byte-lt80 : goal.returns-then-byte-lt80
unfolding command_bytes
returns-then-byte-lt80 c = rw (ne_eqb _ _ c.if-byte-eq80.false, lt-ltb _ _ c.if-byte-lt80.true) c.in_code-then-byte-lt80.ensures

pub returns : goal.returns
unfolding command_bytes
returns c = rw (ne_eqb _ _ c.if-byte-eq80.false, le-ltb _ _ c.if-byte-lt80.false) c.in_code-2.ensures
