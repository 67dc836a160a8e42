-- `image_valid_code::is_last` meets its contract. Assumes nothing.
use borrow.Author.Tests.{eq-eqb, ne_eqb}
use Rattle.image_valid_code.specs.Shape.{last_of}
use Rattle.image_valid_code.proofs.is_last.Goals as goal

pub returns-then-x-own : goal.returns-then-x-own
unfolding last_of
returns-then-x-own c = rw (eq-eqb _ _ c.if-byte-eq95.true, eq-eqb _ _ c.if-x-own.true)

pub returns-then-byte-eq95 : goal.returns-then-byte-eq95
unfolding last_of
returns-then-byte-eq95 c = rw (eq-eqb _ _ c.if-byte-eq95.true, ne_eqb _ _ c.if-x-own.false)

pub returns : goal.returns
unfolding last_of
returns c = rw (ne_eqb _ _ c.if-byte-eq95.false)
