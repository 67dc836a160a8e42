-- `image_valid_code::is_fetch` meets its contract. Assumes nothing.
use borrow.Author.Tests.{eq-eqb, ne_eqb}
use Rattle.image_valid_code.specs.Shape.{fetch_of}
use Rattle.image_valid_code.proofs.is_fetch.Goals as goal

pub returns-then-x-own : goal.returns-then-x-own
unfolding fetch_of
returns-then-x-own c = rw (eq-eqb _ _ c.if-byte-eq82.true, eq-eqb _ _ c.if-x-own.true)

pub returns-then-byte-eq82 : goal.returns-then-byte-eq82
unfolding fetch_of
returns-then-byte-eq82 c = rw (eq-eqb _ _ c.if-byte-eq82.true, ne_eqb _ _ c.if-x-own.false)

pub returns : goal.returns
unfolding fetch_of
returns c = rw (ne_eqb _ _ c.if-byte-eq82.false)
