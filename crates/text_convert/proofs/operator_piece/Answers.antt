-- `text_convert::operator_piece` meets its contract. Assumes nothing.
use borrow.Author.Tests.{eq-eqb, ne_eqb}
use Rattle.text_convert.proofs.operator_piece.Goals as goal

pub returns-then-factor-eq1 : goal.returns-then-factor-eq1
returns-then-factor-eq1 c =
    rw (c.of_read-width.ensures, c.in-Read.is, c.short_byte-byte.ensures)
    (rw (eq-eqb _ _ c.if-factor-eq1.true))

pub returns-in-Constant : goal.returns-in-Constant
returns-in-Constant c = rw (c.in_expression.ensures, c.in-Constant.is)

pub returns-else-factor-eq1 : goal.returns-else-factor-eq1
returns-else-factor-eq1 c =
    rw (c.of_read-width.ensures, c.in-Read.is) (rw (ne_eqb _ _ c.if-factor-eq1.false))

pub returns-in-Binary : goal.returns-in-Binary
returns-in-Binary c = rw (c.in_expression-in-Binary.ensures, c.in-Binary.is)

pub returns-in-Unary : goal.returns-in-Unary
returns-in-Unary c = rw (c.in_expression-in-Unary.ensures, c.in-Unary.is)

pub returns-in-If : goal.returns-in-If
returns-in-If c = rw (c.in_expression-in-If.ensures, c.in-If.is)
