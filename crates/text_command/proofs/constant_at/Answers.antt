-- `text_command::constant_at` meets its contract. Assumes nothing.
use Rattle.word.proofs.Locals.{kept}
use borrow.Author.Tests.{le-leb, lt-leb}
use native.Mathlib.Omega.{arith}
use lib.ListN.{length}
use Prim.Native.Nat.{◌+◌}
use Rattle.model.specs.Rules.Command.{operator_of}
use borrow.Author.Rules.{rules}
use Rattle.text_command.proofs.constant_at.Goals as goal

pub returns-then-left-in_expression : goal.returns-then-left-in_expression
unfolding operator_of
returns-then-left-in_expression c =
    let a = c.args in
    let s = a.text.now in
    rw (lt-leb (a.at + 5) (length s) (omega arith))

pub returns : goal.returns
unfolding operator_of
returns c =
    let a = c.args in
    let s = a.text.now in
    rw (le-leb (a.at + 5) (length s) (omega arith), kept _ c.word_at-w.type_inv, c.word_at-w.ensures)
