-- `text_command::plain_read` meets its contract. Assumes nothing.
use native.Mathlib.Omega.{arith}
use lib.ListN.{length}
use Prim.Native.Nat.{◌+◌}
use borrow.Author.Tests.{le-leb, lt-leb}
use Rattle.model.specs.Rules.Command.{plain_read}
use borrow.Author.Rules.{rules}
use Rattle.text_command.proofs.plain_read.Goals as goal

pub returns-then-left-in_expression : goal.returns-then-left-in_expression
unfolding plain_read
returns-then-left-in_expression c =
    let a = c.args in
    rw (lt-leb (a.at + 2) (length a.text.now) (omega arith))

pub returns : goal.returns
unfolding plain_read
returns c =
    let a = c.args in
    rw (le-leb (a.at + 2) (length a.text.now) (omega arith))
