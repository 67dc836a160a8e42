-- `text_command::cap_at` meets its contract. Assumes nothing.
use borrow.Author.Tests.{le-leb, lt-leb}
use native.Mathlib.Omega.{arith}
use lib.ListN.{length}
use Prim.Native.Nat.{◌+◌}
use Rattle.model.specs.Rules.Command.{declaration_of}
use borrow.Author.Rules.{rules}
use Rattle.text_command.proofs.cap_at.Goals as goal

pub returns-then-left-in_program : goal.returns-then-left-in_program
unfolding declaration_of
returns-then-left-in_program c =
    let a = c.args in
    let s = a.text.now in
    rw (lt-leb (a.at + 5) (length s) (omega arith))

pub returns : goal.returns
unfolding declaration_of
returns c =
    let a = c.args in
    let s = a.text.now in
    rw (le-leb (a.at + 5) (length s) (omega arith), c.four_at-limit.ensures)
