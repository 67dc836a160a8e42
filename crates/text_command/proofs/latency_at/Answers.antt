-- `text_command::latency_at` meets its contract. Assumes nothing.
use borrow.Author.Tests.{le-leb, lt-leb}
use native.Mathlib.Omega.{arith}
use lib.ListN.{length, get_or}
use Prim.Native.Nat.{◌+◌}
use Rattle.model.specs.Rules.Command.{declaration_of}
use borrow.Author.Rules.{rules}
use Rattle.text_command.proofs.latency_at.Goals as goal

pub returns-then-left-lt2 : goal.returns-then-left-lt2
unfolding declaration_of
returns-then-left-lt2 c =
    let a = c.args in
    let s = a.text.now in
    rw (lt-leb (a.at + 2) (length s) (omega arith))

pub returns-then-byte-gt1 : goal.returns-then-byte-gt1
unfolding declaration_of
returns-then-byte-gt1 c =
    let a = c.args in
    let s = a.text.now in
    rw (le-leb (a.at + 2) (length s) (omega arith), lt-leb (get_or s (a.at + 1) 0) 1 (omega arith))

pub returns-then-left-in_program : goal.returns-then-left-in_program
unfolding declaration_of
returns-then-left-in_program c =
    let a = c.args in
    let s = a.text.now in
    rw (
      le-leb (a.at + 2) (length s) (omega arith),
      le-leb (get_or s (a.at + 1) 0) 1 (omega arith),
      lt-leb (a.at + 4) (length s) (omega arith),
    )

pub returns : goal.returns
unfolding declaration_of
returns c =
    let a = c.args in
    let s = a.text.now in
    rw (
      le-leb (a.at + 2) (length s) (omega arith),
      le-leb (get_or s (a.at + 1) 0) 1 (omega arith),
      le-leb (a.at + 4) (length s) (omega arith),
      c.mode_of-mode.ensures,
      c.two_at-bound.ensures,
    )
