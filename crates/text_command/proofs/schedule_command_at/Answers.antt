-- `text_command::schedule_command_at` meets its contract. Assumes nothing.
use native.Mathlib.Omega.{arith}
use lib.ListN.{length, get_or}
use Prim.Native.Nat.{◌+◌}
use borrow.Author.Tests.{lt-ltb, le-ltb, le-leb, lt-leb, eq-eqb, ne_eqb}
use Rattle.model.specs.Rules.Schedule.{schedule_command_at}
use borrow.Author.Rules.{rules}
use Rattle.text_command.proofs.schedule_command_at.Goals as goal

pub returns-then-text-at : goal.returns-then-text-at
unfolding schedule_command_at
returns-then-text-at c =
    let a = c.args in
    let s = a.text.now in
    rw (le-ltb a.at (length s) (omega arith))

pub returns-then-byte-eq0 : goal.returns-then-byte-eq0
unfolding schedule_command_at
returns-then-byte-eq0 c =
    let a = c.args in
    let s = a.text.now in
    rw (lt-ltb a.at (length s) (omega arith), c.if-byte-eq0.true)

pub returns-then-byte-ne64 : goal.returns-then-byte-ne64
unfolding schedule_command_at
returns-then-byte-ne64 c =
    let a = c.args in
    let s = a.text.now in
    rw (
      lt-ltb a.at (length s) (omega arith),
      ne_eqb (get_or s a.at 0) 0 c.if-byte-eq0.false,
      ne_eqb (get_or s a.at 0) 64 c.if-byte-ne64.true,
    )

pub returns-then-left-in_schedule : goal.returns-then-left-in_schedule
unfolding schedule_command_at
returns-then-left-in_schedule c =
    let c3 = c in
    let c7 = c in
    let a = c7.args in
    let s = a.text.now in
    rw (
      lt-ltb a.at (length s) (omega arith),
      ne_eqb (get_or s a.at 0) 0 c3.if-byte-eq0.false,
      eq-eqb (get_or s a.at 0) 64 c.if-byte-ne64.false,
      lt-leb (a.at + 3) (length s) (omega arith),
    )

pub returns : goal.returns
unfolding schedule_command_at
returns c =
    let c4 = c in
    let c5 = c in
    let c9 = c in
    let a = c9.args in
    let s = a.text.now in
    rw (
      lt-ltb a.at (length s) (omega arith),
      ne_eqb (get_or s a.at 0) 0 c5.if-byte-eq0.false,
      eq-eqb (get_or s a.at 0) 64 c4.if-byte-ne64.false,
      le-leb (a.at + 3) (length s) (omega arith),
    )
