-- `join_code::shift_load` meets its contract. Assumes nothing.
use Prim.Native.Nat.{ℕ, ◌+◌, ◌%◌}
use mathlib.Core.Path.{sym, ap}
use native.Mathlib.Omega.{arith}
use borrow.Author.Rules.{rules}
use borrow.Author.Tests.{eq-eqb, ne_eqb}
use lib.ListN.{get_or, set}
use Rattle.join_code.specs.Shift.{shift_at}
use Rattle.join_code.proofs.shift_load.Goals as goal

pub bounds-out-next : goal.bounds-out-next
bounds-out-next c = omega (arith, c.requires.2 c.if-out-at-eq81.true)

pub bounds-out-next-then-out-at-eq81 : goal.bounds-out-next-then-out-at-eq81
bounds-out-next-then-out-at-eq81 c = omega (arith, c.requires.2 c.if-out-at-eq81.true)

pub returns-then-out-at-eq81 : goal.returns-then-out-at-eq81
unfolding shift_at
returns-then-out-at-eq81 c =
    let s = c in
    rw (eq-eqb (get_or s.args.out.now s.args.at 0) 0x51 c.if-out-at-eq81.true)
    (ap (λ (n : ℕ). set s.args.out.now (s.args.at + 1) ((n + s.args.base) % 256)) c.from_byte.ensures.0)

pub returns-else-out-at-eq81 : goal.returns-else-out-at-eq81
unfolding shift_at
returns-else-out-at-eq81 c =
    let s = c in
    sym (rw (ne_eqb (get_or s.args.out.now s.args.at 0) 0x51 c.if-out-at-eq81.false))

pub overflow_add-signal : goal.overflow_add-signal
overflow_add-signal c = omega (arith, c.from_byte.ensures.1, c.requires.1)
