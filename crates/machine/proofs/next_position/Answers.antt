-- `machine::next_position` meets its contract. Assumes nothing.
use Prim.Native.Nat.{◌+◌}
use native.Mathlib.Omega.{arith}
use borrow.Author.Tests.{eq-eqb, ne_eqb}
use mir.Syntax.{w32}
use mir.ValLaws.{to_z_pos}
use Rattle.model.specs.Rules.Machine.{next_position}
use Rattle.machine.proofs.next_position.Goals as goal

pub returns-then-c-h : goal.returns-then-c-h
unfolding next_position
returns-then-c-h c = rw (eq-eqb _ _ c.if-c-h.true)

pub returns-else-c-h : goal.returns-else-c-h
unfolding next_position
returns-else-c-h c = rw (ne_eqb _ _ c.if-c-h.false) (to_z_pos w32 (c.args.c + 1) (omega arith))
