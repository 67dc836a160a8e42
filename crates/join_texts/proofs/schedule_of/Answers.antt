-- `join_texts::schedule_of` meets its contract. Assumes nothing.
use Prim.Native.Nat.{◌*◌}
use native.Mathlib.Nat.{add_assoc}
use native.Mathlib.Omega.{arith}
use Rattle.model.proofs.Joining.Lent.{number-inside}
use Rattle.join_texts.proofs.Lent.{kept}
use Rattle.join_texts.proofs.schedule_of.Goals as goal

pub stretch_at-requires : goal.stretch_at-requires
stretch_at-requires c = let a = c.args in (
  omega (arith, number-inside a.numbers.now a.k 3 c.requires.0 (omega arith)),
  rw (add_assoc (4 * a.k) 2 1) ((kept a.texts.now a.numbers.now c.requires.1).schedules a.k c.requires.0),
)

pub returns : goal.returns
returns c = rw (add_assoc (4 * c.args.k) 2 1) at c.stretch_at.ensures
