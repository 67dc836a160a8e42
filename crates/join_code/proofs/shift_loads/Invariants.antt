-- `join_code::shift_loads` meets its contract. Assumes nothing.
use Prim.Native.Nat.{◌-◌, ◌≤◌}
use mathlib.Core.Path.{◌≡◌, refl, ap, ◌∙◌}
use native.Mathlib.Omega.{arith}
use borrow.Author.Rules.{rules}
use lib.ListN.{length}
use Rattle.join_code.specs.Shift.{Coded}
use Rattle.join_code.proofs.Commands.{Progress, begins, finishes, Next, steps, shift-length}
use Rattle.join_code.proofs.shift_loads.Given as goal

abbrev pub invariant-loop-at : goal.invariant-loop-at
invariant-loop-at l =
    (l.base ≤ 64) × (length l.out ≡ length l.initial.out) × ((r : Coded l.initial.out l.from l.to) → Progress l.base r l.out l.at)

abbrev pub decreases-loop-at : goal.decreases-loop-at
decreases-loop-at l = l.to - l.at
