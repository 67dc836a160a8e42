-- `machine::initial_words` meets its contract. Assumes nothing.
use mathlib.Core.Path.{◌≡◌}
use Prim.Native.Nat.{◌≤◌}
use lib.ListN.{length}
use Rattle.machine.proofs.Lists.{begun}
use Rattle.machine.proofs.initial_words.Given as goal

abbrev pub invariant-loop-x : goal.invariant-loop-x
invariant-loop-x l = (l.state ≡ begun l.image l.x l.initial.state) × (length l.state ≡ length l.initial.state) × (l.x ≤ l.n)
