-- `text_convert::copy` meets its contract. Assumes nothing.
use Prim.Native.Nat.{◌+◌, ◌-◌, ◌≤◌}
use lib.ListN.{take, drop}
use Rattle.model.proofs.Basics.Left.{Left}
use Rattle.text_convert.proofs.copy.Given as goal

abbrev pub invariant-loop-i : goal.invariant-loop-i
invariant-loop-i l =
    (l.i ≤ l.at + l.n) ×
    Left l.initial.out l.to (take l.n (drop l.at l.text)) l.out l.end (take (l.at + l.n - l.i) (drop l.i l.text))
