-- `image_write::lists_length` meets its contract. Assumes nothing.
use Prim.Native.Nat.{◌+◌, ◌≤◌}
use mathlib.Core.Path.{◌≡◌}
use lib.ListN.{length}
use Rattle.model.specs.Rules.Image.{joined}
use Rattle.image_write.specs.Lists.{lists_by}
use Rattle.image_write.proofs.Counted.{length_from}
use Rattle.image_write.proofs.lists_length.Given as goal

abbrev pub invariant-loop-i : goal.invariant-loop-i
invariant-loop-i l =
    (l.i ≤ l.n) × (l.total + length_from l.periods l.order l.phases l.n l.h l.i ≡ length (joined (lists_by l.periods l.order l.phases l.n l.h)))
