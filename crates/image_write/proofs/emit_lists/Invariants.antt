-- `image_write::emit_lists` meets its contract. Assumes nothing.
use Prim.Native.Nat.{◌≤◌}
use mathlib.Core.Path.{◌≡◌}
use lib.ListN.{length}
use Rattle.model.specs.Rules.Image.{joined}
use Rattle.image_write.specs.Cursors.{lists_after, Pending}
use Rattle.image_write.specs.Lists.{list_by, lists_by}
use Rattle.image_write.proofs.Listed.{list_from}
use Rattle.image_write.proofs.emit_lists.Given as goal

abbrev pub invariant-loop-i : goal.invariant-loop-i
invariant-loop-i l =
    (l.i ≤ l.n) × (length l.nexts ≡ 241) ×
    Pending (joined (lists_by l.periods l.order l.phases l.n l.h)) l.initial.out l.to l.h (λ c. length (lists_after (list_by l.periods l.order l.phases l.n) l.h c))
    (λ c. list_from l.periods l.order l.phases l.n c l.i) l.out l.nexts
