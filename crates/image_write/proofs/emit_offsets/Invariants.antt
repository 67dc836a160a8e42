-- `image_write::emit_offsets` meets its contract. Assumes nothing.
use Prim.Native.Nat.{ℕ, ◌+◌, ◌≤◌, ◌<◌}
use mathlib.Core.Path.{◌≡◌}
use lib.ListN.{length, get_or}
use Rattle.model.specs.Rules.Image.{joined, offsets}
use Rattle.image_write.specs.Cursors.{Stands}
use Rattle.image_write.specs.Lists.{list_by, lists_by, pairs}
use Rattle.model.proofs.Basics.Left.{Left}
use Rattle.image_write.proofs.Cursors.{Prefix}
use Rattle.image_write.proofs.Joined.{joined_from, pairs_from}
use Rattle.image_write.proofs.emit_offsets.Given as goal

abbrev pub invariant-loop-c : goal.invariant-loop-c
invariant-loop-c l =
    let f = list_by l.periods l.order l.phases l.n in
    (l.c ≤ l.h) × (length l.starts ≡ 241) × (l.before + length (joined_from f l.h l.c) ≡ length (joined (lists_by l.periods l.order l.phases l.n l.h))) ×
    Left l.initial.out l.to (pairs (offsets l.start (lists_by l.periods l.order l.phases l.n l.h))) l.out l.end (pairs_from f l.h (l.start + l.before) l.c) ×
    Prefix f l.h l.c l.before × ((d : ℕ) → d < l.c → Stands f l.h d (get_or l.starts d 0))
