-- `image_valid::code_offset` meets its contract. Assumes nothing.
use Prim.Native.Nat.{◌+◌, ◌*◌, ◌≤◌}
use mathlib.Core.Path.{◌≡◌}
use native.Mathlib.Omega.{arith}
use lib.ListN.{length}
use borrow.Author.Tests.{lt-ltb, le-ltb}
use Rattle.model.specs.Rules.Machine.{code_offset}
use Rattle.image_valid.proofs.Parts.{head}
use Rattle.image_valid.proofs.code_offset.Goals as goal
use Rattle.image_valid.proofs.code_offset.Goals.{After-record_at}

pub record_at-requires : goal.record_at-requires
record_at-requires c = omega (arith, (head _ c.requires.0).signals)

-- the offset lies within the image
within : (c : After-record_at) → (c.record_at.result + 4 + 2 ≤ length c.args.image.now) ×
    (c.record_at.result ≤ 400)
within c =
    let h = head _ c.requires.0 in
    (omega (arith, h.signals, h.fixed, c.record_at.ensures), omega (arith, h.signals, c.record_at.ensures))

pub returns-then-x-n : goal.returns-then-x-n
unfolding code_offset
returns-then-x-n c =
    let t = c in
    let s = c in
    let e : c.record_at.result + 4 ≡ 8 + 6 * s.args.x = omega (arith, c.record_at.ensures) in
    rw (lt-ltb _ _ (rw s.requires.1 at t.if-x-n.true), ← e) c.offset_at.ensures

pub returns-else-x-n : goal.returns-else-x-n
unfolding code_offset
returns-else-x-n c = rw (le-ltb _ _ (rw c.requires.1 at c.if-x-n.false))

pub overflow_add-record_at : goal.overflow_add-record_at
overflow_add-record_at c = omega (arith, (within c).1)

pub offset_at-requires : goal.offset_at-requires
offset_at-requires c = (within c).0
