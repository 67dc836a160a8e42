-- `image_valid::list_offset` meets its contract. Assumes nothing.
use mathlib.Core.Path.{ap, ◌∙◌}
use Prim.Native.Nat.{ℕ, ◌+◌, ◌*◌, ◌≤◌}
use native.Mathlib.Omega.{arith}
use lib.ListN.{length}
use Rattle.model.specs.Rules.Machine.{list_offset}
use Rattle.model.specs.Rules.Word.{two_at}
use Rattle.image_valid.proofs.Parts.{head}
use Rattle.image_valid.proofs.list_offset.Goals as goal
use Rattle.image_valid.proofs.list_offset.Goals.{After-record_at}

pub record_at-requires : goal.record_at-requires
record_at-requires c = omega (arith, (head _ c.requires.0).signals)

-- the offset lies within the image
within : (c : After-record_at) → let s = c in
    (c.record_at.result + 2 * s.args.c + 2 ≤ length s.args.image.now) × (2 * s.args.c ≤ 480) ×
    (c.record_at.result ≤ 400)
within c =
    let s = c in
    let h = head _ s.requires.0 in (
      omega (arith, h.signals, h.hyper, h.fixed, c.record_at.ensures),
      omega (arith, h.hyper),
      omega (arith, h.signals, c.record_at.ensures),
    )

pub returns : goal.returns
unfolding list_offset
returns c =
    let s = c in
    c.offset_at.ensures ∙ ap (λ (at : ℕ). two_at s.args.image.now (at + 2 * s.args.c)) c.record_at.ensures ∙
    ap (λ (n : ℕ). two_at s.args.image.now (4 + 6 * n + 2 * s.args.c)) s.requires.1

pub overflow_mul-c : goal.overflow_mul-c
overflow_mul-c c = omega (arith, (within c).1)

pub overflow_add-record_at : goal.overflow_add-record_at
overflow_add-record_at c = omega (arith, (within c).1, (within c).2)

pub offset_at-requires : goal.offset_at-requires
offset_at-requires c = (within c).0
