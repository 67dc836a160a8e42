-- `larderlate::larderlate_tail` meets its contract. Assumes nothing.
use Rattle.std.proofs.Common.{◌∙◌}
use Rattle.image_valid.proofs.LentTail.{LastBytes, last-bytes, none_read}
use Rattle.larderlate.proofs.larderlate_tail.Goals as goal
use Rattle.larderlate.proofs.larderlate_tail.Goals.{In-Ok, in-Ok, in_default}

-- what the length says
told : (c : In-Ok) → LastBytes c.args.image.now c.in-Ok.n
told c = last-bytes _ c.in-Ok.ensures

pub overflow_sub-start : goal.overflow_sub-start
overflow_sub-start c = (told c).inside

pub returns-clause-place : goal.returns-clause-place
returns-clause-place c = elim c.match-length.branch [
  | in-Ok w ↦
      let t = last-bytes c.args.image.now w.in-Ok.ensures in
      w.start-is ∙ t.from ∙ rw t.accepts
  | in_default w ↦ w.start-is ∙ rw (none_read c.args.image.now w.in_default.ensures)
]
