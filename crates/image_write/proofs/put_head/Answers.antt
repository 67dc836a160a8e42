-- `image_write::put_head` meets its contract. Assumes nothing.
use native.Mathlib.Omega.{arith}
use mathlib.Core.Path.{◌∙◌}
use lib.ListN.{length-set}
use Rattle.model.proofs.Basics.Left.{wrote-size}
use Rattle.image_write.proofs.put_head.Goals as goal

pub shape_of-out : goal.shape_of-out
shape_of-out c = wrote-size c.put_offset.ensures ∙ simp length-set

pub returns : goal.returns
returns c =
    let c4 = c in
    let c5 = c in
    let p = rw (c5.to_byte.ensures, c4.to_byte-2.ensures) at c.put_offset.ensures in
    record { holds = p.holds; ends = omega (arith, p.ends) }

pub bounds-out-1 : goal.bounds-out-1
bounds-out-1 c = simp length-set (omega arith)

pub put_offset-requires : goal.put_offset-requires
put_offset-requires c = simp length-set (omega arith)
