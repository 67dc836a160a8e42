-- `image_write::lay_out` meets its contract. Assumes nothing.
use mathlib.Core.Path.{sym, ◌∙◌}
use native.Mathlib.Omega.{arith}
use Rattle.text_schedule.proofs.Arranged.{short-hypercycle}
use Rattle.image_write.proofs.Imaged.{
  count-is,
  declared,
  timed,
  phased,
  lists-by,
  code_by,
  code-size,
  table-size,
  few-rows,
  length-by,
}
use Rattle.image_write.proofs.lay_out.Goals as goal

pub lay_out_code-requires : goal.lay_out_code-requires
lay_out_code-requires c =
    let f = c in
    let r = f.requires.2.2 in
    (timed r, phased r, short-hypercycle r, omega (arith, f.from_entry-size.ensures.1), few-rows r)

pub returns : goal.returns
returns c =
    let size = c.from_entry-size.ensures.0 in
    let l = c.lay_out_code.ensures in
    λ text reads p q r.
    record {
      lists-at = l.lists-at ∙ sym (lists-by r);
      code_at = omega (arith, code_by r, l.code_at, table-size r);
      ends = omega (arith, length-by r, l.code_at, l.ends, size, code-size r, table-size r);
      tail-ends =
          omega (arith, length-by r, l.code_at, l.ends, l.tail-ends, size, code-size r, count-is r, table-size r);
    }

pub offset_bounds-codes-n : goal.offset_bounds-codes-n
offset_bounds-codes-n c = omega (arith, (declared c.requires.2.2).few)

pub bounds-codes-n : goal.bounds-codes-n
bounds-codes-n c = omega (arith, (declared c.requires.2.2).few)
