-- `text_list::find_value` meets its contract. Assumes nothing.
use Prim.Native.Nat.{◌+◌, ◌*◌}
use native.Mathlib.Omega.{arith}
use borrow.Author.Tests.{ne_eqb}
use lib.Dec.{eqb}
use Rattle.text_keyword.specs.Cells.{byte_of}
use Rattle.text_list.proofs.Writes.{search-none}
use Rattle.text_list.proofs.find_value.Goals as goal

pub returns-then-value-gt255 : goal.returns-then-value-gt255
returns-then-value-gt255 c =
    let a = c.args in
    search-none a.count (λ i. eqb (byte_of a.table.now (a.from + i)) a.value)
    (λ i lt. ne_eqb (byte_of a.table.now (a.from + i)) a.value
    (λ q. omega (arith, c.if-value-gt255.true, c.shared_slice_known-1.given (15 * (a.from + i) + 10))))
