-- `text_convert::put` meets its contract. Assumes nothing.
use mathlib.Core.Path.{refl}
use native.Mathlib.Numerals.{towards_suc}
use native.Mathlib.Omega.{arith}
use lib.ListN.{length-set}
use Rattle.text_convert.proofs.put.Goals as goal

pub copy-requires : goal.copy-requires
copy-requires c = rw c.in-Keep.is at c.requires

pub bounds-out-to : goal.bounds-out-to
bounds-out-to c = omega (arith, rw c.in-Short.is at c.requires.1)

pub bounds-out-to-in-Short : goal.bounds-out-to-in-Short
bounds-out-to-in-Short c =
    simp length-set (omega (arith, rw c.in-Short.is at c.requires.1))

pub returns-in-Keep : goal.returns-in-Keep
returns-in-Keep c = rw c.in-Keep.is c.copy.ensures

pub overflow_add-result : goal.overflow_add-result
overflow_add-result c =
    omega (arith, c.in_expression.ensures, rw c.in-Short.is at c.requires.1)

pub returns-in-Short : goal.returns-in-Short
returns-in-Short c =
    rw (c.in-Short.is, c.in_expression.ensures) (record { holds = simp towards_suc; ends = refl })
