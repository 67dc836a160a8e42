-- `read_rule::meets` meets its contract. Assumes nothing.
use Prim.Native.Nat.{◌+◌}
use mathlib.Core.Path.{ap}
use native.Mathlib.Omega.{arith}
use borrow.Author.Rules.{rules}
use borrow.Author.Tests.{le-leb, lt-leb}
use lib.Dec.{ltb}
use Rattle.model.specs.Rules.Reads.{between}
use Rattle.read_rule.specs.Lines.{number_at, meets_at}
use Rattle.read_rule.proofs.meets.Goals as goal

pub returns-then-number-line : goal.returns-then-number-line
unfolding meets_at between
returns-then-number-line c =
    let n = c in
    let a = n.args in
    rw (lt-leb a.line.cycle (number_at a.line a.index) (omega (arith, n.number_at-number.ensures, c.if-number-line.true)))

pub returns : goal.returns
unfolding meets_at between
returns c =
    let n = c in
    let a = n.args in
    rw (le-leb a.line.cycle (number_at a.line a.index) (omega (arith, n.number_at-number.ensures, c.if-number-line.false)))
    (ap (λ x. ltb x (a.line.cycle + a.line.step)) n.number_at-number.ensures)
