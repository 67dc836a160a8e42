-- `read_rule::lowest_index` meets its contract. Assumes nothing.
use Prim.Native.Nat.{suc, ◌-◌, ◌/◌, ◌≤◌}
use native.Mathlib.Nat.{mul-le-mul_left, mul-le-mul_right, div-mul-le_self}
use native.Mathlib.Omega.{arith}
use borrow.Author.Rules.{rules}
use borrow.Author.Tests.{lt-leb}
use Rattle.model.specs.Rules.Reads.{between}
use Rattle.read_rule.specs.Lines.{number_at, meets_at}
use Rattle.read_rule.proofs.lowest_index.Goals as goal

pub returns : goal.returns
unfolding meets_at between
returns c =
    let e = c in
    let s = e in
    let m = c.minus in
    let line = s.args.line in
    λ k l.
    let h : suc k ≤ m.result / line.step = omega arith in
    rw (lt-leb line.cycle (number_at line k)
    (omega (
      arith,
      mul-le-mul_right line.step h,
      div-mul-le_self m.result line.step,
      mul-le-mul_left k s.requires.within,
      m.ensures,
      e.if-line-eq0.false,
    )))

pub returns-then-line-eq0 : goal.returns-then-line-eq0
returns-then-line-eq0 c = λ k l. absurd (omega arith)
