-- `check_reads::read_met` meets its contract. Assumes nothing.
use mathlib.Core.Path.{sym, ◌∙◌}
use native.Mathlib.Omega.{arith}
use borrow.Author.Tests.{lt-ltb, le-ltb}
use Rattle.check_reads.specs.Met.{read_met}
use borrow.Author.Rules.{rules}
use Rattle.check_reads.proofs.read_met.Goals as goal

pub returns-then-signals-read : goal.returns-then-signals-read
unfolding read_met
returns-then-signals-read c = λ q. let a = c.args in rw (le-ltb a.operands.signal a.signals c.if-signals-read.true)

pub returns-then-signals-reader : goal.returns-then-signals-reader
unfolding read_met
returns-then-signals-reader c = λ q. let a = c.args in
    rw (
      lt-ltb a.operands.signal a.signals (omega (arith, c.if-signals-read.false)),
      le-ltb a.reader a.signals c.if-signals-reader.true,
    )

pub returns-then-is_met : goal.returns-then-is_met
unfolding read_met
returns-then-is_met c = λ q.
    let e = c in
    let a = e.args in
    rw (
      lt-ltb a.operands.signal a.signals (omega (arith, e.if-signals-read.false)),
      lt-ltb a.reader a.signals (omega (arith, e.if-signals-reader.false)),
      sym (c.is_met.ensures q) ∙ c.if-is_met.true,
    )

pub returns : goal.returns
unfolding read_met
returns c =
    let c5 = c in
    let c9 = c in
    λ q.
    let e = c in
    let a = e.args in
    rw (
      lt-ltb a.operands.signal a.signals (omega (arith, e.if-signals-read.false)),
      lt-ltb a.reader a.signals (omega (arith, e.if-signals-reader.false)),
      sym (c.is_met.ensures q) ∙
          c.if-is_met.false,
    ) c.refuse.ensures
