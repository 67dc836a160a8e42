-- `check_pair::check_lengths` meets its contract. Assumes nothing.
use native.Mathlib.Omega.{arith}
use lib.ListN.{length}
use borrow.Author.Tests.{le-leb, lt-leb}
use Rattle.model.specs.Rules.Outcome.{provided}
use Rattle.model.specs.Rules.Compile.{short_enough}
use Rattle.basics.specs.Judgement.{judgement_of}
use borrow.Author.Rules.{rules}
use Rattle.check_pair.proofs.check_lengths.Goals as goal

pub returns-then-program-gt8192 : goal.returns-then-program-gt8192
unfolding judgement_of short_enough provided
returns-then-program-gt8192 c = let a = c.args in
    rw (lt-leb (length a.program.now) 8192 c.if-program-gt8192.true) c.refuse.ensures

pub returns-then-schedule-gt193 : goal.returns-then-schedule-gt193
unfolding judgement_of short_enough provided
returns-then-schedule-gt193 c = let a = c.args in
    rw (
      le-leb (length a.program.now) 8192 (omega (arith, c.if-program-gt8192.false)),
      lt-leb (length a.schedule.now) 193 c.if-schedule-gt193.true,
    ) c.refuse-then-schedule-gt193.ensures

pub returns : goal.returns
unfolding judgement_of short_enough provided
returns c = let a = c.args in
    rw (
      le-leb (length a.program.now) 8192 (omega (arith, c.if-program-gt8192.false)),
      le-leb (length a.schedule.now) 193 (omega (arith, c.if-schedule-gt193.false)),
    )
