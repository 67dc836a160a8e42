-- `join_verdict::one_table` meets its contract. Assumes nothing.
use mathlib.Core.Path.{sym}
use native.Mathlib.Omega.{arith}
use borrow.Author.Tests.{le-leb, lt-leb}
use Rattle.model.specs.Rules.Join.{one_table}
use Rattle.model.specs.Rules.Outcome.{provided}
use Rattle.model.specs.Rules.Parts.{tabled_parts}
use Rattle.basics.specs.Judgement.{judgement_of}
use Rattle.join_verdict.proofs.one_table.Goals as goal

pub returns-then-table-gt1 : goal.returns-then-table-gt1
unfolding judgement_of one_table provided
returns-then-table-gt1 c = λ parts t. rw (lt-leb (tabled_parts parts) 1 (omega (arith, c.if-table-gt1.true, t.tabled))) c.refuse.ensures

pub returns : goal.returns
unfolding judgement_of one_table provided
returns c = λ parts t. sym (rw (le-leb (tabled_parts parts) 1 (omega (arith, c.if-table-gt1.false, t.tabled))))
