-- `text_program::judge` meets its contract. Assumes nothing.
use Rattle.basics.specs.Judgement.{judgement_of}
use Rattle.model.specs.Rules.Outcome.{provided}
use Rattle.text_program.proofs.judge.Goals as goal

pub returns-then-holds : goal.returns-then-holds
unfolding judgement_of provided
returns-then-holds c = rw c.if-holds.true

pub returns-else-holds : goal.returns-else-holds
unfolding judgement_of provided
returns-else-holds c = rw c.if-holds.false c.refuse.ensures
