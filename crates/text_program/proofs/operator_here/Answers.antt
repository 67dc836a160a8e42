-- `text_program::operator_here` meets its contract. Assumes nothing.
use borrow.Author.Tests.{lt-ltb, le-ltb}
use mathlib.Core.Path.{sym, ◌∙◌}
use Rattle.model.specs.Rules.Outcome.{◌▷◌, provided}
use Rattle.model.specs.Rules.Program.{operator_here}
use Rattle.basics.specs.Judgement.{judgement_of}
use Rattle.text_program.proofs.operator_here.Goals as goal

pub returns-then-text-at : goal.returns-then-text-at
unfolding judgement_of operator_here provided ◌▷◌
returns-then-text-at c = rw (le-ltb _ _ c.if-text-at.true) c.refuse.ensures

pub returns-in-Some : goal.returns-in-Some
unfolding judgement_of operator_here provided ◌▷◌
returns-in-Some c =
    let w = c.expression-width.ensures in
    rw (lt-ltb _ _ c.if-text-at.false, sym w ∙ c.in-Some.is)

pub returns-in-None : goal.returns-in-None
unfolding judgement_of operator_here provided ◌▷◌
returns-in-None c =
    let w = c.expression-width.ensures in
    rw (lt-ltb _ _ c.if-text-at.false, sym w ∙ c.in-None.is)
    c.refuse-in-None.ensures
