-- `join_texts::check_texts` meets its contract. Assumes nothing.
use mathlib.Core.Path.{sym, ◌∙◌}
use borrow.Author.Tests.{le-leb, lt-leb}
use Rattle.model.specs.Rules.Join.{parts_in, lent}
use Rattle.model.specs.Rules.Outcome.{◌▷◌, provided}
use Rattle.basics.specs.Judgement.{judgement_of}
use Rattle.join_texts.proofs.check_texts.Goals as goal

pub returns-then-not-is_short : goal.returns-then-not-is_short
unfolding judgement_of lent ◌▷◌ provided
returns-then-not-is_short c =
    rw (sym c.is_short.ensures ∙ c.if-not-is_short.true) c.refuse.ensures

pub returns-then-numbers-gt8 : goal.returns-then-numbers-gt8
unfolding judgement_of lent ◌▷◌ provided
returns-then-numbers-gt8 c =
    let c2 = c in
    let a = c2.args in
    rw (
      sym c2.is_short.ensures ∙ c2.if-not-is_short.false,
      lt-leb (parts_in a.numbers.now) 8 c.if-numbers-gt8.true,
    ) c.refuse-then-numbers-gt8.ensures

pub returns-then-not-all_lent : goal.returns-then-not-all_lent
unfolding judgement_of lent ◌▷◌ provided
returns-then-not-all_lent c =
    let c4 = c in
    let a = c4.args in
    rw (
      sym c4.is_short.ensures ∙ c4.if-not-is_short.false,
      le-leb (parts_in a.numbers.now) 8 c.if-numbers-gt8.false,
      sym c.all_lent.ensures ∙ c.if-not-all_lent.true,
    ) c.refuse-then-not-all_lent.ensures

pub returns : goal.returns
unfolding judgement_of lent ◌▷◌ provided
returns c =
    let c3 = c in
    let a = c3.args in
    sym (rw (
      sym c3.is_short.ensures ∙ c3.if-not-is_short.false,
      le-leb (parts_in a.numbers.now) 8 c.if-numbers-gt8.false,
      sym c.all_lent.ensures ∙ c.if-not-all_lent.false,
    ))
