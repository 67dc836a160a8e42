-- `check_rates::check_rates` meets its contract. Assumes nothing.
use mathlib.Core.Path.{ap, ◌∙◌}
use Rattle.model.specs.Rules.Outcome.{lowest}
use Rattle.basics.specs.Judgement.{judgement_of}
use Rattle.check_rates.specs.Rates.{read_rates, lower_of}
use Rattle.check_rates.proofs.Judging.{both-rates}
use Rattle.text_program.proofs.ByIndex.{few-signals, indexes}
use borrow.Author.Rules.{rules}
use Rattle.check_rates.proofs.check_rates.Goals as goal

pub judge_reads-of_reads-requires : goal.judge_reads-of_reads-requires
judge_reads-of_reads-requires c =
    let c6 = c in
    let k = c6.requires.1 in
    (few-signals _ _ _ k.declares k.tables-are, (c6.requires.0, indexes k))

pub judge_links-of_links-requires : goal.judge_links-of_links-requires
judge_links-of_links-requires c =
    let c5 = c in
    let c7 = c in
    (_, c7.requires)

pub returns : goal.returns
returns c =
    λ p e.
    c.lower.ensures ∙ ap (λ x. lower_of x c.judge_links-of_links.result)
    (c.judge_reads-of_reads.ensures p (indexes e) e.tables-are.periods) ∙
    ap (λ x. lower_of (judgement_of (lowest (read_rates p))) x) (c.judge_links-of_links.ensures p _ e) ∙ both-rates p
