-- `check_pair::check_program` meets its contract. Assumes nothing.
use mathlib.Core.Path.{◌≡◌, sym, ap, ◌∙◌}
use Rattle.model.specs.Rules.Cover.{tabled}
use Rattle.model.specs.Rules.Outcome.{yielded_of, accepted}
use Rattle.model.specs.Rules.Program.{Program}
use Rattle.model.specs.Rules.Rates.{declared_and_rated, hypercycle, linked}
use Rattle.model.proofs.Basics.Outcomes.{accepted-then, refused-then}
use Rattle.basics.proofs.Judgements.{judgement-fine, judgement-refused, handed-on}
use Rattle.text_program.specs.Tables.{Stands}
use Rattle.text_program.proofs.ByIndex.{few-signals}
use Rattle.check_pair.specs.Groups.{rates_of}
use Rattle.check_pair.proofs.check_program.Goals as goal
use Rattle.check_pair.proofs.check_program.Goals.{In_ok-check_rates, In_ok-hypercycle, In_ok-check_links}

-- where 7 and 8 are passed, 9, and 10
rated : (e : In_ok-check_rates) (p : Program) → Stands e.args.text.now e.args.reads.now e.args.tables.now p →
    declared_and_rated p ≡ accepted tt
rated e p s = judgement-fine _ _ (e.check_rates.ensures p s) e.in_ok-check_rates.was

common : (e : In_ok-hypercycle) (p : Program) → Stands e.args.text.now e.args.reads.now e.args.tables.now p →
    hypercycle p ≡ accepted e.in_ok-hypercycle.hypercycle
common e p s =
    let t = s.tables-are in
    sym (e.check_hypercycle.ensures p t.counts.signals-are t.periods) ∙ ap yielded_of e.in_ok-hypercycle.was

joined : (e : In_ok-check_links) (p : Program) → Stands e.args.text.now e.args.reads.now e.args.tables.now p → linked p ≡ accepted tt
joined e p s = judgement-fine _ _ (e.check_links.ensures p s) e.in_ok-check_links.was

pub check_hypercycle-requires : goal.check_hypercycle-requires
check_hypercycle-requires c = let s = c.requires.1 in few-signals _ _ _ s.declares s.tables-are

pub check_table-requires : goal.check_table-requires
check_table-requires c = (_, c.requires)

pub returns-in_err-check_rates : goal.returns-in_err-check_rates
unfolding rates_of
returns-in_err-check_rates c p s =
    ap yielded_of (handed-on _ c.from_residual.ensures.1) ∙
    sym (refused-then _ _ _ (judgement-refused _ _ _ (c.check_rates.ensures p s) c.in_err-check_rates.was))

pub returns-in_err-hypercycle : goal.returns-in_err-hypercycle
unfolding rates_of
returns-in_err-hypercycle c p s =
    let t = s.tables-are in
    ap yielded_of (handed-on _ c.from_residual-in_err-hypercycle.ensures.1) ∙
    sym (accepted-then _ _ _ (rated (goal.at.returns-in_err-hypercycle c).In_ok-check_rates p s) ∙
    refused-then _ _ _
    (sym (c.check_hypercycle.ensures p t.counts.signals-are t.periods) ∙ ap yielded_of c.in_err-hypercycle.was))

pub returns-in_err-check_links : goal.returns-in_err-check_links
unfolding rates_of
returns-in_err-check_links c p s =
    ap yielded_of (handed-on _ c.from_residual-in_err-check_links.ensures.1) ∙
    sym (accepted-then _ _ _ (rated (goal.at.returns-in_err-check_links c).In_ok-check_rates p s) ∙
    accepted-then _ _ _ (common (goal.at.returns-in_err-check_links c).In_ok-hypercycle p s) ∙
    refused-then _ _ _ (judgement-refused _ _ _ (c.check_links.ensures p s) c.in_err-check_links.was))

pub returns-in_err-check_table : goal.returns-in_err-check_table
unfolding rates_of
returns-in_err-check_table c p s =
    ap yielded_of (handed-on _ c.from_residual-in_err-check_table.ensures.1) ∙
    sym (accepted-then _ _ _ (rated (goal.at.returns-in_err-check_table c).In_ok-check_rates p s) ∙
    accepted-then _ _ _ (common (goal.at.returns-in_err-check_table c).In_ok-hypercycle p s) ∙
    accepted-then _ _ _ (joined (goal.at.returns-in_err-check_table c).In_ok-check_links p s) ∙
    refused-then _ _ _ (judgement-refused _ _ _ (c.check_table.ensures p _ s) c.in_err-check_table.was))

pub returns : goal.returns
unfolding rates_of
returns c p s =
    let covered : tabled p ≡ accepted tt = judgement-fine _ _ (c.check_table.ensures p _ s) c.in_ok-check_table.was in
    sym (accepted-then _ _ _ (rated (goal.at.returns c).In_ok-check_rates p s) ∙
    accepted-then _ _ _ (common (goal.at.returns c).In_ok-hypercycle p s) ∙
    accepted-then _ _ _ (joined (goal.at.returns c).In_ok-check_links p s) ∙
    accepted-then _ _ _ covered)
