-- `check_table::check_table` meets its contract. Assumes nothing.
use mathlib.Core.Bool.{true, false}
use mathlib.Core.Path.{sym, ap, ◌∙◌}
use borrow.Author.Rules.{rules}
use borrow.Author.Tests.{not-true, not-false}
use Rattle.basics.specs.Judgement.{judgement_of}
use Rattle.model.specs.Rules.Cover.{covering}
use Rattle.check_table.proofs.Covered.{rows-placed, rows_are, tabled-by}
use Rattle.check_table.proofs.check_table.Goals as goal

pub returns-then-not-is_some : goal.returns-then-not-is_some
unfolding judgement_of
returns-then-not-is_some c p reads e =
    sym (ap judgement_of (tabled-by e false (sym c.is_some.ensures ∙ c.if-not-is_some.true)))

pub check_rows-requires : goal.check_rows-requires
check_rows-requires c =
    rows-placed c.requires.1.1

pub returns : goal.returns
returns c p reads e =
    let d = c in
    c.check_rows.ensures ∙ ap (λ rows. judgement_of (covering rows)) (rows_are e) ∙
    sym (ap judgement_of (tabled-by e true (sym d.is_some.ensures ∙ d.if-not-is_some.false)))
