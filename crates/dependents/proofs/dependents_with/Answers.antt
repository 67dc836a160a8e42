-- `dependents::dependents_with` meets its contract. Assumes nothing.
use mathlib.Core.Path.{◌≡◌, sym, ap, ◌∙◌}
use Rattle.model.specs.Rules.Compile.{Pair, pair_of}
use Rattle.model.specs.Rules.Machine.{ran_of}
use Rattle.model.specs.Rules.Outcome.{accepted}
use Rattle.text_program.specs.Tables.{Stands, filled}
use Rattle.text_program.proofs.ByIndex.{indexes}
use Rattle.basics.proofs.Judgements.{answers-ok, answers-refused, handed-on}
use Rattle.dependents.proofs.Inputs.{reads-declared, pair-refused, input-refused, marks-done}
use Rattle.dependents.proofs.dependents_with.Goals as goal
use Rattle.dependents.proofs.dependents_with.Goals.{In_ok-check_tables}

-- the pair that the checks have accepted
pair : (e : In_ok-check_tables) → (q : Pair) × (pair_of e.args.program.now e.args.schedule.now ≡ accepted q) ×
    Stands e.args.program.now e.check_tables.new.reads e.check_tables.new.pair.tables q.program
pair e =
    let a = answers-ok _ _ _ _ e.check_tables.ensures (ap (filled _) e.in_ok-check_tables.was) in
    (a.0, a.1, a.2.arranged.stands)

pub returns-in_err-check_tables : goal.returns-in_err-check_tables
returns-in_err-check_tables c =
    let g = pair-refused _ _ _ _ _ (answers-refused _ _ _ _ c.check_tables.ensures (ap (filled _) c.in_err-check_tables.was)) in
    (ap ran_of (handed-on _ c.from_residual.ensures.1) ∙ g.0, g.1)

pub is_input-requires : goal.is_input-requires
is_input-requires c = let a = pair (goal.at.is_input-requires c).In_ok-check_tables in (_, (a.0.program, a.2))

pub returns-then-not-is_input : goal.returns-then-not-is_input
returns-then-not-is_input c =
    let a = pair (goal.at.returns-then-not-is_input c).In_ok-check_tables in
    let g = input-refused _ _ _ _ a.0 a.1 (sym (c.is_input.ensures a.0.program _ a.2) ∙ c.if-not-is_input.true) in
    (ap ran_of c.refuse.ensures ∙ g.0, g.1)

pub mark_all-requires : goal.mark_all-requires
mark_all-requires c =
    let a = pair (goal.at.mark_all-requires c).In_ok-check_tables in
    reads-declared _ _ _ _ a.0 a.1 a.2

pub returns : goal.returns
returns c =
    let a = pair (goal.at.returns c).In_ok-check_tables in
    let g = marks-done _ _ _ _ a.0 a.1 (sym (c.is_input.ensures a.0.program _ a.2) ∙ c.if-not-is_input.false) in
    (g.0, c.mark_all.ensures a.0.program (indexes a.2) ∙ g.1)
