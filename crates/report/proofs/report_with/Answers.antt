-- `report::report_with` meets its contract. Assumes nothing.
use mathlib.Core.Path.{◌≡◌, ap, ◌∙◌}
use Rattle.model.specs.Rules.Compile.{Pair, pair_of}
use Rattle.model.specs.Rules.Outcome.{accepted}
use Rattle.model.specs.Rules.Report.{reported_of}
use Rattle.image_write.specs.Layout.{LaidOut}
use Rattle.image_write.proofs.Imaged.{declared, timed, phased}
use Rattle.text_schedule.proofs.Arranged.{short-hypercycle}
use Rattle.check_pair.specs.Checked.{Checks}
use Rattle.text_program.specs.Tables.{filled}
use Rattle.basics.proofs.Judgements.{answers-ok, answers-refused, handed-on}
use Rattle.report.proofs.Sums.{counts-are, highest-is, program-short, report-refused, report-done}
use Rattle.report.proofs.report_with.Goals as goal
use Rattle.report.proofs.report_with.Goals.{After-lay_out-layout, In_ok-check_tables}

-- the pair that the checks have accepted
pair : (e : In_ok-check_tables) → (q : Pair) × (pair_of e.args.program.now e.args.schedule.now ≡ accepted q) ×
    Checks e.args.program.now e.check_tables.new.reads e.check_tables.new.pair q
pair e = answers-ok _ _ _ _ e.check_tables.ensures (ap (filled _) e.in_ok-check_tables.was)

-- the layout of its image and tail
laid_out : (l : After-lay_out-layout) → let q = (pair (goal.at.After-lay_out-layout l).In_ok-check_tables).0 in
    LaidOut q.program q.schedule l.check_tables.new.pair.hypercycle l.lay_out-layout.result
laid_out l = l.lay_out-layout.ensures _ _ _ _ (pair (goal.at.After-lay_out-layout l).In_ok-check_tables).2.arranged

pub returns-in_err-check_tables : goal.returns-in_err-check_tables
returns-in_err-check_tables c =
    let g = report-refused _ _ _ _ (answers-refused _ _ _ _ c.check_tables.ensures (ap (filled _) c.in_err-check_tables.was)) in
    (ap reported_of (handed-on _ c.from_residual.ensures.1) ∙ g.0, g.1)

pub lay_out-layout-requires : goal.lay_out-layout-requires
lay_out-layout-requires c = (_, _, (_, _, (pair (goal.at.lay_out-layout-requires c).In_ok-check_tables).2.arranged))

pub measure_signals-works-requires : goal.measure_signals-works-requires
measure_signals-works-requires c =
    let k = pair (goal.at.measure_signals-works-requires c).In_ok-check_tables in
    (declared k.2.arranged, program-short _ _ k.0 k.1)

pub count_commands-requires : goal.count_commands-requires
count_commands-requires c =
    let g = (pair (goal.at.count_commands-requires c).In_ok-check_tables).2.arranged in
    (timed g, phased g, short-hypercycle g)

pub returns : goal.returns
returns c =
    let l = (goal.at.returns c).After-lay_out-layout in
    let k = pair (goal.at.After-lay_out-layout l).In_ok-check_tables in
    let w = c.measure_signals-works.ensures in
    report-done _ _ _ k.0 _ _ _ _ _ k.1 k.2.hyper (laid_out l).ends (laid_out l).tail-ends
    (highest-is k.2.arranged w) (counts-are k.2.arranged w c.count_commands.ensures)
