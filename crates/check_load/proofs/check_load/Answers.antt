-- `check_load::check_load` meets its contract. Assumes nothing.
use Rattle.text_schedule.proofs.Arranged.{short-hypercycle, phases-below}
use Rattle.text_program.proofs.ByIndex.{few-signals}
use Rattle.check_load.proofs.check_load.Goals as goal

pub judge_load-requires : goal.judge_load-requires
judge_load-requires c =
    let c8 = c in
    let g = c8.requires.2.2 in
    (few-signals _ _ _ g.stands.declares g.stands.tables-are, short-hypercycle g, phases-below g)

pub returns : goal.returns
returns c text reads p s g =
    let t = g.stands.tables-are in
    c.judge_load.ensures p s t.counts.signals-are t.periods t.weights g.slots-are.phases-are t.cap
