-- `check_reads::check_reads` meets its contract. Assumes nothing.
use Rattle.text_schedule.proofs.Arranged.{phases-below}
use Rattle.text_program.proofs.ByIndex.{few-signals, indexes}
use Rattle.check_reads.proofs.check_reads.Goals as goal

pub reads_met-requires : goal.reads_met-requires
reads_met-requires c =
    let c5 = c in
    let c10 = c in
    let g = c10.requires.2 in
    let k = g.stands in
    (few-signals _ _ _ k.declares k.tables-are, phases-below g, (c10.requires.0, indexes k))

pub returns : goal.returns
returns c p s g = c.reads_met.ensures p (indexes g.stands) s _ g.rated g.stands.tables-are.periods g.slots-are
