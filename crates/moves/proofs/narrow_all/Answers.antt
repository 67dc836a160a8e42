-- `moves::narrow_all` meets its contract. Assumes nothing.
use Rattle.moves.proofs.Tables.{counted, reading, timed, times, narrowed-by}
use Rattle.moves.proofs.narrow_all.Goals as goal

pub narrow_by_reads-requires : goal.narrow_by_reads-requires
narrow_by_reads-requires c =
    let a = c.requires.1 in (
      c.requires.0,
      (record { program = a.pair.program; schedule = a.pair.schedule; reading = reading a.known }, counted a.known),
    )

pub narrow_by_chains-requires : goal.narrow_by_chains-requires
narrow_by_chains-requires c =
    let a = c.requires.1 in (
      c.narrow_by_reads.ensures.0,
      (a.pair.program, a.pair.schedule, timed a.known, times a.known),
    )

pub returns : goal.returns
returns c schedule q k =
    narrowed-by k (c.narrow_by_reads.ensures.1 q.program q.schedule (reading k) (counted k))
    (c.narrow_by_chains.ensures.1 q.program q.schedule (timed k) (times k))
