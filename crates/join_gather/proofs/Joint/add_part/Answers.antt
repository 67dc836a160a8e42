-- `join_gather::Joint::add_part` meets its contract. Assumes nothing.
use Rattle.join_gather.proofs.Tabled.{joint-next}
use Rattle.join_gather.proofs.Joint.add_part.Goals as goal

pub with_signals-requires : goal.with_signals-requires
with_signals-requires c = let p = c.requires in (p.0, p.2, p.4)

pub returns : goal.returns
returns c =
    λ parts a size more old part ordered within fits.
    joint-next parts a size more c.args.self.now c.with_signals.new.self c.args.pair.now old part ordered within fits
    c.with_signals.ensures c.requires.1 c.smaller_limit-cap.result c.smaller_limit-cap.ensures
