-- `text_program::Tables::add` meets its contract. Assumes nothing.
use Rattle.text_program.specs.Tables.{EntryFits}
use Rattle.text_program.proofs.Tables.add.Goals as goal

pub add_signal-requires : goal.add_signal-requires
unfolding EntryFits
add_signal-requires c =
    let fits = rw c.in-Signal.is at c.requires.1 in
    (fits.0, c.requires.0, fits.1, fits.2)

pub add_chain-requires : goal.add_chain-requires
unfolding EntryFits
add_chain-requires c = (rw c.in-Chain.is at c.requires.1, c.requires.0)

pub add_row-requires : goal.add_row-requires
unfolding EntryFits
add_row-requires c = (rw c.in-Row.is at c.requires.1, c.requires.0)
