-- `text_command::if_or_table` meets its contract. Assumes nothing.
use borrow.Author.Tests.{ne_eqb}
use Rattle.text_command.specs.Operator.{if_or_table}
use Rattle.text_command.proofs.if_or_table.Goals as goal

pub returns-in-58 : goal.returns-in-58
unfolding if_or_table
returns-in-58 c = rw c.in-58.is

pub returns-in_default : goal.returns-in_default
unfolding if_or_table
returns-in_default c = rw (ne_eqb c.args.byte 0x3A c.in_default.in_default-own.rest.1)
