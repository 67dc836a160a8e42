-- `text_command::kind_of` meets its contract. Assumes nothing.
use borrow.Author.Tests.{ne_eqb}
use Rattle.text_command.specs.Operator.{kind_of}
use Rattle.text_command.proofs.kind_of.Goals as goal

pub returns-in-33 : goal.returns-in-33
unfolding kind_of
returns-in-33 c = rw c.in-33.is

pub returns-in-34 : goal.returns-in-34
unfolding kind_of
returns-in-34 c = rw c.in-34.is

pub returns-in-35 : goal.returns-in-35
unfolding kind_of
returns-in-35 c = rw c.in-35.is

pub returns-in-36 : goal.returns-in-36
unfolding kind_of
returns-in-36 c = rw c.in-36.is

pub returns-in_default : goal.returns-in_default
unfolding kind_of
returns-in_default c =
    let b = c.args.byte in
    let no = c.in_default.in_default-own.rest in
    rw (ne_eqb b 33 no.0.0.0.1, ne_eqb b 34 no.0.0.1, ne_eqb b 35 no.0.1, ne_eqb b 36 no.1)
