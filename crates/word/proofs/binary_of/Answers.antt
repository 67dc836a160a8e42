-- `word::binary_of` meets its contract. Assumes nothing.
use borrow.Author.Tests.{ne_eqb}
use Rattle.word.specs.OfByte.{binary_of}
use Rattle.word.proofs.binary_of.Goals as goal

pub returns-in-48 : goal.returns-in-48
unfolding binary_of
returns-in-48 c = rw c.in-48.is

pub returns-in-49 : goal.returns-in-49
unfolding binary_of
returns-in-49 c = rw c.in-49.is

pub returns-in-50 : goal.returns-in-50
unfolding binary_of
returns-in-50 c = rw c.in-50.is

pub returns-in-51 : goal.returns-in-51
unfolding binary_of
returns-in-51 c = rw c.in-51.is

pub returns-in-52 : goal.returns-in-52
unfolding binary_of
returns-in-52 c = rw c.in-52.is

pub returns-in-53 : goal.returns-in-53
unfolding binary_of
returns-in-53 c = rw c.in-53.is

pub returns-in_default : goal.returns-in_default
unfolding binary_of
returns-in_default c =
    let b = c.args.byte in
    let no = c.in_default.in_default-own.rest in
    rw (
      ne_eqb b 0x30 no.0.0.0.0.0.1,
      ne_eqb b 0x31 no.0.0.0.0.1,
      ne_eqb b 0x32 no.0.0.0.1,
      ne_eqb b 0x33 no.0.0.1,
      ne_eqb b 0x34 no.0.1,
      ne_eqb b 0x35 no.1,
    )
