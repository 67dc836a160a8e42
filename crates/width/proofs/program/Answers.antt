-- `width::program` meets its contract. Assumes nothing.
use borrow.Author.Tests.{ne_eqb}
use Rattle.width.proofs.program.Goals as goal

pub returns-in_default : goal.returns-in_default
returns-in_default c =
    let b = c.args.byte in
    let no = c.in_default.in_default-own.rest in
    simp (
      ne_eqb b 0x00 no.0.0.0.0.0.0.0.1,
      ne_eqb b 0x10 no.0.0.0.0.0.0.1,
      ne_eqb b 0x11 no.0.0.0.0.0.1,
      ne_eqb b 0x12 no.0.0.0.0.1,
      ne_eqb b 0x13 no.0.0.0.1,
      ne_eqb b 0x14 no.0.0.1,
      ne_eqb b 0x15 no.0.1,
      ne_eqb b 0x16 no.1,
    )

pub returns-in-0 : goal.returns-in-0
returns-in-0 c = rw c.in-0.is

pub returns-in-16 : goal.returns-in-16
returns-in-16 c = rw c.in-16.is

pub returns-in-17 : goal.returns-in-17
returns-in-17 c = rw c.in-17.is

pub returns-in-18 : goal.returns-in-18
returns-in-18 c = rw c.in-18.is

pub returns-in-19 : goal.returns-in-19
returns-in-19 c = rw c.in-19.is

pub returns-in-20 : goal.returns-in-20
returns-in-20 c = rw c.in-20.is

pub returns-in-21 : goal.returns-in-21
returns-in-21 c = rw c.in-21.is

pub returns-in-22 : goal.returns-in-22
returns-in-22 c = rw c.in-22.is
