-- `width::script` meets its contract. Assumes nothing.
use borrow.Author.Tests.{ne_eqb}
use Rattle.width.proofs.script.Goals as goal

pub returns-in_default : goal.returns-in_default
returns-in_default c =
    let b = c.args.byte in
    let r = c.in_default.in_default-own.rest in
    simp (ne_eqb b 0x00 r.0.0.1, ne_eqb b 0x70 r.0.1, ne_eqb b 0x71 r.1)

pub returns-in-0 : goal.returns-in-0
returns-in-0 c = rw c.in-0.is

pub returns-in-112 : goal.returns-in-112
returns-in-112 c = rw c.in-112.is

pub returns-in-113 : goal.returns-in-113
returns-in-113 c = rw c.in-113.is
