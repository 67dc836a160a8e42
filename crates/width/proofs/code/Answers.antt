-- `width::code` meets its contract: the single bytes by their arms, then the ranges and the gaps between them, from the lowest
-- on. Assumes nothing.
use native.Mathlib.Omega.{arith}
use borrow.Author.Tests.{ne_eqb}
use Rattle.width.proofs.Cases.{inside, under, over, less, more}
use Rattle.width.proofs.code.Goals as goal

pub returns-in-48-to-54 : goal.returns-in-48-to-54
returns-in-48-to-54 c = simp (inside c.args.byte 0x30 0x36 (omega arith) (omega arith))

pub returns-in-81-to-82 : goal.returns-in-81-to-82
returns-in-81-to-82 c =
    let b = c.args.byte in
    simp (
      over b 0x30 0x36 (omega arith) (omega arith),
      more b 0x38 (omega arith),
      more b 0x3A (omega arith),
      more b 0x3B (omega arith),
      more b 0x50 (omega arith),
      inside b 0x51 0x52 (omega arith) (omega arith),
    )

pub returns-in_default : goal.returns-in_default
returns-in_default c =
    let b = c.args.byte in
    simp (
      under b 0x30 0x36 (omega arith),
      less b 0x38 (omega arith),
      less b 0x3A (omega arith),
      less b 0x3B (omega arith),
      less b 0x50 (omega arith),
      under b 0x51 0x52 (omega arith),
      less b 0x5F (omega arith),
    )

pub returns-in_default-2 : goal.returns-in_default-2
returns-in_default-2 c =
    let b = c.args.byte in
    let no = c.in_default.in_default-own.rest in
    simp (
      over b 0x30 0x36 (omega arith) (omega arith),
      ne_eqb b 0x38 no.0.0.0.0.1,
      ne_eqb b 0x3A no.0.0.0.1,
      ne_eqb b 0x3B no.0.0.1,
      ne_eqb b 0x50 no.0.1,
      under b 0x51 0x52 (omega arith),
      less b 0x5F (omega arith),
    )

pub returns-in_default-3 : goal.returns-in_default-3
returns-in_default-3 c =
    let c4 = c in
    let c5 = c in
    let b = c5.args.byte in
    simp (
      over b 0x30 0x36 (omega arith) (omega arith),
      more b 0x38 (omega arith),
      more b 0x3A (omega arith),
      more b 0x3B (omega arith),
      more b 0x50 (omega arith),
      over b 0x51 0x52 (omega arith) (omega arith),
      ne_eqb b 0x5F c4.in_default.in_default-own.rest.1,
    )

pub returns-in-56 : goal.returns-in-56
returns-in-56 c = rw c.in-56.is

pub returns-in-58 : goal.returns-in-58
returns-in-58 c = rw c.in-58.is

pub returns-in-59 : goal.returns-in-59
returns-in-59 c = rw c.in-59.is

pub returns-in-80 : goal.returns-in-80
returns-in-80 c = rw c.in-80.is

pub returns-in-95 : goal.returns-in-95
returns-in-95 c = rw c.in-95.is
