-- `width::expression` meets its contract: the single bytes by their arms, then the ranges and the gaps between them, from the
-- lowest on. Assumes nothing.
use native.Mathlib.Omega.{arith}
use borrow.Author.Tests.{ne_eqb}
use Rattle.width.proofs.Cases.{inside, under, over, less, more}
use Rattle.width.proofs.expression.Goals as goal

pub returns-in-33-to-34 : goal.returns-in-33-to-34
returns-in-33-to-34 c =
    let b = c.args.byte in
    let no = ne_eqb b 0x20 c.in-33-to-34.in_default-own.rest.0.0.0.1 in
    simp (no, inside b 0x21 0x22 (omega arith) (omega arith))

pub returns-in-35-to-37 : goal.returns-in-35-to-37
returns-in-35-to-37 c =
    let b = c.args.byte in
    simp (more b 0x20 (omega arith), over b 0x21 0x22 (omega arith) (omega arith), inside b 0x23 0x25 (omega arith) (omega arith))

pub returns-in-48-to-54 : goal.returns-in-48-to-54
returns-in-48-to-54 c =
    let b = c.args.byte in
    simp (
      more b 0x20 (omega arith),
      over b 0x21 0x22 (omega arith) (omega arith),
      over b 0x23 0x25 (omega arith) (omega arith),
      inside b 0x30 0x36 (omega arith) (omega arith),
    )

pub returns-in_default : goal.returns-in_default
returns-in_default c =
    let b = c.args.byte in
    simp (
      less b 0x20 (omega arith),
      under b 0x21 0x22 (omega arith),
      under b 0x23 0x25 (omega arith),
      under b 0x30 0x36 (omega arith),
      less b 0x38 (omega arith),
      less b 0x3A (omega arith),
      less b 0x3B (omega arith),
    )

pub returns-in_default-2 : goal.returns-in_default-2
returns-in_default-2 c =
    let b = c.args.byte in
    simp (
      more b 0x20 (omega arith),
      over b 0x21 0x22 (omega arith) (omega arith),
      over b 0x23 0x25 (omega arith) (omega arith),
      under b 0x30 0x36 (omega arith),
      less b 0x38 (omega arith),
      less b 0x3A (omega arith),
      less b 0x3B (omega arith),
    )

pub returns-in_default-3 : goal.returns-in_default-3
returns-in_default-3 c =
    let c5 = c in
    let c6 = c in
    let b = c6.args.byte in
    let no = c5.in_default.in_default-own.rest in
    simp (
      more b 0x20 (omega arith),
      over b 0x21 0x22 (omega arith) (omega arith),
      over b 0x23 0x25 (omega arith) (omega arith),
      over b 0x30 0x36 (omega arith) (omega arith),
      ne_eqb b 0x38 no.0.0.1,
      ne_eqb b 0x3A no.0.1,
      ne_eqb b 0x3B no.1,
    )

pub returns-in-32 : goal.returns-in-32
returns-in-32 c = rw c.in-32.is

pub returns-in-56 : goal.returns-in-56
returns-in-56 c = rw c.in-56.is

pub returns-in-58 : goal.returns-in-58
returns-in-58 c = rw c.in-58.is

pub returns-in-59 : goal.returns-in-59
returns-in-59 c = rw c.in-59.is
