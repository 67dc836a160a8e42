-- `machine::judge_cycle` meets its contract. Assumes nothing.
use mathlib.Core.Path.{sym, ◌∙◌}
use native.Mathlib.Omega.{arith}
use borrow.Author.Tests.{lt-ltb, lt-leb}
use lib.ListN.{length}
use Rattle.model.specs.Rules.Machine.{count_of}
use Rattle.image_valid.proofs.Parts.{head, formed}
use Rattle.machine.proofs.Machine.{cycle-position, cycle-samples}
use Rattle.machine.proofs.judge_cycle.Goals as goal

pub returns-then-not-is_positioned-clause-err : goal.returns-then-not-is_positioned-clause-err
returns-then-not-is_positioned-clause-err c =
    let r = c.in_ok-image.ensures.ok in
    rw c.refuse.ensures
    (cycle-position r.lends _ _ r.formed (lt-ltb _ _ r.long) (sym c.is_positioned.ensures ∙ c.if-not-is_positioned.true))

pub bounds-image-1 : goal.bounds-image-1
bounds-image-1 c = omega (arith, (head _ (formed _ c.in_ok-image.ensures.ok.formed).good).four)

pub returns-then-samples-from_byte-clause-err : goal.returns-then-samples-from_byte-clause-err
returns-then-samples-from_byte-clause-err c =
    let r = c.in_ok-image.ensures.ok in
    let image = c.in_ok-image.image.now in
    let stands = sym c.is_positioned.ensures ∙ c.if-not-is_positioned.false in
    rw c.refuse-then-samples-from_byte.ensures
    (cycle-samples r.lends _ _ r.formed (lt-ltb _ _ r.long) stands
    (lt-leb (count_of image) (length c.args.samples.now) (omega (arith, c.from_byte.ensures.0, c.if-samples-from_byte.true))))
