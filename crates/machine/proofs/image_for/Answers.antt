-- `machine::image_for` meets its contract. Assumes nothing.
use mathlib.Core.Path.{◌≡◌, sym, ◌∙◌}
use mathlib.Core.Bool.{true}
use native.Mathlib.Omega.{arith}
use borrow.Author.Tests.{le-ltb}
use lib.ListN.{length}
use Rattle.model.specs.Rules.Machine.{count_of, well_formed}
use Rattle.image_valid.proofs.Parts.{head, formed}
use Rattle.machine.proofs.Machine.{reset-image, reset-state, cycle-image, cycle-state}
use Rattle.machine.proofs.image_for.Goals as goal
use Rattle.machine.proofs.image_for.Goals.{Else-not-well_formed}

well : (e : Else-not-well_formed) → well_formed e.image_in-image.result.now ≡ true
well e = sym e.well_formed-2.ensures ∙ e.if-not-well_formed.false

pub returns-then-not-well_formed-clause-err : goal.returns-then-not-well_formed-clause-err
returns-then-not-well_formed-clause-err c =
    let l = c.image_in-image.ensures in
    let ill = sym c.well_formed-2.ensures ∙ c.if-not-well_formed.true in
    rw c.refuse.ensures (record { resets = reset-image l _ ill; cycles = λ samples. cycle-image l _ samples ill })

pub bounds-image-1 : goal.bounds-image-1
bounds-image-1 c = omega (arith, (head _ (formed _ (well (goal.at.bounds-image-1 c).Else-not-well_formed)).good).four)

pub returns-then-state-from_byte-clause-err : goal.returns-then-state-from_byte-clause-err
returns-then-state-from_byte-clause-err c =
    let l = c.image_in-image.ensures in
    let image = c.image_in-image.result.now in
    let w = well (goal.at.returns-then-state-from_byte-clause-err c).Else-not-well_formed in
    let short = le-ltb (count_of image) (length c.args.state.now) (omega (arith, c.from_byte.ensures.0, c.if-state-from_byte.true)) in
    rw c.refuse-then-state-from_byte.ensures
    (record { resets = reset-state l _ w short; cycles = λ samples. cycle-state l _ samples w short })
