-- `image_valid::read_tail` meets its contract. Assumes nothing.
use mathlib.Core.Path.{◌≡◌, sym, ap, ◌∙◌}
use mathlib.Core.Bool.{true}
use Prim.Native.Nat.{◌-◌}
use native.Mathlib.Omega.{arith}
use lib.ListN.{length, drop, length-drop}
use lib.Seq.{take_all}
use Rattle.model.specs.Rules.Machine.{well_formed}
use Rattle.model.specs.Rules.Outcome.{accepted}
use Rattle.image_valid.proofs.LentTail.{refused-is, inside, rest_from}
use Rattle.image_valid.proofs.read_tail.Goals as goal
use Rattle.image_valid.proofs.read_tail.Goals.{Else-not-well_formed}

well : (e : Else-not-well_formed) → well_formed e.image_in-image.result.now ≡ true
well e = sym e.well_formed-2.ensures ∙ e.if-not-well_formed.false

pub returns-then-not-well_formed : goal.returns-then-not-well_formed
returns-then-not-well_formed c =
    rw c.refuse.ensures (sym (refused-is c.image_in-image.ensures (sym c.well_formed-2.ensures ∙ c.if-not-well_formed.true)))

pub returns : goal.returns
returns c =
    let lent = c.args.lent.now in
    let start = length c.image_in-image.result.now in
    ap accepted (take_all (length lent - start) (drop start lent) (omega (arith, length-drop start lent)))
    ∙ sym (rest_from c.image_in-image.ensures (well (goal.at.returns c).Else-not-well_formed))

pub slice_bounds-result-count : goal.slice_bounds-result-count
slice_bounds-result-count c =
    inside c.image_in-image.ensures (well (goal.at.slice_bounds-result-count c).Else-not-well_formed)

pub slice_bounds-result-start : goal.slice_bounds-result-start
slice_bounds-result-start c =
    inside c.image_in-image.ensures (well (goal.at.slice_bounds-result-start c).Else-not-well_formed)
