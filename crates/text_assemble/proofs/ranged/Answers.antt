-- `text_assemble::ranged` meets its contract. Assumes nothing.
use mathlib.Core.Path.{ap, ◌∙◌}
use Rattle.model.specs.Rules.Outcome.{yielded_of}
use Rattle.text_assemble.proofs.Values.{ranged-low, ranged-high, ranged-in, ranged-none}
use Rattle.text_assemble.proofs.ranged.Goals as goal

pub returns-then-n-low : goal.returns-then-n-low
returns-then-n-low c =
    let a = c.args in
    rw c.in-Some.is (ap yielded_of c.refuse-then-n-low.ensures ∙ ranged-low a.place a.low a.limit _ c.if-n-low.true)

pub returns-then-limit-n : goal.returns-then-limit-n
returns-then-limit-n c =
    let a = c.args in
    rw c.in-Some.is (ap yielded_of c.refuse-then-limit-n.ensures ∙ ranged-high a.place a.low a.limit _ c.if-limit-n.true)

pub returns : goal.returns
returns c =
    let a = c.args in
    rw c.in-Some.is (ranged-in a.place a.low a.limit _ c.if-n-low.false c.if-limit-n.false)

pub returns-in_default : goal.returns-in_default
returns-in_default c =
    let a = c.args in
    rw c.in_default.is (ap yielded_of c.refuse.ensures ∙ ranged-none a.place a.low a.limit)
