-- `text_convert::convert` meets its contract. Assumes nothing.
use mathlib.Core.Path.{ap, ◌∙◌}
use Rattle.model.specs.Rules.Outcome.{yielded_of}
use Rattle.text_convert.proofs.Walk.{convert-long}
use Rattle.text_convert.proofs.convert.Goals as goal

pub returns-then-program-gt8192 : goal.returns-then-program-gt8192
returns-then-program-gt8192 c = let g = convert-long _ _ c.if-program-gt8192.true in
    (ap yielded_of c.refuse.ensures ∙ g.0, g.1)
