-- `text_assemble::assemble` meets its contract. Assumes nothing.
use mathlib.Core.Path.{ap, ◌∙◌}
use Rattle.model.specs.Rules.Outcome.{yielded_of}
use Rattle.model.specs.Rules.TextForm.{assembly, assemble_of}
use Rattle.text_keyword.proofs.Answered.{answered-long}
use Rattle.text_assemble.proofs.assemble.Goals as goal

pub returns-then-text-gt16777216 : goal.returns-then-text-gt16777216
unfolding assemble_of
returns-then-text-gt16777216 c =
    let s = c.args in
    let g = answered-long s.text.now (assembly s.text.now) s.bytes.now c.if-text-gt16777216.true in
    (ap yielded_of c.refuse.ensures ∙ g.0, g.1)
