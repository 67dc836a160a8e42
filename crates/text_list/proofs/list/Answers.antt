-- `text_list::list` meets its contract. Assumes nothing.
use mathlib.Core.Path.{ap, ◌∙◌}
use Rattle.model.specs.Rules.Outcome.{yielded_of}
use Rattle.model.specs.Rules.TextForm.{listing, listing_of}
use Rattle.text_keyword.proofs.Answered.{answered-long}
use Rattle.text_list.proofs.list.Goals as goal

pub returns-then-bytes-gt16777216 : goal.returns-then-bytes-gt16777216
unfolding listing_of
returns-then-bytes-gt16777216 c =
    let s = c.args in
    let g = answered-long s.bytes.now (listing s.bytes.now) s.text.now c.if-bytes-gt16777216.true in
    (ap yielded_of c.refuse.ensures ∙ g.0, g.1)
