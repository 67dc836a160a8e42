-- `read_rule::find_index` meets its contract. Assumes nothing.
use mathlib.Core.Path.{◌∙◌}
use borrow.Author.Rules.{rules}
use Rattle.read_rule.specs.Reads.{index_found}
use Rattle.read_rule.proofs.Lines.{found-is}
use Rattle.read_rule.proofs.find_index.Goals as goal

pub returns : goal.returns
unfolding index_found
returns c =
    let l = c in
    let a = l.args in
    c.settle.ensures ∙ c.candidates_of-among.ensures.finds ∙
    rw l.line_of-line.ensures.is
    (found-is a.w a.r l.line_of-line.ensures.read_byte l.line_of-line.ensures.reader-byte a.kind a.sampled.factor
    a.sampled.index)
