-- `text_command::standing_read` meets its contract. Assumes nothing.
use mathlib.Core.Path.{sym, ap, ◌∙◌}
use borrow.Author.Rules.{rules}
use Rattle.model.specs.declared.Operator.TheVariants as Operator
use Rattle.text_command.specs.declared.Taken.{Taken}
use Rattle.text_command.proofs.standing_read.Goals as goal

pub returns : goal.returns
returns c =
    let s = c.requires in
    ap (λ (x : Taken). Operator.Read x.kind x.operands) (c.taken_at-taken.ensures.is s.kind s.operands s.is) ∙
    sym s.is
