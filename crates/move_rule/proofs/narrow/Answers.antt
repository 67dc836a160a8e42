-- `move_rule::narrow` meets its contract. Assumes nothing.
use borrow.Author.Rules.{rules}
use Rattle.move_rule.proofs.Narrowings.{narrowed-set}
use Rattle.move_rule.proofs.narrow.Goals as goal

pub returns : goal.returns
returns c =
    let a = c in
    narrowed-set _ _ a.args.x _ _ a.args.phases a.requires.0 a.requires.1 c.greater.ensures
    c.lesser.ensures
