-- `image_valid::tail_length` meets its contract. Assumes nothing.
use mathlib.Core.Path.{ap}
use Rattle.std.proofs.lemmas.Result.{err_from_is_err_and}
use Rattle.model.specs.Rules.Tail.{length_of_tail}
use Rattle.image_valid.proofs.tail_length.Goals as goal

pub returns-in_err-tail : goal.returns-in_err-tail
returns-in_err-tail c =
    let p = err_from_is_err_and c.from_residual.result c.from_residual.ensures.1 in
    rw (p.1, p.2) (ap length_of_tail c.in_err-tail.ensures)

pub returns : goal.returns
returns c = ap length_of_tail c.in_ok-tail.ensures
