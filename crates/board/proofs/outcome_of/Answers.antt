-- `board::outcome_of` meets its contract. Assumes nothing.
use mathlib.Core.Path.{sym, ap}
use Rattle.model.specs.Rules.Machine.{cycled_of}
use Rattle.board.specs.Record.{run_outcome}
use Rattle.board.proofs.outcome_of.Goals as goal

pub returns-in-Ok : goal.returns-in-Ok
returns-in-Ok c =
    ap (λ x. run_outcome c.args.place (cycled_of x)) (sym c.in-Ok.is)

pub returns-in-Err : goal.returns-in-Err
returns-in-Err c =
    ap (λ x. run_outcome c.args.place (cycled_of x)) (sym c.in-Err.is)
