-- `trial_script::ending_at` meets its contract. Assumes nothing.
use mathlib.Core.Path.{ap}
use Rattle.trial_script.specs.Script.{ruled_of, ending_at}
use Rattle.model.specs.Rules.Outcome.{provided}
use borrow.Author.Tests.{le-leb, lt-leb}
use lib.ListN.{length}
use Prim.Native.Nat.{◌+◌}
use native.Mathlib.Omega.{arith}
use Rattle.trial_script.proofs.ending_at.Goals as goal

pub returns-then-next-text : goal.returns-then-next-text
unfolding ending_at provided
returns-then-next-text c =
    let a = c.args in
    rw (c.in-End.is, lt-leb (length a.text.now) (a.at + 1) (omega arith))
    (ap ruled_of (rw c.in_script.ensures at c.refuse-then-next-text.ensures))

pub returns-else-next-text : goal.returns-else-next-text
unfolding ending_at provided
returns-else-next-text c =
    let a = c.args in
    rw (c.in-End.is, le-leb (length a.text.now) (a.at + 1) (omega arith))
