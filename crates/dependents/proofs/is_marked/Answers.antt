-- `dependents::is_marked` meets its contract. Assumes nothing.
use mathlib.Core.Bool.{◌||◌}
use mathlib.Core.Path.{sym, ap}
use lib.Dec.{eqb}
use lib.ListN.{get_or}
use borrow.Author.Rules.{rules}
use borrow.Author.Tests.{eq-eqb, ne_eqb}
use Rattle.dependents.proofs.is_marked.Goals as goal

pub returns-then-signal-input : goal.returns-then-signal-input
returns-then-signal-input c =
    let a = c.args in
    sym (ap (λ b. b || eqb (get_or a.marks.now a.signal 0) 1) (eq-eqb a.signal a.input c.if-signal-input.true))

pub returns : goal.returns
returns c =
    let a = c.args in
    sym (ap (λ b. b || eqb (get_or a.marks.now a.signal 0) 1) (ne_eqb a.signal a.input c.if-signal-input.false))
