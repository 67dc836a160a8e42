-- `join_gather::gather` meets its contract. Assumes nothing.
use mathlib.Core.List.{List, []}
use mathlib.Core.Path.{◌≡◌}
use Rattle.model.specs.Rules.Join.{lent}
use Rattle.model.specs.Rules.Outcome.{accepted}
use Rattle.model.specs.Rules.Parts.{Part}
use Rattle.join_gather.specs.Rates.{RatesBy}
use Rattle.join_gather.specs.Rows.{TableOf}
use Rattle.join_gather.proofs.Gathers.{Gathering}
use Rattle.join_gather.proofs.gather.Given as goal

abbrev pub invariant-loop-k : goal.invariant-loop-k
invariant-loop-k l =
    (lent l.texts l.numbers ≡ accepted tt) × (done : List Part) × Gathering l.texts l.numbers done l.k-counter l.joint ×
    (RatesBy [] l.initial.periods l.initial.inputs → RatesBy done l.periods l.inputs) × TableOf done l.table
