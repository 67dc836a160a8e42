-- `check_load::first_over` meets its contract. Assumes nothing.
use Prim.Native.Nat.{◌-◌, ◌≤◌}
use mathlib.Core.Path.{◌≡◌, sym, ◌∙◌}
use native.Mathlib.Nat.{sub-zero}
use native.Mathlib.Omega.{arith}
use borrow.Author.Tests.{lt-ltb, le-ltb}
use lib.Dec.{ltb}
use lib.ListN.{get_or}
use Rattle.model.specs.Rules.Search.{first_below, first_from}
use Rattle.read_rule.proofs.Searches.{search-none, search-here, search-next}
use Rattle.check_load.proofs.first_over.Given as goal

abbrev pub invariant-loop-cycle : goal.invariant-loop-cycle
invariant-loop-cycle l =
    (l.hypercycle ≤ 240) ×
    (first_below l.hypercycle (λ c. ltb l.limit (get_or l.loads c 0)) ≡
    first_from l.cycle (l.hypercycle - l.cycle) (λ c. ltb l.limit (get_or l.loads c 0)))
