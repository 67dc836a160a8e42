-- `read_rule::settle` meets its contract. Assumes nothing.
use Prim.Native.Nat.{◌-◌, ◌≤◌}
use mathlib.Core.Path.{◌≡◌, refl, sym, ◌∙◌}
use native.Mathlib.Omega.{arith}
use Rattle.model.specs.Rules.Search.{first_from}
use Rattle.read_rule.specs.Lines.{SmallLine, meets_at}
use Rattle.read_rule.proofs.Searches.{search-none, search-here, search-next}
use Rattle.read_rule.proofs.settle.Given as goal

abbrev pub invariant-loop-i : goal.invariant-loop-i
invariant-loop-i l =
    SmallLine l.line × (l.to ≤ 256) × (first_from l.from (l.to - l.from) (meets_at l.line) ≡ first_from l.i (l.to - l.i) (meets_at l.line))

abbrev pub decreases-loop-i : goal.decreases-loop-i
decreases-loop-i l = l.to - l.i
