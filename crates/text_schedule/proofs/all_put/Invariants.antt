-- `text_schedule::all_put` meets its contract. Assumes nothing.
use Rattle.text_schedule.specs.Slots.{all_ranked}
use Prim.Native.Nat.{ℕ, ◌+◌, ◌-◌, ◌≤◌, ◌<◌}
use mathlib.Core.Path.{◌≡◌, sym, subst}
use mathlib.Core.Bool.{true, not}
use native.Mathlib.Omega.{arith}
use native.Mathlib.Decide.{dec_lt}
use lib.Dec.{eqb}
use lib.ListN.{get_or}
use borrow.Author.Tests.{eq-eqb, ne_eqb}
use Rattle.model.proofs.Pairs.Decide.{true-all, all-fails}
use Rattle.text_schedule.proofs.all_put.Given as goal

abbrev pub invariant-loop-x : goal.invariant-loop-x
invariant-loop-x l =
    (l.x ≤ l.signals) × (l.signals ≤ 64) × ((y : ℕ) → y < l.x → not (eqb (get_or l.ranks y 0) 64) ≡ true)
