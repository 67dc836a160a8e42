-- `moves::has_room` meets its contract. Assumes nothing.
use Prim.Native.Nat.{ℕ, ◌+◌, ◌-◌, ◌<◌}
use mathlib.Core.Bool.{true, false, false≢true}
use mathlib.Core.List.{List}
use mathlib.Core.Path.{◌≡◌, refl, sym, ap, ◌∙◌}
use native.Mathlib.Decide.{dec_lt}
use native.Mathlib.Omega.{arith}
use borrow.Author.Rules.{rules}
use borrow.Author.Tests.{le-ltb, ltb-false}
use lib.ListN.{get_or}
use lib.Dec.{ltb}
use Rattle.model.specs.Rules.Reads.{Rate, due}
use Rattle.runs.proofs.Runs.{due-first, due-next, due-before, due-between}
use Rattle.moves.proofs.has_room.Given as goal

abbrev pub rate : ℕ → ℕ → Rate
rate period phase = record { period = period; phase = phase }

abbrev pub invariant-loop-next : goal.invariant-loop-next
invariant-loop-next l =
    (due (rate l.period l.phase) l.next ≡ true) ×
    ((c : ℕ) → c < l.next → due (rate l.period l.phase) c ≡ true → ltb l.limit (get_or l.loads c 0 + l.weight) ≡ false)

abbrev pub decreases-loop-next : goal.decreases-loop-next
decreases-loop-next l = l.h - l.next
