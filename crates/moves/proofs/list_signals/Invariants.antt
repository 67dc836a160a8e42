-- `moves::list_signals` meets its contract. Assumes nothing.
use Prim.Native.Nat.{ℕ, ◌*◌, ◌-◌, ◌≤◌, ◌<◌}
use mathlib.Core.Bool.{Bool}
use mathlib.Core.Path.{◌≡◌, refl, ap, ◌∙◌}
use native.Mathlib.Omega.{arith}
use borrow.Author.Rules.{rules}
use lib.ListN.{length, get_or}
use Rattle.model.specs.Rules.Search.{join_below}
use Rattle.moves.specs.Listing.{TellsMoves, passing, Written}
use Rattle.moves.proofs.Entries.{wrote-start, wrote_as, join_more}
use Rattle.moves.proofs.list_signals.Given as goal

abbrev pub invariant-loop-x : goal.invariant-loop-x
invariant-loop-x l =
    (l.x ≤ l.signals) × (l.entries ≤ l.x * 256) × (length l.list ≡ length l.initial.list) ×
    ((g : ℕ → ℕ → Bool) → TellsMoves g l.signals l.lows l.highs l.loads l.cap l.periods l.weights l.phases l.h →
    Written (join_below l.x (λ y. passing y (get_or l.periods y 0) (g y))) l.initial.list l.list l.entries)
