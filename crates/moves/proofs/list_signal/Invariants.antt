-- `moves::list_signal` meets its contract. Assumes nothing.
use Prim.Native.Nat.{ℕ, ◌+◌, ◌-◌, ◌≤◌, ◌<◌}
use mathlib.Core.Bool.{Bool, true}
use mathlib.Core.List.{List, ◌++◌}
use mathlib.Core.Logic.{◌↔◌}
use mathlib.Core.Path.{◌≡◌, refl, ◌∙◌}
use native.Mathlib.Omega.{arith}
use borrow.Author.Rules.{rules}
use lib.ListN.{length}
use Rattle.model.specs.Says.Feasible.{Between}
use Rattle.model.specs.Rules.Moves.{Entry}
use Rattle.moves.specs.Listing.{FitsAt, passing, Written}
use Rattle.moves.proofs.Entries.{below, wrote_none, wrote-all, wrote-next, one-most, one-length}
use Rattle.moves.proofs.list_signal.Given as goal

-- The phases below k are listed.
abbrev pub Upto : (ℕ → Type 0) → (x n low high k : ℕ) → (list list' : List ℕ) → (count count' : ℕ) → Type 0
Upto Q x n low high k list list' count count' =
    (es : List Entry) (first : List ℕ) (g : ℕ → Bool) → Written es first list count →
    ((f : ℕ) → f < n → (g f ≡ true) ↔ (Between low f high × Q f)) →
    Written (es ++ passing x n (below g k)) first list' count'

abbrev pub invariant-loop-phase : goal.invariant-loop-phase
invariant-loop-phase l =
    (l.low ≤ l.phase) × (l.phase - l.low ≤ 256) × (l.entries ≤ l.count + (l.phase - l.low)) ×
    (length l.list ≡ length l.initial.list) ×
    Upto (FitsAt l.loads l.cap l.period l.weight l.present l.h) l.x l.period l.low l.high l.phase
    l.initial.list l.list l.count l.entries
