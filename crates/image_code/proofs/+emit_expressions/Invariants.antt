-- `image_code::emit_expressions` meets its contract: the measure is the depth that is still allowed. Assumes nothing.
use Prim.Native.Nat.{ℕ, ◌-◌}
use mathlib.Core.List.{List}
use mathlib.Core.Path.{◌≡◌}
use lib.ListN.{length}
use Rattle.image_code.specs.Code.{Rooms, EmitsAll}
use Rattle.image_code.proofs.+emit_expressions.Given as goal

-- What is left to write decides the whole.
abbrev pub invariant-loop-i : goal.invariant-loop-i
invariant-loop-i l =
    Rooms l.depth l.text.now l.done.next (length l.out.now) l.done.end (l.number - l.i) 0 × (l.out.ghost_name ≡ l.initial.out.ghost_name) ×
    ((m : List ℕ) (next end : ℕ) → EmitsAll l.text.now l.done.next (l.number - l.i) l.out.now l.done.end m next end →
    EmitsAll l.text.now l.at l.number l.initial.out.now l.to m next end)

abbrev pub decreases-emit_expressions : goal.decreases-emit_expressions
decreases-emit_expressions l = l.depth
