-- `text_program::read_expressions` meets its contract: the measure is the depth that is still allowed. Assumes nothing.
use Rattle.std.specs.Prelude.{Result}
use Prim.Native.Nat.{ℕ, ◌-◌}
use mathlib.Core.List.{List}
use mathlib.Core.Path.{◌≡◌}
use lib.ListN.{length}
use Rattle.model.specs.Rules.Program.{parse_expr}
use Rattle.text_program.specs.Walks.{outlines, WalkRoom, Walks}
use Rattle.text_program.specs.declared.Walk.{Walk}
use Rattle.model.specs.declared.Fault.{Fault}
use Rattle.text_program.proofs.+read_expressions.Given as goal

-- What is left to read decides the answer.
abbrev pub invariant-loop : goal.invariant-loop
invariant-loop l =
    WalkRoom (length l.text.now) l.walk.at l.walk.reads l.walk.code l.walk.lookups (length l.reads) ×
    (length l.reads ≡ length l.initial.reads) ×
    ((l' : List ℕ) (r : Result Walk Fault) →
    Walks (outlines (parse_expr l.least l.depth l.text.now) (l.number - l.counter) l.walk.at) l.reads l.walk.reads l.walk.code
    l.walk.lookups l' r →
    Walks (outlines (parse_expr l.least l.depth l.text.now) l.number l.at) l.initial.reads l.count l.to l.looks l' r)

abbrev pub decreases-read_expressions : goal.decreases-read_expressions
decreases-read_expressions l = l.depth
