-- `join_check::links_met` meets its contract. Assumes nothing.
use Prim.Native.Nat.{ℕ}
use mathlib.Core.Bool.{cond}
use mathlib.Core.List.{List, [], ◌∷◌}
use Rattle.model.specs.Rules.Join.{links_of, links_met}
use Rattle.model.specs.Rules.Outcome.{fault}
use Rattle.model.specs.Rules.Parts.{Part, PartLink, wire_of, wire_read, joined_pair}
use Rattle.model.specs.Rules.Reads.{is_met}
use Rattle.model.specs.declared.Fault.{Fault}
use Rattle.text_program.proofs.InTurn.{Left}
use Rattle.join_check.specs.Met.{JointLinking}
use Rattle.join_check.proofs.links_met.Given as goal

-- The fault of a link, where there is one.
abbrev pub link_fault : List Part → List PartLink → PartLink → List Fault
link_fault parts ls l =
    let q = joined_pair parts ls in
    cond (is_met q.program q.schedule (wire_of parts l).input (wire_read (wire_of parts l))) []
    (fault 14 l.place ∷ [])

-- What is left of the links from link i on.
abbrev pub Rest : List Part → List ℕ → ℕ → Type 0
Rest parts links i =
    Left (λ (l : PartLink). l.place ∷ []) (λ j l. link_fault parts (links_of links) l) (links_met parts (links_of links))
    (links_of links) i

abbrev pub invariant-loop-i : goal.invariant-loop-i
invariant-loop-i l = (parts : List Part) → JointLinking parts l.links l.joint → Rest parts l.links l.i
