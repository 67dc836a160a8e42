-- `join_links::judge_links` meets its contract. Assumes nothing.
use Prim.Native.Nat.{ℕ, ◌-◌}
use mathlib.Core.Bool.{Bool, not}
use mathlib.Core.List.{List}
use mathlib.Core.Path.{◌≡◌}
use Rattle.model.specs.Rules.Join.{links_in, is_right}
use Rattle.model.specs.Rules.Parts.{Part}
use Rattle.model.specs.Rules.Search.{first_from, first_below}
use Rattle.join_links.specs.ByPart.{PeriodsBy, FreeInputs}
use Rattle.join_links.proofs.judge_links.Given as goal

abbrev pub bad : List Part → List ℕ → ℕ → Bool
bad parts links i = not (is_right parts links i)

-- The first i links are right, and their INs are marked.
pub record Passed (parts : List Part) (links : List ℕ) (i : ℕ) (inputs : List Bool) : Type 0 where
  pub free : FreeInputs parts links i inputs
  pub first : first_below (links_in links) (bad parts links) ≡ first_from i (links_in links - i) (bad parts links)

abbrev pub invariant-loop-i : goal.invariant-loop-i
invariant-loop-i l =
    (parts : List Part) → PeriodsBy parts l.periods → FreeInputs parts l.links 0 l.initial.inputs →
    Passed parts l.links l.i l.inputs
