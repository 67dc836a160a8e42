-- What a call of dependents marks, and when it is refused (request m), in the paper's words.
use Rattle.std.specs.Prelude.{ℕ, ◌<◌, List, ◌≡◌, length, get_or}
use Rattle.model.specs.Rules.Compile.{Pair}
use Rattle.model.specs.Rules.Outcome.{fault}
use Rattle.model.specs.Rules.Program.{Program, count}
use Rattle.model.specs.declared.Fault.{Fault}
use Rattle.theorems_pairs.specs.Conditions.{LegalPair}
use Rattle.theorems_pairs.specs.Refusals.{RefusedAt}
use Rattle.theorems_streams.specs.Dependence.{DependsOn}
use Rattle.theorems_streams.specs.Held.{InputOf}

-- Signal y is one of the program's, and reads i, by itself or through other signals.
abbrev pub Reached : Program → ℕ → ℕ → Type 0
Reached p i y = (y < count p) × DependsOn p y i

module _ (program schedule : List ℕ) (i : ℕ) where
  -- The call is done: the pair is legal and i an input of it; of 64 marks those are 1 that i reaches, and every other is 0.
  pub record MarksDependents (n : ℕ) (left : List ℕ) : Type 0 where
    pub pair : Pair
    pub legal : LegalPair program schedule pair
    pub input : InputOf pair.program i
    pub is : n ≡ 0
    pub long : length left ≡ 64
    pub marked : (y : ℕ) → Reached pair.program i y → get_or left y 0 ≡ 1
    pub unmarked : (y : ℕ) → ¬ Reached pair.program i y → get_or left y 0 ≡ 0

  -- It is refused: as the pair is, or i is no input of a legal pair.
  pub data DependentsRefusedAt : Fault → Type 0 where
    pair : {f : Fault} → RefusedAt program schedule f → DependentsRefusedAt f
    no_input : {q : Pair} → LegalPair program schedule q → ¬ InputOf q.program i → DependentsRefusedAt (fault 48 0)
