-- A list of calls on the image of joined parts, and two joins of the same programs.
use Rattle.std.specs.Prelude.{ℕ, ◌<◌, List, ◌≡◌, ℤ, length}
use Rattle.model.specs.Says.Calls.{Call}
use Rattle.model.specs.Rules.Compile.{Pair}
use Rattle.model.specs.Rules.Outcome.{Outcome}
use Rattle.model.specs.Rules.Parts.{Part, part_at, PartLink}
use Rattle.model.specs.Rules.Report.{counts_of}
use Rattle.theorems_streams.specs.Held.{state_by, log_by, answers_by, Answered, Supplied, Holds}
use Rattle.theorems_streams.specs.Lists.{SettleAlike}
use Rattle.theorems_joins.specs.Join.{LinkedSatisfies}

-- What holds of a list of calls on the image of joined parts: the state is what `Holds` says with every streams that satisfy the
-- equations of all parts and links together, and a cycle answers the count of its position.
pub record JoinKept (parts : List Part) (links : List PartLink) (q : Pair) (old : List ℤ) (cs : List Call)
    (answers : List (Outcome ℕ)) (log : List (List ℤ)) (state : List ℤ) : Type 0 where
  pub answered :
      Answered q.program q.hypercycle (counts_of q.program q.schedule q.hypercycle) 0 cs answers (length log)
  pub holds : (inputs X : ℕ → ℕ → ℤ) → Supplied q.program q.schedule log inputs → LinkedSatisfies parts links inputs X →
      Holds q.program q.schedule q.hypercycle X old (length log) state

abbrev pub JoinKeptBy : List Part → List PartLink → Pair → List ℕ → List ℤ → List Call → Type 0
JoinKeptBy parts links q lent old cs =
    JoinKept parts links q old cs (answers_by lent old cs) (log_by lent old cs) (state_by lent old cs)

-- Two lists of parts with the same programs settle alike, part by part.
pub record PartsAlike (parts parts' : List Part) : Type 0 where
  pub number : length parts ≡ length parts'
  pub programs : (k : ℕ) → k < length parts → (part_at parts k).program ≡ (part_at parts' k).program
  pub settle : (k : ℕ) → k < length parts →
      SettleAlike (part_at parts k).program (part_at parts k).schedule (part_at parts' k).schedule
