-- What checking the parts one after another finds.
use Rattle.std.specs.Prelude.{Some, Result, Ok, Err, ℕ, Bool, List, ◌≡◌}
use Rattle.model.specs.Rules.Join.{program_total, parts_from, part_named}
use Rattle.model.specs.Rules.Outcome.{Outcome, accepted, refused}
use Rattle.model.specs.Rules.Parts.{Part}
use Rattle.model.specs.declared.JoinFault.{JoinFault}
use Rattle.join_gather.specs.declared.Gathered.{Gathered}
use Rattle.join_gather.specs.Joint.{JointOf}
use Rattle.join_gather.specs.Rates.{RatesBy}
use Rattle.join_gather.specs.Rows.{TableOf}

-- The tables of all parts, each of which is accepted.
pub record Taken (numbers : List ℕ) (periods : List ℕ) (inputs : List Bool) (r : Gathered) (parts : List Part) : Type 0 where
  pub joint-of : JointOf parts (program_total numbers) r.joint
  pub rates : RatesBy parts periods inputs
  pub table_of : TableOf parts r.table

-- The first k parts are accepted, and the tables for the links are theirs.
pub record Before (texts numbers : List ℕ) (periods : List ℕ) (inputs : List Bool) (k : ℕ) : Type 0 where
  pub parts : List Part
  pub checked : parts_from texts numbers 0 k ≡ accepted parts
  pub rates : RatesBy parts periods inputs

-- The tables of all parts; or the refusal of the first part that is refused, and which it is.
unfoldable pub GatheredAs : List ℕ → List ℕ → Outcome (List Part) → List ℕ → List Bool → Result Gathered JoinFault → Type 0
GatheredAs texts numbers (accepted parts) periods inputs r =
    (g : Gathered) × (r ≡ Ok g) × Taken numbers periods inputs g parts
GatheredAs texts numbers (refused f) periods inputs r =
    (k : ℕ) × (r ≡ Err (record { fault = f; part = Some k })) × (part_named texts numbers ≡ Some k) ×
    Before texts numbers periods inputs k
