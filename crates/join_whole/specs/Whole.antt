-- What the joined checks ask and answer.
use Rattle.std.specs.Prelude.{Result, ℕ, ◌≤◌, List, ◌≡◌, length}
use Rattle.model.specs.Rules.Compile.{Pair}
use Rattle.model.specs.Rules.Outcome.{Outcome}
use Rattle.model.specs.Rules.Parts.{Part}
use Rattle.model.specs.declared.Fault.{Fault}
use Rattle.basics.specs.Judgement.{Answers}
use Rattle.join_gather.specs.Joint.{JointOf}
use Rattle.join_links.specs.ByPart.{AllRight}
use Rattle.join_gather.specs.declared.Joint.{Joint}

-- At most 8 parts, what is joined of them, and links that are free of 31.
pub record Joining (parts : List Part) (size : ℕ) (links : List ℕ) (t : Joint) : Type 0 where
  pub few : length parts ≤ 8
  pub joint-of : JointOf parts size t
  pub right : AllRight parts links

-- The verdict's refusal, or the hypercycle of the joined pair.
abbrev pub WholeAs : Outcome Pair → Result ℕ Fault → Type 0
WholeAs o r = Answers (λ q h. h ≡ q.hypercycle) o r
