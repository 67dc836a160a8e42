-- What all checks of a join answer.
use Rattle.std.specs.Prelude.{Result, ℕ, List, ◌≡◌}
use Rattle.model.specs.Rules.Compile.{Pair}
use Rattle.model.specs.Rules.Join.{parts_in, program_total, parts_from, links_of, one_table, joined_verdict, joined_pair_of, part_named, without_part, part_in}
use Rattle.model.specs.Rules.Outcome.{accepted}
use Rattle.model.specs.Rules.Parts.{Part}
use Rattle.model.specs.declared.JoinFault.{JoinFault}
use Rattle.basics.specs.Judgement.{Answers}
use Rattle.join_gather.specs.Rows.{TableOf}
use Rattle.join_whole.specs.Whole.{Joining}
use Rattle.join_verdict.specs.declared.Verdict.{Verdict}

-- The joined tables are those of the accepted pair q.
pub record JoinChecks (texts numbers links : List ℕ) (r : Verdict) (q : Pair) : Type 0 where
  pub parts : List Part
  pub checked : parts_from texts numbers 0 (parts_in numbers) ≡ accepted parts
  pub joining : Joining parts (program_total numbers) links r.joint
  pub table : TableOf parts r.table
  pub one : one_table parts ≡ accepted tt
  pub joined : joined_verdict parts (links_of links) ≡ accepted q
  pub hyper : r.hypercycle ≡ q.hypercycle

-- The definition's refusal with the part that it names, or the tables of the joined pair.
pub record VerdictAs (texts numbers links : List ℕ) (r : Result Verdict JoinFault) : Type 0 where
  pub answer : Answers (λ q v. JoinChecks texts numbers links v q) (joined_pair_of texts numbers links) (without_part r)
  pub part : part_named texts numbers ≡ part_in r
