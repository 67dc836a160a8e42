-- What the writer of a join is given.
use Rattle.std.specs.Prelude.{List, ◌≡◌, ℕ, get_or}
use Rattle.model.specs.Rules.Compile.{Pair}
use Rattle.model.specs.Rules.Join.{joined_pair_of}
use Rattle.model.specs.Rules.Outcome.{accepted}
use Rattle.image_write.specs.Layout.{LaidOutBy}
use Rattle.image_write.specs.declared.Layout.{Layout}
use Rattle.join_gather.specs.declared.Joint.{Joint}
use Rattle.join_verdict.specs.Verdict.{JoinChecks}
use Rattle.join_verdict.specs.declared.Verdict.{Verdict}

-- The join is accepted, and the verdict has its tables.
pub record JoinReady (texts numbers links : List ℕ) (r : Verdict) : Type 0 where
  pub pair : Pair
  pub accepts : joined_pair_of texts numbers links ≡ accepted pair
  pub checks : JoinChecks texts numbers links r pair

-- The layout of the joined tables, with so many rows; and by the verdict, which has both.
abbrev pub LaidOutJoint : Joint → ℕ → ℕ → Layout → Type 0
LaidOutJoint t rows h l =
    LaidOutBy t.periods t.order t.phases t.signals h (get_or t.codes t.signals 0) rows l

abbrev pub LaidOutJoin : Verdict → Layout → Type 0
LaidOutJoin r l = LaidOutJoint r.joint r.table.rows r.hypercycle l
