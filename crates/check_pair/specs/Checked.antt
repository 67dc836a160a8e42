-- What the answers of the checks say.
use Rattle.std.specs.Prelude.{Result, ℕ, ◌*◌, ◌≤◌, List, ◌≡◌}
use Rattle.model.specs.Rules.Compile.{Pair}
use Rattle.model.specs.Rules.Outcome.{Outcome}
use Rattle.basics.specs.Judgement.{Answers}
use Rattle.text_schedule.specs.Arranged.{Arranged}
use Rattle.text_schedule.specs.declared.PairTables.{PairTables}
use Rattle.model.specs.declared.Fault.{Fault}

-- Text, reads and tables stand for the accepted pair q.
pub record Checks (text reads : List ℕ) (t : PairTables) (q : Pair) : Type 0 where
  pub hyper : t.hypercycle ≡ q.hypercycle
  pub arranged : Arranged text reads t q.program q.schedule

-- The answer is the definition's refusal, or the tables are the pair's, with those of the reads, or with some.
abbrev pub CheckedWith : List ℕ → List ℕ → Outcome Pair → Result PairTables Fault → Type 0
CheckedWith text reads o r = Answers (λ q t. Checks text reads t q) o r

abbrev pub CheckedAs : List ℕ → Outcome Pair → Result PairTables Fault → Type 0
CheckedAs text o r = (reads : List ℕ) × CheckedWith text reads o r

-- A table of `room` entries is enough for the reads of a program of `size` bytes, if that passes 1.
abbrev pub Spacious : ℕ → ℕ → Type 0
Spacious size room = size ≤ 8192 → size ≤ 2 * room
