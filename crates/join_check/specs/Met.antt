-- The reads of links, by the tables of joined numbers.
use Rattle.std.specs.Prelude.{ℕ, ◌+◌, ◌≤◌, ◌<◌, Bool, List, ◌≡◌, ltb, length, get_or}
use Rattle.model.specs.Rules.Parts.{Part, joined_parts, base}
use Rattle.model.specs.Rules.Program.{count}
use Rattle.model.specs.Rules.Reads.{rank}
use Rattle.model.specs.Rules.Schedule.{phase_of}
use Rattle.model.specs.Rules.Word.{byte_at}
use Rattle.model.specs.Says.Feasible.{Ordered}
use Rattle.model.specs.declared.Index.TheVariants.{Fixed}
use Rattle.model.specs.declared.Kind.TheVariants.{Now}
use Rattle.read_rule.specs.Reads.{met_by}
use Rattle.join_gather.specs.declared.Joint.{Joint}
use Rattle.join_links.specs.ByPart.{AllRight}
use Rattle.text_program.specs.Tables.{PeriodsOf, rate_at}

-- The joined number of the signal that two bytes name by part and number.
abbrev pub number_at : List ℕ → ℕ → List ℕ → ℕ
number_at links at bases = get_or bases (byte_at links at) 0 + byte_at links (at + 1)

-- The joined numbers of the IN and of the signal of the link at `at`.
abbrev pub reader_at : List ℕ → ℕ → List ℕ → ℕ
reader_at links at bases = number_at links at bases

abbrev pub source_at : List ℕ → ℕ → List ℕ → ℕ
source_at links at bases = get_or bases (byte_at links (at + 2)) 0 + byte_at links (at + 3)

-- Both lie in the tables.
pub record LinkInside (links : List ℕ) (at : ℕ) (bases : List ℕ) : Type 0 where
  pub whole : at + 4 ≤ length links
  pub part : byte_at links at < 9
  pub other : byte_at links (at + 2) < 9
  pub reader : reader_at links at bases < 64
  pub source : source_at links at bases < 64

-- Their periods are equal, and their phases below these.
pub record EqualPeriods (links : List ℕ) (at : ℕ) (bases periods phases : List ℕ) : Type 0 where
  pub same : get_or periods (reader_at links at bases) 0 ≡ get_or periods (source_at links at bases) 0
  pub reader : get_or phases (reader_at links at bases) 0 < get_or periods (reader_at links at bases) 0
  pub source : get_or phases (source_at links at bases) 0 < get_or periods (source_at links at bases) 0

-- The read by NOW is met.
abbrev pub link_met_by : List ℕ → ℕ → List ℕ → List ℕ → List ℕ → List ℕ → Bool
link_met_by links at bases periods phases ranks =
    met_by Now (record { signal = 0; factor = 1; index = Fixed 0 }) (rate_at periods phases (source_at links at bases))
    (rate_at periods phases (reader_at links at bases))
    (ltb (get_or ranks (source_at links at bases) 0) (get_or ranks (reader_at links at bases) 0))

-- The links are free of 31, and the tables are those of the joined parts, which have at most 64 signals.
pub record Linking (parts : List Part) (links bases periods phases ranks : List ℕ) : Type 0 where
  pub right : AllRight parts links
  pub few : length parts ≤ 8
  pub small : count (joined_parts parts).program ≤ 64
  pub bases-are : (k : ℕ) → k ≤ length parts → get_or bases k 0 ≡ base parts k
  pub periods-are : PeriodsOf (joined_parts parts).program periods
  pub phases-are : (x : ℕ) → x < count (joined_parts parts).program → get_or phases x 0 ≡ phase_of (joined_parts parts).schedule x
  pub ranks-are : (x : ℕ) → x < count (joined_parts parts).program →
      get_or ranks x 0 ≡ rank (joined_parts parts).schedule.order x
  pub ordered : Ordered (joined_parts parts).program (joined_parts parts).schedule

abbrev pub JointLinking : List Part → List ℕ → Joint → Type 0
JointLinking parts links t = Linking parts links t.bases t.periods t.phases t.ranks
