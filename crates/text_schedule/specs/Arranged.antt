-- A pair that has passed 2 to 13, 29 and 30, by its tables.
use Rattle.std.specs.Prelude.{ℕ, List, ◌≡◌}
use Rattle.model.specs.Rules.Cover.{tabled}
use Rattle.model.specs.Rules.Outcome.{accepted, Parsed}
use Rattle.model.specs.Rules.Program.{Program}
use Rattle.model.specs.Rules.Rates.{declared_and_rated, hypercycle, linked}
use Rattle.model.specs.Rules.Schedule.{Schedule, Put, placed}
use Rattle.text_program.specs.Tables.{Stands, SlotsOf}
use Rattle.text_program.specs.declared.Tables.{Tables}
use Rattle.text_schedule.specs.declared.PairTables.{PairTables}
use Rattle.text_schedule.specs.declared.Slots.{Slots}

-- The tables of a pair.
abbrev pub pair_tables : Tables → Slots → ℕ → PairTables
pair_tables tables slots h = record { tables = tables; slots = slots; hypercycle = h }

-- Text, reads and tables stand for p, s and the hypercycle, which have passed 2 to 13, 29 and 30.
pub record Arranged (text reads : List ℕ) (t : PairTables) (p : Program) (s : Schedule) : Type 0 where
  pub stands : Stands text reads t.tables p
  pub rated : declared_and_rated p ≡ accepted tt
  pub hyper : hypercycle p ≡ accepted t.hypercycle
  pub links : linked p ≡ accepted tt
  pub covered : tabled p ≡ accepted tt
  pub puts : Parsed (List Put)
  pub places : placed p puts ≡ accepted s
  pub slots-are : SlotsOf p s t.slots.order t.slots.phases t.slots.ranks

-- There is such a pair.
abbrev pub Arrangement : List ℕ → List ℕ → PairTables → Type 0
Arrangement text reads t = (p : Program) × (s : Schedule) × Arranged text reads t p s
