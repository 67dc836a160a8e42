-- The checks of a pair in the steps that the code takes.
use Rattle.std.specs.Prelude.{ℕ, List}
use Rattle.model.specs.Rules.Compile.{short_enough, Pair}
use Rattle.model.specs.Rules.Cover.{tabled}
use Rattle.model.specs.Rules.Latency.{timely}
use Rattle.model.specs.Rules.Load.{loaded}
use Rattle.model.specs.Rules.Outcome.{Outcome, accepted, ◌▷◌}
use Rattle.model.specs.Rules.Program.{Program, parse_program}
use Rattle.model.specs.Rules.Rates.{declared_and_rated, hypercycle, linked}
use Rattle.model.specs.Rules.Reads.{met}
use Rattle.model.specs.Rules.Schedule.{Schedule, parse_schedule, placed}

-- The program alone, once it is read: 7 to 10, 29 and 30. Yields the hypercycle.
unfoldable pub rates_of : Program → Outcome ℕ
rates_of p =
    declared_and_rated p ▷ λ _.
    hypercycle p ▷ λ h.
    linked p ▷ λ _.
    tabled p ▷ λ _.
    accepted h

-- The schedule of a program: 11 to 13.
unfoldable pub schedule_for : Program → List ℕ → Outcome Schedule
schedule_for p schedule =
    parse_schedule schedule ▷ λ puts.
    placed p puts

-- All of them. `pair-steps` says that this is `pair_of`.
unfoldable pub steps_of : List ℕ → List ℕ → Outcome Pair
steps_of program schedule =
    short_enough program schedule ▷ λ _.
    parse_program program ▷ λ p.
    rates_of p ▷ λ h.
    schedule_for p schedule ▷ λ s.
    met p s ▷ λ _.
    loaded p s h ▷ λ _.
    timely p s h ▷ λ _.
    accepted (record { program = p; schedule = s; hypercycle = h })
