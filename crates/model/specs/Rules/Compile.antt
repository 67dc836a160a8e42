-- The compiler's verdict on a program and a schedule, and what compile leaves in the buffer (17).
use Rattle.std.specs.Prelude.{ℕ, ◌&&◌, List, ◌++◌, leb, length, drop}
use Rattle.model.specs.Rules.Cover.{tabled}
use Rattle.model.specs.Rules.Image.{written_of}
use Rattle.model.specs.Rules.Latency.{timely}
use Rattle.model.specs.Rules.Load.{loaded}
use Rattle.model.specs.Rules.Machine.{Effect, Job, effect}
use Rattle.model.specs.Rules.Outcome.{Outcome, accepted, ◌▷◌, provided}
use Rattle.model.specs.Rules.Program.{Program, parse_program}
use Rattle.model.specs.Rules.Rates.{declared_and_rated, hypercycle, linked}
use Rattle.model.specs.Rules.Reads.{met}
use Rattle.model.specs.Rules.Schedule.{Schedule, parse_schedule, placed}

-- Program 8,192 bytes, schedule 193.
unfoldable pub short_enough : List ℕ → List ℕ → Outcome (Unit {0})
short_enough program schedule = provided (leb (length program) 8192 && leb (length schedule) 193) 1 0

-- An accepted pair, and its hypercycle.
pub record Pair : Type 0 where
  pub program : Program
  pub schedule : Schedule
  pub hypercycle : ℕ

-- Refused because of the input, in the order stated.
unfoldable pub pair_of : List ℕ → List ℕ → Outcome Pair
pair_of program schedule =
    short_enough program schedule ▷ λ _.  -- 1
    parse_program program ▷ λ p.  -- 2 to 6
    declared_and_rated p ▷ λ _.  -- 7, 8
    hypercycle p ▷ λ h.  -- 9
    linked p ▷ λ _.  -- 10
    tabled p ▷ λ _.  -- 29, 30
    parse_schedule schedule ▷ λ puts.  -- 11
    placed p puts ▷ λ s.  -- 12, 13
    met p s ▷ λ _.  -- 14
    loaded p s h ▷ λ _.  -- 15
    timely p s h ▷ λ _.  -- 16
    accepted (record { program = p; schedule = s; hypercycle = h })

-- An accepted pair has one image, with its tail.
unfoldable pub verdict_of : List ℕ → List ℕ → Outcome (List ℕ)
verdict_of program schedule =
    pair_of program schedule ▷ λ q. accepted (written_of q.program q.schedule q.hypercycle)

-- The job of compile: 17 where the buffer is shorter than L + 4N; bytes past that stay.
abbrev pub compile_job : List ℕ → List ℕ → List ℕ → Outcome (Job ℕ ℕ)
compile_job program schedule buffer =
    verdict_of program schedule ▷ λ image.
    provided (leb (length image) (length buffer)) 17 (length image) ▷ λ _.
    accepted (record { yields = length image; leaves = image ++ drop (length image) buffer })

unfoldable pub compile_of : List ℕ → List ℕ → List ℕ → Effect ℕ ℕ
compile_of program schedule buffer = effect buffer (compile_job program schedule buffer)
