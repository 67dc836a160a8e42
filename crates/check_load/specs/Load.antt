-- The load of a cycle, by the tables of periods, phases and weights.
use Rattle.std.specs.Prelude.{ℕ, ◌<◌, cond, List, ◌≡◌, get_or}
use Rattle.model.specs.Rules.Program.{Program, count}
use Rattle.model.specs.Rules.Reads.{due}
use Rattle.model.specs.Rules.Schedule.{Schedule, phase_of}
use Rattle.model.specs.Rules.Search.{sum, table}

-- What signal x adds to the load of cycle c.
abbrev pub added_in : List ℕ → List ℕ → List ℕ → ℕ → ℕ → ℕ
added_in periods phases weights c x =
    cond (due (record { period = get_or periods x 0; phase = get_or phases x 0 }) c) (get_or weights x 0) 0

-- The summed weight of the first n signals run in cycle c.
unfoldable pub load_in : List ℕ → List ℕ → List ℕ → ℕ → ℕ → ℕ
load_in periods phases weights n c = sum (table n (added_in periods phases weights c))

-- A table has the load of the first n signals for each cycle below the hypercycle h.
abbrev pub LoadsOf : List ℕ → List ℕ → List ℕ → ℕ → ℕ → List ℕ → Type 0
LoadsOf periods phases weights n h loads = (c : ℕ) → c < h → get_or loads c 0 ≡ load_in periods phases weights n c

-- A table has the phase of every signal by its number.
abbrev pub PhasesOf : Program → Schedule → List ℕ → Type 0
PhasesOf p s phases = (x : ℕ) → x < count p → get_or phases x 0 ≡ phase_of s x
