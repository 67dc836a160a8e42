-- What a timetable tells of a pair: what runs when.
use Rattle.std.specs.Prelude.{ℕ, ◌<◌, ◌≡◌, get_or}
use Rattle.model.specs.Rules.Compile.{Pair}
use Rattle.model.specs.Rules.Load.{load}
use Rattle.model.specs.Rules.Program.{count}
use Rattle.text_program.specs.Tables.{PeriodsOf, LabelsOf, cap_of}
use Rattle.check_load.specs.Load.{PhasesOf}
use Rattle.timetable.specs.declared.Timetable.{Timetable}

pub record TimetableOf (t : Timetable) (q : Pair) : Type 0 where
  pub signals : t.signals ≡ count q.program
  pub hypercycle : t.hypercycle ≡ q.hypercycle
  pub periods : PeriodsOf q.program t.periods
  pub phases : PhasesOf q.program q.schedule t.phases
  pub labels : LabelsOf q.program t.labels
  pub cap : q.program.cap ≡ cap_of t.cap
  -- the summed weight of the signals that run in each cycle below the hypercycle
  pub loads : (c : ℕ) → c < q.hypercycle → get_or t.loads c 0 ≡ load q.program q.schedule c
