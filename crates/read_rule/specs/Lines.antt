-- One form for the lines of the five reads.
use Rattle.std.specs.Prelude.{Option, Some, None, ℕ, ◌+◌, ◌*◌, ◌-◌, ◌≤◌, ◌<◌, Bool, true, false, cond, ◌≡◌}
use Rattle.model.specs.Says.Feasible.{PeriodRule}
use Rattle.model.specs.Rules.Reads.{between}
use Rattle.model.specs.Rules.Search.{first_from, first_below}
use Rattle.model.specs.declared.Index.{Index}
use Rattle.model.specs.declared.Index.TheVariants.{Fixed, Open}
use Rattle.model.specs.declared.Kind.{Kind}
use Rattle.model.specs.declared.Kind.TheVariants.{Now, Last, When, LastWhen, Current}
use Rattle.model.specs.declared.Sampled.{Sampled}
use Rattle.read_rule.specs.declared.Candidates.{Candidates}
use Rattle.read_rule.specs.declared.Line.{Line}
use Rattle.read_rule.specs.declared.Timing.{Timing}

abbrev pub is_plain : Kind → Bool
is_plain Now = true
is_plain Last = true
is_plain When = false
is_plain LastWhen = false
is_plain Current = false

-- Whether the runs counted are the reader's.
abbrev pub is_current : Kind → Bool
is_current Now = false
is_current Last = false
is_current When = false
is_current LastWhen = false
is_current Current = true

-- Whether a read uses the last run at or before its cycle, and not the first at or after it.
abbrev pub is_before : Kind → Bool
is_before Now = true
is_before Last = false
is_before When = true
is_before LastWhen = false
is_before Current = false

module _ (kind : Kind) (w r : Timing) where
  abbrev pub period_in : ℕ
  period_in = cond (is_current kind) r.period w.period

  abbrev pub step_in : ℕ
  step_in = cond (is_plain kind) 256 period_in

  abbrev pub ahead_in : ℕ
  ahead_in = cond (is_before kind) (step_in - 1) 0

  unfoldable pub line_in : Line
  line_in =
      record {
        origin = cond (is_current kind) r.phase w.phase + ahead_in;
        stride = cond (is_plain kind) 0 period_in;
        step = step_in;
        cycle = cond (is_current kind) w.phase r.phase;
        ahead = ahead_in;
      }

-- Its numbers are small, so that nothing overflows.
pub record SmallLine (l : Line) : Type 0 where
  pub origin-small : l.origin ≤ 512
  pub stride-small : l.stride ≤ 256
  pub step_small : l.step ≤ 256
  pub cycle-small : l.cycle ≤ 256
  pub ahead_small : l.ahead ≤ 256
  pub within : l.stride ≤ l.step

-- The line is that of a read between these signals, whose phases are bytes.
pub record LineFor (kind : Kind) (w r : Timing) (l : Line) : Type 0 where
  pub is : l ≡ line_in kind w r
  pub small : SmallLine l
  pub read_byte : w.phase < 256
  pub reader-byte : r.phase < 256

-- The number of an index on a line, and whether the index meets it.
abbrev pub number_at : Line → ℕ → ℕ
number_at l i = l.origin + i * l.stride

unfoldable pub meets_at : Line → ℕ → Bool
meets_at l i = between l.cycle (number_at l i) (l.cycle + l.step)

-- The index of a read by its line.
abbrev pub found_on : Line → ℕ → Index → Option ℕ
found_on l n (Fixed i) = cond (meets_at l i) (Some i) None
found_on l n Open = first_below n (meets_at l)

-- A search through the candidates finds it.
pub record CandidatesOf (l : Line) (sampled : Sampled) (r : Candidates) : Type 0 where
  pub few : r.to ≤ 256
  pub finds : first_from r.from (r.to - r.from) (meets_at l) ≡ found_on l sampled.factor sampled.index

-- The period rule is kept and phases are below periods.
pub record Paced (kind : Kind) (sampled : Sampled) (w r : Timing) : Type 0 where
  pub rule : PeriodRule kind w.period r.period sampled.factor
  pub positive : 0 < sampled.factor
  pub read_below : w.phase < w.period
  pub reader-below : r.phase < r.period
