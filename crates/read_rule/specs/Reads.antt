-- One read, by the rates of the signal read and of the reader.
use Rattle.std.specs.Prelude.{Option, Some, None, ℕ, ◌<◌, Bool, true, false, cond, ◌&&◌, ◌↔◌, ◌≡◌}
use Rattle.model.specs.Says.Feasible.{PeriodRule, Between}
use Rattle.model.specs.Rules.Reads.{Rate, line, settle, line_holds, ordered}
use Rattle.model.specs.declared.Index.{Index}
use Rattle.model.specs.declared.Index.TheVariants.{Fixed, Open}
use Rattle.model.specs.declared.Kind.{Kind}
use Rattle.model.specs.declared.Sampled.{Sampled}
use Rattle.read_rule.specs.declared.Phases.{Phases}
use Rattle.read_rule.specs.declared.Timing.{Timing}

abbrev pub rate_in : Timing → Rate
rate_in t = record { period = t.period; phase = t.phase }

-- The index of a read whose line holds.
abbrev pub index_by : Kind → Rate → Rate → ℕ → Index → Option ℕ
index_by kind w r n (Fixed i) = cond (line kind w r i) (Some i) None
index_by kind w r n Open = settle kind w r n

unfoldable pub index_found : Kind → Sampled → Rate → Rate → Option ℕ
index_found kind sampled w r = index_by kind w r sampled.factor sampled.index

-- A read is met if its line and its order both hold.
unfoldable pub met_by : Kind → Sampled → Rate → Rate → Bool → Bool
met_by kind sampled w r before = line_holds kind w r sampled.factor sampled.index && ordered kind w r before

-- A read is met at index i.
abbrev pub met_at : Kind → Rate → Rate → ℕ → Bool → Bool
met_at kind w r i before = line kind w r i && ordered kind w r before

-- A rate with another phase.
abbrev pub at_phase : Rate → ℕ → Rate
at_phase a f = record { period = a.period; phase = f }

-- It is met where the phase of one signal is f: the reader's, or that of the signal read.
abbrev pub moved_met : Bool → Kind → Rate → Rate → ℕ → Bool → ℕ → Bool
moved_met true kind w r i before f = met_at kind w (at_phase r f) i before
moved_met false kind w r i before f = met_at kind (at_phase w f) r i before

-- The phases, bytes below the period, at which a read of factor n that keeps its period rule is met so.
abbrev pub MetIn : Bool → Kind → Rate → Rate → ℕ → Bool → Phases → Type 0
MetIn reader kind w r i before o =
    (n f : ℕ) → 0 < n → PeriodRule kind w.period r.period n → w.phase < w.period → r.phase < r.period →
    f < cond reader r.period w.period → f < 256 →
    Between o.low f o.high ↔ (moved_met reader kind w r i before f ≡ true)
