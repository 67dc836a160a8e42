-- The tables of joined parts, by joined number.
use Rattle.std.specs.Prelude.{None, ℕ, ◌+◌, ◌%◌, ◌≤◌, ◌<◌, List, ◌≡◌, length, get_or}
use Rattle.model.specs.Rules.Parts.{Part, joined_parts, base}
use Rattle.model.specs.Rules.Program.{count, signal_at}
use Rattle.model.specs.Says.Feasible.{OrderedPart}
use Rattle.text_program.specs.Tables.{cap_of, PeriodsOf, WeightsOf, LabelsOf, Sums, code_in, TablesOf, SlotsOf}
use Rattle.text_program.specs.declared.Tables.{Tables}
use Rattle.text_schedule.specs.declared.Slots.{Slots}
use Rattle.join_gather.specs.declared.Joint.{Joint}

-- How many entries the tables have space for.
pub record JointSpace (t : Joint) : Type 0 where
  pub bases : length t.bases ≡ 9
  pub places : length t.places ≡ 64
  pub periods : length t.periods ≡ 64
  pub weights : length t.weights ≡ 64
  pub labels : length t.labels ≡ 64
  pub codes : length t.codes ≡ 65
  pub order : length t.order ≡ 64
  pub phases : length t.phases ≡ 64
  pub ranks : length t.ranks ≡ 64

-- Nothing is joined yet.
pub record Nothing (t : Joint) : Type 0 where
  pub space : JointSpace t
  pub no-parts : t.parts ≡ 0
  pub no-signals : t.signals ≡ 0
  pub no-chains : t.chains ≡ 0
  pub no-cap : t.cap ≡ None
  pub base : get_or t.bases 0 0 ≡ 0
  pub code : get_or t.codes 0 0 ≡ 0

-- Of a table, `old`, the table `new` has the n values of f from entry `from` on; the entries before stay.
pub record Copied (f : ℕ → ℕ) (from n : ℕ) (old new : List ℕ) : Type 0 where
  pub long : length new ≡ length old
  pub kept : (y : ℕ) → y < from → get_or new y 0 ≡ get_or old y 0
  pub copied : (y : ℕ) → y < n → get_or new (from + y) 0 ≡ f y

-- The tables of a part's signals.
pub record PartArrays : Type 0 where
  pub places : List ℕ
  pub periods : List ℕ
  pub weights : List ℕ
  pub labels : List ℕ
  pub codes : List ℕ
  pub order : List ℕ
  pub phases : List ℕ
  pub ranks : List ℕ

-- The first n signals of a part, by its tables, are added after those of t; `code` is where the code of these ends.
pub record AddsFirst (t : Joint) (a : PartArrays) (code n : ℕ) (r : Joint) : Type 0 where
  pub places : Copied (λ y. get_or a.places y 0) t.signals n t.places r.places
  pub periods : Copied (λ y. get_or a.periods y 0) t.signals n t.periods r.periods
  pub weights : Copied (λ y. get_or a.weights y 0) t.signals n t.weights r.weights
  pub labels : Copied (λ y. get_or a.labels y 0) t.signals n t.labels r.labels
  pub codes : Copied (λ y. (code + get_or a.codes (y + 1) 0) % 65536) (t.signals + 1) n t.codes r.codes
  pub order : Copied (λ y. (t.signals + get_or a.order y 0) % 256) t.signals n t.order r.order
  pub phases : Copied (λ y. get_or a.phases y 0) t.signals n t.phases r.phases
  pub ranks : Copied (λ y. (t.signals + get_or a.ranks y 0) % 256) t.signals n t.ranks r.ranks
  pub bases : r.bases ≡ t.bases

abbrev pub arrays_of : Tables → Slots → PartArrays
arrays_of t s =
    record {
      places = t.places;
      periods = t.periods;
      weights = t.weights;
      labels = t.labels;
      codes = t.codes;
      order = s.order;
      phases = s.phases;
      ranks = s.ranks;
    }

abbrev pub AddsSignals : Joint → Tables → Slots → Joint → Type 0
AddsSignals t tables slots r =
    AddsFirst t (arrays_of tables slots) (get_or t.codes t.signals 0) tables.signals r

-- They are added where there are at most 64 signals then.
pub record WithSignals (t : Joint) (tables : Tables) (slots : Slots) (r : Joint) : Type 0 where
  pub space : JointSpace r
  pub bases : r.bases ≡ t.bases
  pub added : t.signals + tables.signals ≤ 64 → AddsSignals t tables slots r

-- The tables of a part: its program's and its schedule's.
pub record PartTables (a : Part) (tables : Tables) (slots : Slots) : Type 0 where
  pub tables-are : TablesOf a.program tables
  pub slots-are : SlotsOf a.program a.schedule slots.order slots.phases slots.ranks

-- The tables of joined parts, as one part.
pub record JointTables (a : Part) (t : Joint) : Type 0 where
  pub places : (x : ℕ) → x < count a.program → get_or t.places x 0 ≡ (signal_at a.program x).place
  pub periods : PeriodsOf a.program t.periods
  pub weights : WeightsOf a.program t.weights
  pub labels : LabelsOf a.program t.labels
  pub codes : Sums code_in a.program t.codes
  pub slots : SlotsOf a.program a.schedule t.order t.phases t.ranks

-- The code of a part has at most so many bytes.
abbrev pub CodeWithin : Tables → ℕ → Type 0
CodeWithin t size = get_or t.codes t.signals 0 ≤ size

-- What is joined of parts, whose code has at most `size` bytes. The tables have at most 64 signals.
pub record JointOf (parts : List Part) (size : ℕ) (t : Joint) : Type 0 where
  pub space : JointSpace t
  pub counted : t.parts ≡ length parts
  pub bases : (k : ℕ) → k ≤ length parts → get_or t.bases k 0 ≡ base parts k
  pub signals : t.signals ≡ count (joined_parts parts).program
  pub chains : t.chains ≡ length (joined_parts parts).program.chains
  pub cap : (joined_parts parts).program.cap ≡ cap_of t.cap
  pub ordered : OrderedPart (joined_parts parts)
  pub tables : t.signals ≤ 64 → JointTables (joined_parts parts) t
  pub short : t.signals ≤ 64 → get_or t.codes t.signals 0 ≤ size
