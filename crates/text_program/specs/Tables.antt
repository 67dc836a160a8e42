-- What the tables of a program text say.
use Rattle.std.specs.Prelude.{Option, None, Some, Result, Ok, Err, ℕ, suc, ◌+◌, ◌≤◌, ◌<◌, List, [], ◌≡◌, length, get_or, set, ⊤}
use Rattle.model.specs.Rules.Outcome.{Outcome, accepted, refused}
use Rattle.model.specs.Rules.Image.{signal_code}
use Rattle.model.specs.Rules.Program.{
  Program,
  Signal,
  Chain,
  Limit,
  unlimited,
  limit,
  count,
  signal_at,
  body_reads,
  weight_of,
  lookups,
}
use Rattle.model.specs.Rules.Reads.{Rate, rank}
use Rattle.model.specs.Rules.Table.{row_at}
use Rattle.model.specs.Rules.Schedule.{Schedule, phase_of}
use Rattle.model.specs.Says.Grammar.{LegalProgram}
use Rattle.model.specs.declared.Mode.TheVariants.{Exists}
use Rattle.text_program.specs.Steps.{Counts}
use Rattle.text_program.specs.Walks.{places_of}
use Rattle.model.specs.declared.Fault.{Fault}
use Rattle.text_program.specs.declared.Entry.{Entry}
use Rattle.text_program.specs.declared.Tables.{Tables}
use Rattle.text_program.specs.declared.Walk.{Walk}

abbrev pub no_chain : Chain
no_chain = record { place = 0; mode = Exists; bound = 0; links = [] }

abbrev pub chain_at : Program → ℕ → Chain
chain_at p j = get_or p.chains j no_chain

-- The CAP of the tables.
abbrev pub cap_of : Option ℕ → Limit
cap_of (Some n) = limit n
cap_of None = unlimited

-- A table has the period of every signal by its number, or its weight, or its label.
abbrev pub PeriodsOf : Program → List ℕ → Type 0
PeriodsOf p periods = (x : ℕ) → x < count p → get_or periods x 0 ≡ (signal_at p x).period

abbrev pub WeightsOf : Program → List ℕ → Type 0
WeightsOf p weights = (x : ℕ) → x < count p → get_or weights x 0 ≡ weight_of (signal_at p x).body

abbrev pub LabelsOf : Program → List ℕ → Type 0
LabelsOf p labels = (x : ℕ) → x < count p → get_or labels x 0 ≡ (signal_at p x).label

-- The rate of signal x by the tables of periods and phases.
abbrev pub rate_at : List ℕ → List ℕ → ℕ → Rate
rate_at periods phases x = record { period = get_or periods x 0; phase = get_or phases x 0 }

-- A table of where the parts of the signals start, one after another, and last where they end; a part has so many entries.
pub record Sums (f : ℕ → Signal → ℕ) (p : Program) (table : List ℕ) : Type 0 where
  pub from_zero : get_or table 0 0 ≡ 0
  pub rises : (x : ℕ) → x < count p → get_or table (suc x) 0 ≡ get_or table x 0 + f x (signal_at p x)

-- The number of reads of a signal, and the length of its code.
abbrev pub reads_in : ℕ → Signal → ℕ
reads_in x s = length (body_reads s.body)

abbrev pub code_in : ℕ → Signal → ℕ
code_in x s = length (signal_code x s.body)

-- The reads of signal x stand, in order, at the offsets that the table has from entry `firsts[x]` up to `firsts[x + 1]`.
pub record ReadsOf (p : Program) (reads firsts : List ℕ) : Type 0 where
  pub sums : Sums reads_in p firsts
  pub stand : (x j : ℕ) → x < count p → j < length (body_reads (signal_at p x).body) →
      get_or reads (get_or firsts x 0 + j) 0 ≡ get_or (places_of (body_reads (signal_at p x).body)) j 0
  pub fits : get_or firsts (count p) 0 ≤ length reads

-- The tables are those of the program p.
pub record TablesOf (p : Program) (t : Tables) : Type 0 where
  pub counts : Counts p t
  pub places : (x : ℕ) → x < count p → get_or t.places x 0 ≡ (signal_at p x).place
  pub periods : PeriodsOf p t.periods
  pub weights : WeightsOf p t.weights
  pub labels : LabelsOf p t.labels
  pub codes : Sums code_in p t.codes
  pub starts : (j : ℕ) → j < length p.chains → get_or t.starts j 0 ≡ (chain_at p j).place
  pub lengths : (j : ℕ) → j < length p.chains → get_or t.lengths j 0 ≡ length (chain_at p j).links
  pub cap : p.cap ≡ cap_of t.cap
  pub offsets : (n : ℕ) → n < length p.rows → get_or t.offsets n 0 ≡ (row_at p.rows n).place
  pub lookups-are : t.lookups ≡ lookups p.signals

-- How many entries the tables have space for.
pub record Space (t : Tables) : Type 0 where
  pub places : length t.places ≡ 64
  pub periods : length t.periods ≡ 64
  pub weights : length t.weights ≡ 64
  pub labels : length t.labels ≡ 64
  pub firsts : length t.firsts ≡ 65
  pub codes : length t.codes ≡ 65
  pub starts : length t.starts ≡ 16
  pub lengths : length t.lengths ≡ 16
  pub offsets : length t.offsets ≡ 32

-- The tables with a signal more, a chain, a CAP or a row.
abbrev pub signal_added : Tables → ℕ → ℕ → ℕ → ℕ → ℕ → ℕ → ℕ → Tables
signal_added t at label period weight n to looks =
    record {
      signals = t.signals + 1;
      places = set t.places t.signals at;
      periods = set t.periods t.signals period;
      weights = set t.weights t.signals weight;
      labels = set t.labels t.signals label;
      firsts = set t.firsts (t.signals + 1) n;
      codes = set t.codes (t.signals + 1) to;
      chains = t.chains;
      starts = t.starts;
      lengths = t.lengths;
      cap = t.cap;
      rows = t.rows;
      offsets = t.offsets;
      lookups = looks;
    }

abbrev pub chain_added : Tables → ℕ → ℕ → Tables
chain_added t at k =
    record {
      signals = t.signals;
      places = t.places;
      periods = t.periods;
      weights = t.weights;
      labels = t.labels;
      firsts = t.firsts;
      codes = t.codes;
      chains = t.chains + 1;
      starts = set t.starts t.chains at;
      lengths = set t.lengths t.chains k;
      cap = t.cap;
      rows = t.rows;
      offsets = t.offsets;
      lookups = t.lookups;
    }

abbrev pub cap_added : Tables → ℕ → Tables
cap_added t n =
    record {
      signals = t.signals;
      places = t.places;
      periods = t.periods;
      weights = t.weights;
      labels = t.labels;
      firsts = t.firsts;
      codes = t.codes;
      chains = t.chains;
      starts = t.starts;
      lengths = t.lengths;
      cap = Some n;
      rows = t.rows;
      offsets = t.offsets;
      lookups = t.lookups;
    }

abbrev pub row_added : Tables → ℕ → Tables
row_added t at =
    record {
      signals = t.signals;
      places = t.places;
      periods = t.periods;
      weights = t.weights;
      labels = t.labels;
      firsts = t.firsts;
      codes = t.codes;
      chains = t.chains;
      starts = t.starts;
      lengths = t.lengths;
      cap = t.cap;
      rows = t.rows + 1;
      offsets = set t.offsets t.rows at;
      lookups = t.lookups;
    }

-- The tables with an entry more, which stands at `at` behind a label.
abbrev pub with_entry : Tables → ℕ → ℕ → Entry → Walk → Tables
with_entry t at label (Entry.Signal period weight) w = signal_added t at label period weight w.reads w.code w.lookups
with_entry t at label (Entry.Chain k) w = chain_added t at k
with_entry t at label (Entry.Cap m) w = cap_added t m
with_entry t at label (Entry.Label given) w = t
with_entry t at label Entry.Row w = row_added t at

-- The tables have space for an entry, and its numbers fit theirs.
unfoldable pub EntryFits : Tables → Entry → Walk → Type 0
EntryFits t (Entry.Signal period weight) w = (t.signals < 64) × (w.reads < 65536) × (w.code < 65536)
EntryFits t (Entry.Chain k) w = t.chains < 16
EntryFits t (Entry.Cap m) w = ⊤
EntryFits t (Entry.Label given) w = ⊤
EntryFits t Entry.Row w = t.rows < 32

-- Nothing is read.
pub record Unread (t : Tables) : Type 0 where
  pub space : Space t
  pub no-signals : t.signals ≡ 0
  pub no-chains : t.chains ≡ 0
  pub no-cap : t.cap ≡ None
  pub no_rows : t.rows ≡ 0
  pub no-lookups : t.lookups ≡ 0
  pub first : get_or t.firsts 0 0 ≡ 0
  pub code : get_or t.codes 0 0 ≡ 0

-- Text, reads and tables stand for the program p: the text declares p, and the tables are its own.
pub record Stands (text reads : List ℕ) (t : Tables) (p : Program) : Type 0 where
  pub declares : LegalProgram text p
  pub tables-are : TablesOf p t
  pub reads-are : ReadsOf p reads t.firsts

-- They stand for some program.
abbrev pub Standing : List ℕ → List ℕ → Tables → Type 0
Standing text reads t = (p : Program) × Stands text reads t p

-- The text declares the program p of n signals, and the table has its reads.
pub record Indexes (text reads firsts : List ℕ) (n : ℕ) (p : Program) : Type 0 where
  pub declares : LegalProgram text p
  pub count-is : count p ≡ n
  pub reads-are : ReadsOf p reads firsts

abbrev pub Indexed : List ℕ → List ℕ → List ℕ → ℕ → Type 0
Indexed text reads firsts n = (p : Program) × Indexes text reads firsts n p

-- The tables of a schedule: the signals in PUT order, and by signal the phase and the place in that order.
pub record SlotsOf (p : Program) (s : Schedule) (order phases ranks : List ℕ) : Type 0 where
  pub order_is : (j : ℕ) → j < length s.order → get_or order j 0 ≡ get_or s.order j 0
  pub phases-are : (x : ℕ) → x < count p → get_or phases x 0 ≡ phase_of s x
  pub ranks-are : (x : ℕ) → x < count p → get_or ranks x 0 ≡ rank s.order x
  pub all-put : length s.order ≡ count p

-- The answer is the definition's refusal, or the tables of the program read.
unfoldable pub ProgramReads : Outcome Program → List ℕ → Result Tables Fault → Type 0
ProgramReads (accepted p) reads r = (t : Tables) × (r ≡ Ok t) × TablesOf p t × ReadsOf p reads t.firsts
ProgramReads (refused f) reads r = r ≡ Err f

-- The answer of a function that fills what is lent, with what it then holds.
abbrev pub filled : {A : Type 0} → A → Result (Unit {0}) Fault → Result A Fault
filled a (Ok done) = Ok a
filled a (Err f) = Err f
