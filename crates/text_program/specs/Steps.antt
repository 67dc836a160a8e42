-- What one step of the program reader says of the definition.
use Rattle.std.specs.Prelude.{Result, Ok, Err, is_none, ℕ, suc, ◌+◌, ◌*◌, ◌≤◌, ◌<◌, List, [], ◌≡◌, length}
use Rattle.model.specs.Rules.Image.{signal_code}
use Rattle.model.specs.Rules.Outcome.{accepted, refused}
use Rattle.model.specs.Rules.Program.{
  Program,
  Signal,
  Chain,
  count,
  is_unlimited,
  with_signal,
  with_chain,
  with_cap,
  with_row,
  parse_commands,
  body_reads,
  weight_of,
  body_lookups,
}
use Rattle.model.specs.Rules.Table.{Row}
use Rattle.model.specs.declared.Fault.{Fault}
use Rattle.text_program.specs.Walks.{places_of, Moves}
use Rattle.text_program.specs.declared.Entry.{Entry}
use Rattle.text_program.specs.declared.Step.{Step}
use Rattle.text_program.specs.declared.Tables.{Tables}
use Rattle.text_program.specs.declared.Walk.{Walk}

-- The tables tell how much the program has so far.
pub record Counts (p : Program) (t : Tables) : Type 0 where
  pub signals-are : count p ≡ t.signals
  pub chains-are : length p.chains ≡ t.chains
  pub rows_are : length p.rows ≡ t.rows
  pub cap-is : is_unlimited p.cap ≡ is_none t.cap

-- q is p with a signal that stands at `at` and takes this label, its reads at `places`, its code of so many bytes, with so many
-- TABLEs. The text goes on at `next`.
pub record AddsSignal (size : ℕ) (p : Program) (at label period weight : ℕ) (q : Program) (next : ℕ) (places : List ℕ)
    (code looked : ℕ)
    : Type 0 where
  pub signal : Signal
  pub stands : signal.place ≡ at
  pub labelled : signal.label ≡ label
  pub period-is : signal.period ≡ period
  pub weighs : weight_of signal.body ≡ weight
  pub reads-are : places_of (body_reads signal.body) ≡ places
  pub code_is : (x : ℕ) → length (signal_code x signal.body) ≡ code
  pub lookups-are : body_lookups signal.body ≡ looked
  pub room : count p < 64
  pub inside : next ≤ size
  pub is : q ≡ with_signal p signal

-- q is p with a chain of k LINKs that stands at `at`.
pub record AddsChain (p : Program) (at k : ℕ) (q : Program) : Type 0 where
  pub chain : Chain
  pub stands : chain.place ≡ at
  pub links-are : length chain.links ≡ k
  pub room : length p.chains < 16
  pub is : q ≡ with_chain p chain

-- q is p with a row that stands at `at`.
pub record AddsRow (p : Program) (at : ℕ) (q : Program) : Type 0 where
  pub row : Row
  pub stands : row.place ≡ at
  pub room : length p.rows < 32
  pub is : q ≡ with_row p row

-- q is p with an entry that stands at `at`, after a TAG's label.
unfoldable pub Adds : ℕ → Program → ℕ → ℕ → Entry → Program → ℕ → List ℕ → ℕ → ℕ → Type 0
Adds size p at label (Entry.Signal period weight) q next places code looked =
    AddsSignal size p at label period weight q next places code looked
Adds size p at label (Entry.Chain k) q next places code looked = AddsChain p at k q × (places ≡ []) × (code ≡ 0) × (looked ≡ 0)
Adds size p at label (Entry.Cap m) q next places code looked = (q ≡ with_cap p m) × (places ≡ []) × (code ≡ 0) × (looked ≡ 0)
Adds size p at label (Entry.Label given) q next places code looked = (q ≡ p) × (places ≡ []) × (code ≡ 0) × (looked ≡ 0)
Adds size p at label Entry.Row q next places code looked = AddsRow p at q × (places ≡ []) × (code ≡ 0) × (looked ≡ 0)

-- The label for the command after an entry.
abbrev pub label_after : Entry → ℕ
label_after (Entry.Signal period weight) = 0
label_after (Entry.Chain k) = 0
label_after (Entry.Cap m) = 0
label_after (Entry.Label given) = given
label_after Entry.Row = 0

-- The command at `at` adds an entry to p: what the definition goes on with, and what is kept of its reads and its code.
pub record Added (least : ℕ) (text : List ℕ) (at label : ℕ) (p : Program) (e : Entry) (l : List ℕ) (count to looks : ℕ)
    (l' : List ℕ) (w : Walk)
    : Type 0 where
  pub program : Program
  pub places : List ℕ
  pub code : ℕ
  pub looked : ℕ
  pub adds : Adds (length text) p at label e program w.at places code looked
  pub forward : at < w.at
  pub few : at + 2 * length places ≤ w.at
  pub small : at + code ≤ w.at
  pub rare : at + looked ≤ w.at
  pub moves : Moves w.at places code looked l count to looks l' w
  pub onward : (left : ℕ) →
      parse_commands least (suc left) text at label p ≡ parse_commands least left text w.at (label_after e) program

-- What the definition makes of the command at `at`, after what p has and a TAG's label.
unfoldable pub Stepped : ℕ → List ℕ → ℕ → ℕ → Program → List ℕ → ℕ → ℕ → ℕ → List ℕ → Result Step Fault → Type 0
Stepped least text at label p l count to looks l' (Ok (Step.Adds e w)) = Added least text at label p e l count to looks l' w
Stepped least text at label p l count to looks l' (Ok Step.End) =
    ((left : ℕ) → parse_commands least (suc left) text at label p ≡ accepted p) × (l' ≡ l)
Stepped least text at label p l count to looks l' (Err f) =
    (left : ℕ) → parse_commands least (suc left) text at label p ≡ refused f
