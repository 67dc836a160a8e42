-- By joined number the signal that a linked IN reads.
use Rattle.std.specs.Prelude.{Option, Some, None, ℕ, ◌*◌, ◌/◌, ◌<◌, cond, List, [], ◌∷◌, ◌≡◌, eqb, length, get_or}
use Rattle.model.specs.Rules.Parts.{Wire}
use Rattle.model.specs.Rules.Search.{table}
use Rattle.join_check.specs.Met.{reader_at, source_at, LinkInside}

-- The signal that x reads by the first link that has it as its IN, where there is one.
unfoldable pub source_of : List Wire → ℕ → Option ℕ
source_of [] x = None
source_of (l ∷ ls) x = cond (eqb l.input x) (Some l.signal) (source_of ls x)

-- The links by joined numbers, the parts' signals starting at `bases`.
module _ (links bases : List ℕ) where
  abbrev pub wire_by : ℕ → Wire
  wire_by i = record { place = i; input = reader_at links (4 * i) bases; signal = source_at links (4 * i) bases }

  abbrev pub wires_by : List Wire
  wires_by = table (length links / 4) wire_by

  -- Each names two of 64 signals.
  abbrev pub WiresInside : Type 0
  WiresInside = (i : ℕ) → i < length links / 4 → LinkInside links (4 * i) bases

-- The table of the sources.
abbrev pub SourcesBy : List Wire → List (Option ℕ) → Type 0
SourcesBy wires sources = (x : ℕ) → x < 64 → get_or sources x None ≡ source_of wires x
