-- The image of joined parts by their tables.
use Rattle.std.specs.Prelude.{Option, ℕ, ◌+◌, ◌≤◌, List, ◌∷◌, ◌++◌, ◌≡◌, length}
use Rattle.model.specs.Rules.Image.{joined, offsets, lists_at}
use Rattle.model.specs.Rules.Search.{table}
use Rattle.model.specs.Rules.Word.{two_bytes}
use Rattle.image_write.specs.Lists.{lists_by, pairs, HasPeriods, Phased}
use Rattle.image_write.specs.Layout.{LaidOutBy}
use Rattle.image_write.specs.declared.Layout.{Layout}
use Rattle.join_gather.specs.declared.Joint.{Joint}
use Rattle.join_gather.specs.declared.Table.{Table}
use Rattle.join_rows.specs.Rows.{RowsReady, rows_by}
use Rattle.join_emit.specs.Parts.{codes_of, records_of, PartsDeclared}

-- The tables of periods, order and phases are in order.
pub record JointTimed (t : Joint) (h : ℕ) : Type 0 where
  pub timed : HasPeriods t.periods t.order t.signals
  pub phased : Phased t.periods t.order t.phases t.signals
  pub hyper : h ≤ 240

-- The run lists of h cycles, and with the offsets at which they start, the first at `start`.
abbrev pub joint_lists : Joint → ℕ → List (List ℕ)
joint_lists t h = lists_by t.periods t.order t.phases t.signals h

abbrev pub joint_runs : Joint → ℕ → ℕ → List ℕ
joint_runs t h start = pairs (offsets start (joint_lists t h)) ++ joined (joint_lists t h)

-- The code of all parts, and their records, where the code starts at `code`.
abbrev pub joint_codes : List ℕ → List ℕ → Joint → List (Option ℕ) → List ℕ
joint_codes texts numbers t sources = joined (table t.parts (codes_of texts numbers t.bases sources))

abbrev pub joint_records_at : List ℕ → List ℕ → Joint → ℕ → List ℕ
joint_records_at texts numbers t code = joined (table t.parts (records_of texts numbers t.bases t.codes code))

module _ (texts numbers : List ℕ) (t : Joint) (tabled : Table) (sources : List (Option ℕ)) (h : ℕ) where
  abbrev pub joint_rows : List ℕ
  joint_rows = rows_by texts numbers tabled

  abbrev pub joint_codes_at : ℕ
  joint_codes_at = lists_at t.signals h + length (joined (joint_lists t h)) + length joint_rows

  abbrev pub joint_records : List ℕ
  joint_records = joint_records_at texts numbers t joint_codes_at

  -- Head, records, run lists with their offsets, rows, code.
  abbrev pub joint_image : List ℕ
  joint_image =
      (h ∷ t.signals ∷ two_bytes (joint_codes_at + length (joint_codes texts numbers t sources))) ++
      (joint_records ++ (joint_runs t h (lists_at t.signals h) ++ (joint_rows ++ joint_codes texts numbers t sources)))

  -- The tables are in order, the layout is that of the image, and n bytes have space for it.
  pub record JointFits (r : Layout) (n : ℕ) : Type 0 where
    pub times : JointTimed t h
    pub declared : PartsDeclared texts numbers t.bases t.places t.parts
    pub rows-ready : RowsReady texts numbers tabled
    pub laid_out : LaidOutBy t.periods t.order t.phases t.signals h (length (joint_codes texts numbers t sources)) tabled.rows r
    pub size : length joint_image ≡ r.end
    pub room : r.end ≤ n
