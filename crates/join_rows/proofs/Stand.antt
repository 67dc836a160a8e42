-- The rows of a join stand in the text of the part that has them. Assumes nothing.
use Prim.Native.Nat.{ℕ, zero, suc, ◌+◌, ◌*◌, ◌≤◌, ◌<◌}
use mathlib.Core.List.{List, [], ◌∷◌}
use mathlib.Core.Path.{◌≡◌, refl, sym, ap, subst, ◌∙◌}
use native.Mathlib.Omega.{arith}
use lib.ListN.{length, get_or}
use Rattle.model.specs.Rules.Cover.{tabled}
use Rattle.model.specs.Rules.Join.{parts_in, texts_at, program_text}
use Rattle.model.specs.Rules.Outcome.{accepted}
use Rattle.model.specs.Rules.Parts.{Part, joined_parts}
use Rattle.model.specs.Rules.Program.{Program, parse_program}
use Rattle.model.specs.Rules.Search.{table_from, table}
use Rattle.model.specs.Rules.Table.{Row, row_at, by_low, table_bytes}
use Rattle.model.specs.Says.Rows.{AllUpright, Covers}
use Rattle.model.proofs.Pairs.Verdict.{pair-passed, tabled-covering}
use Rattle.model.proofs.Rows.Area.{sorted-bytes}
use Rattle.model.proofs.Rows.Decided.{judged-covers}
use Rattle.model.proofs.Rows.Spelled.{rows_inside, rows-spelled}
use Rattle.model.proofs.Texts.Legal.{legal, row-upright}
use Rattle.rows.specs.Rows.{text_rows, Placed}
use Rattle.join_gather.specs.Rows.{RowsOf}
use Rattle.join_gather.specs.declared.Table.{Table}
use Rattle.join_gather.proofs.Each.{parts-count, part_of}
use Rattle.join_rows.specs.Rows.{RowsReady, rows_by}

-- Rows as the writer wants them.
pub record RowsStand (text offsets : List ℕ) (count : ℕ) (rows : List Row) : Type 0 where
  pub rows_are : text_rows text offsets count ≡ rows
  pub placed : Placed text offsets count
  pub upright : AllUpright (text_rows text offsets count)
  pub covers : 0 < count → Covers (text_rows text offsets count)

text-stands : (text : List ℕ) (p : Program) → parse_program text ≡ accepted p → tabled p ≡ accepted tt → (offsets : List ℕ) →
    ((n : ℕ) → n < length p.rows → get_or offsets n 0 ≡ (row_at p.rows n).place) → (count : ℕ) → length p.rows ≡ count →
    RowsStand text offsets count p.rows
unfolding text_rows
text-stands text p e t offsets stand count n =
    let l = (legal text p e).1 in
    let up : AllUpright p.rows = λ k lt. row-upright l k lt in
    let is : text_rows text offsets count ≡ p.rows = rw (← n) (rows-spelled l offsets stand) in
    record {
      rows_are = is;
      placed = (omega (arith, l.few_rows), λ k lt. rows_inside l offsets stand k (omega arith));
      upright = subst AllUpright (sym is) up;
      covers = λ some. subst Covers (sym is) (judged-covers p.rows up (tabled-covering p t (omega arith)));
    }

module _ (texts numbers : List ℕ) (t : Table) (q : RowsReady texts numbers t) where
  abbrev rows : List Row
  rows = (joined_parts q.parts).program.rows

  rows_of : RowsOf q.parts rows t
  rows_of = q.table.one q.one

  pub part-inside : 0 < t.rows → t.part < parts_in numbers
  part-inside some =
      omega (arith, rows_of.inside some, parts-count texts numbers (parts_in numbers) 0 q.parts q.checked)

  pub part-stands : 0 < t.rows → RowsStand (program_text texts (texts_at numbers t.part)) t.offsets t.rows rows
  part-stands some =
      let r = part_of texts numbers q.parts q.checked t.part (rows_of.inside some) in
      let passed = pair-passed _ _ r.pair r.checked in
      let same : r.pair.program.rows ≡ rows =
      ap (λ (a : Part). a.program.rows) (sym r.is) ∙ rows_of.rows_are some in
      subst (RowsStand (program_text texts (texts_at numbers t.part)) t.offsets t.rows) same
      (text-stands (program_text texts (texts_at numbers t.part)) r.pair.program passed.parses passed.tables
      t.offsets
      (λ n lt.
      subst (λ (l : List Row). n < length l → get_or t.offsets n 0 ≡ (row_at l n).place) (sym same) (rows_of.offsets n) lt)
      t.rows (ap (λ (l : List Row). length l) same ∙ rows_of.counted))

  -- Where there are none.
  pub none-stand : t.rows ≡ 0 → (text : List ℕ) → RowsStand text t.offsets 0 rows
  unfolding text_rows table table_from
  none-stand none text =
      record {
        rows_are = sym (empty rows (rows_of.counted ∙ none));
        placed = (omega arith, λ n lt. absurd (omega arith));
        upright = λ n lt. absurd (omega arith);
        covers = λ some. absurd (omega arith);
      }
    where
      empty : (l : List Row) → length l ≡ 0 → l ≡ []
      empty [] e = refl
      empty (r ∷ l) e = absurd (omega arith)

  -- Their bytes are those of the joined rows.
  pub rows-by : rows_by texts numbers t ≡ table_bytes (by_low rows)
  unfolding rows_by
  rows-by = go t.rows refl
    where
      text : List ℕ
      text = program_text texts (texts_at numbers t.part)

      bytes : List Row → List ℕ
      bytes l = table_bytes (by_low l)

      go : (n : ℕ) → t.rows ≡ n → bytes (text_rows text t.offsets t.rows) ≡ bytes rows
      go zero e = ap (λ (n : ℕ). bytes (text_rows text t.offsets n)) e ∙ ap bytes (none-stand e text).rows_are
      go (suc n) e = ap bytes (part-stands (omega arith)).rows_are

  pub bytes-are : (text : List ℕ) (count : ℕ) → RowsStand text t.offsets count rows →
      table_bytes (by_low (text_rows text t.offsets count)) ≡ rows_by texts numbers t
  bytes-are text count s = ap (λ (l : List Row). table_bytes (by_low l)) s.rows_are ∙ sym rows-by

  pub bytes-long : length (rows_by texts numbers t) ≡ 1 + 12 * t.rows
  bytes-long = ap length rows-by ∙ omega (arith, sorted-bytes rows, rows_of.counted)

  pub few-rows : t.rows ≤ 32
  few-rows = go t.rows refl
    where
      go : (n : ℕ) → t.rows ≡ n → t.rows ≤ 32
      go zero e = omega arith
      go (suc n) e = (part-stands (omega arith)).placed.0
