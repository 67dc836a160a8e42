-- The rows of the parts, one part more. Assumes nothing.
use Prim.Native.Nat.{ℕ, ◌+◌, ◌<◌}
use mathlib.Core.List.{List, [], ◌∷◌, ◌++◌, append-nil}
use mathlib.Core.Path.{◌≡◌, sym, ap, subst, ◌∙◌}
use native.Mathlib.Omega.{arith}
use lib.ListN.{length, length-append, get_or-append}
use lib.Seq.{get_or-append-add}
use Rattle.model.specs.Rules.Parts.{Part, no_part, joined_parts, tabled_parts, part_at}
use Rattle.model.specs.Rules.Table.{Row}
use Rattle.text_program.specs.Tables.{TablesOf}
use Rattle.text_program.specs.declared.Tables.{Tables}
use Rattle.join_gather.specs.Rows.{NoTable, RowsOf, TableOf}
use Rattle.join_gather.specs.declared.Table.{Table}
use Rattle.model.proofs.Joining.Tabled.{rows_of, no_rows, some-tabled, not-tabled, tabled-last, rows_last, none-tabled}

part-kept : (parts : List Part) (a : Part) (k : ℕ) → k < length parts → part_at (parts ++ (a ∷ [])) k ≡ part_at parts k
part-kept parts a k lt = get_or-append parts (a ∷ []) no_part k lt

part-last : (parts : List Part) (a : Part) (k : ℕ) → length parts ≡ k → part_at (parts ++ (a ∷ [])) k ≡ a
part-last parts a k e =
    let z : k ≡ length parts + 0 = omega arith in
    ap (λ (n : ℕ). part_at (parts ++ (a ∷ [])) n) z ∙ get_or-append-add parts (a ∷ []) 0 no_part

length_last : (parts : List Part) (a : Part) → length (parts ++ (a ∷ [])) ≡ length parts + 1
length_last parts a = length-append parts (a ∷ [])

-- Before any part.
pub table_none : (t : Table) → NoTable t → TableOf [] t
unfolding tabled_parts joined_parts
table_none t n =
    record {
      tabled = n.no-parts;
      few = omega (arith, n.no-parts);
      one = λ le.
          record {
            counted = sym n.no_rows;
            offsets = λ m lt. absurd (omega arith);
            inside = λ some. absurd (omega (arith, n.no_rows));
            rows_are = λ some. absurd (omega (arith, n.no_rows));
          };
    }

-- A part without rows.
pub table_kept : (parts : List Part) (a : Part) (tables : Tables) (t : Table) → TablesOf a.program tables →
    tables.rows ≡ 0 → TableOf parts t → TableOf (parts ++ (a ∷ [])) t
table_kept parts a tables t of none old =
    record {
      tabled =
          omega (arith, old.tabled, tabled-last parts a, not-tabled (rows_of a) (omega (arith, empty)));
      few = omega (arith, old.few, length_last parts a);
      one = λ le. subst (λ (rows : List Row). RowsOf (parts ++ (a ∷ [])) rows t) (sym same) (more (old.one le));
    }
  where
    empty : length a.program.rows ≡ 0
    empty = omega (arith, of.counts.rows_are)

    same : (joined_parts (parts ++ (a ∷ []))).program.rows ≡ (joined_parts parts).program.rows
    same =
        rows_last parts a ∙
        ap (λ (rows : List Row). (joined_parts parts).program.rows ++ rows) (no_rows a.program.rows (omega (arith, empty))) ∙
        append-nil (joined_parts parts).program.rows

    more : RowsOf parts (joined_parts parts).program.rows t → RowsOf (parts ++ (a ∷ [])) (joined_parts parts).program.rows t
    more r =
        record {
          counted = r.counted;
          offsets = r.offsets;
          inside = λ some. omega (arith, r.inside some, length_last parts a);
          rows_are = λ some.
              ap (λ (b : Part). b.program.rows) (part-kept parts a t.part (r.inside some)) ∙ r.rows_are some;
        }

-- A part with rows.
pub table-next : (parts : List Part) (a : Part) (tables : Tables) (t : Table) → TablesOf a.program tables → 0 < tables.rows →
    TableOf parts t → (part : ℕ) → length parts ≡ part →
    TableOf (parts ++ (a ∷ []))
    (record { parts = t.parts + 1; part = part; rows = tables.rows; offsets = tables.offsets })
table-next parts a tables t of some old part e =
    record {
      tabled = omega (arith, old.tabled, tabled-last parts a, some-tabled (rows_of a) full);
      few = omega (arith, old.few, length_last parts a);
      one = λ le.
          subst (λ (rows : List Row).
          RowsOf (parts ++ (a ∷ [])) rows
          (record { parts = t.parts + 1; part = part; rows = tables.rows; offsets = tables.offsets }))
          (sym (same (omega (arith, old.tabled))))
          (record {
            counted = of.counts.rows_are;
            offsets = of.offsets;
            inside = λ l. omega (arith, length_last parts a);
            rows_are = λ l. ap (λ (b : Part). b.program.rows) (part-last parts a part e);
          });
    }
  where
    full : 0 < length a.program.rows
    full = omega (arith, of.counts.rows_are)

    same : tabled_parts parts ≡ 0 → (joined_parts (parts ++ (a ∷ []))).program.rows ≡ a.program.rows
    same none =
        rows_last parts a ∙ ap (λ (rows : List Row). rows ++ a.program.rows) (none-tabled parts none)
