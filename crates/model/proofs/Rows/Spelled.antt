-- The rows of an accepted text, by the offsets of their commands. Assumes nothing.
use Prim.Native.Nat.{ℕ, suc, ◌+◌, ◌≤◌, ◌<◌}
use mathlib.Core.List.{List, [], ◌∷◌}
use mathlib.Core.Path.{◌≡◌, refl, ap, ap₂, ◌∙◌}
use native.Mathlib.Omega.{arith}
use lib.ListN.{length, get_or}
use Rattle.model.specs.Rules.Program.{Program}
use Rattle.model.specs.Rules.Search.{table_from, table}
use Rattle.model.specs.Rules.Table.{no_row, row_at, row_from}
use Rattle.model.specs.Rules.Width.{in_program}
use Rattle.model.proofs.Texts.Commands.{declaration-sound}
use Rattle.model.proofs.Texts.Legal.{Legal, row-spelled}

-- A table of all elements of a list.
pub table-from : {A : Type 0} (i : ℕ) (xs : List A) (f : ℕ → A) (d : A) → ((n : ℕ) → n < length xs → f (i + n) ≡ get_or xs n d) →
    table_from i (length xs) f ≡ xs
unfolding table_from
table-from i [] f d h = refl
table-from i (x ∷ xs) f d h =
    let e : i ≡ i + 0 = omega arith in
    ap₂ ◌∷◌ (ap f e ∙ h 0 (omega arith))
    (table-from (suc i) xs f d (λ n l. let g : suc i + n ≡ i + suc n = omega arith in ap f g ∙ h (suc n) (omega arith)))

module _ {text : List ℕ} {end : ℕ} {p : Program} (l : Legal text end p) (offsets : List ℕ)
    (stand : (n : ℕ) → n < length p.rows → get_or offsets n 0 ≡ (row_at p.rows n).place)
  where
    pub rows_inside : (n : ℕ) → n < length p.rows → get_or offsets n 0 + in_program 0x16 ≤ length text
    rows_inside n lt =
        rw (stand n lt) (declaration-sound text (row_at p.rows n).place _ (row-spelled l n lt)).4

    row-is : (n : ℕ) → n < length p.rows → row_from text (get_or offsets n 0) (get_or offsets n 0 + 1) ≡ row_at p.rows n
    row-is n lt =
        let at = (row_at p.rows n).place in
        let h = declaration-sound text at _ (row-spelled l n lt) in
        let a : at + 1 + 4 ≡ at + 5 = omega arith in
        let b : at + 1 + 8 ≡ at + 9 = omega arith in
        rw (stand n lt, a, b)
        (rw (← h.0, ← h.1, ← h.2) refl)

    pub rows-spelled : table (length p.rows) (λ n. row_from text (get_or offsets n 0) (get_or offsets n 0 + 1)) ≡ p.rows
    unfolding table
    rows-spelled = table-from 0 p.rows _ no_row (λ n lt. let e : 0 + n ≡ n = omega arith in rw e (row-is n lt))
