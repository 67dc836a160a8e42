-- The table of an area, as a loop over its rows decides it. Assumes nothing.
use mathlib.Core.Path.{◌≡◌, ap, ◌∙◌}
use mathlib.Core.Logic.{⊎_elim}
use mathlib.Core.Bool.{true, false}
use mathlib.Core.List.{List}
use Prim.Native.Nat.{ℕ, zero, suc, ◌+◌, ◌*◌, ◌≤◌, ◌<◌}
use native.Mathlib.Nat.{eq-or-lt_of_le}
use native.Mathlib.Omega.{arith}
use lib.IntN.{ℤ, pos}
use lib.ListN.{length}
use lib.Signed.{le_z}
use Rattle.model.specs.Rules.Word.{byte_at}
use Rattle.model.specs.Rules.Table.{Row, contains, table_word, row_at, row_from, area_rows}
use Rattle.model.specs.Says.Words.{IsWord}
use Rattle.model.proofs.Rows.Area.{rows-length, rows_at}
use Rattle.model.proofs.Rows.Decided.{rows-up}
use Rattle.model.proofs.Rows.Levels.{level, le-level, level-le}
use Rattle.model.proofs.Rows.Rule.{table-first, table_none}
use Rattle.model.proofs.Rows.Sorted.{InOrder, rising-chain}

-- In rows in order the highs rise.
highs-rise : (rows : List Row) → InOrder rows → (k i : ℕ) → k ≤ i → i < length rows →
    level (row_at rows k).high ≤ level (row_at rows i).high
highs-rise rows o k zero h l = let z : k ≡ 0 = omega arith in rw z (omega arith)
highs-rise rows o k (suc i) h l = ⊎_elim
    (λ (e : k ≡ suc i). rw e (omega arith))
    (λ (b : k < suc i). omega (
      arith,
      highs-rise rows o k i (omega arith) (omega arith),
      (rising-chain rows o.0 o.1 o.2).each (suc i) l,
      (rows-up rows o.0 (suc i) l).0,
    ))
    (eq-or-lt_of_le h)

-- a word that is not above one is not above a later one
pub later-high : (rows : List Row) → InOrder rows → (w : ℤ) → IsWord w → (k i : ℕ) → k ≤ i → i < length rows →
    le_z w (row_at rows k).high ≡ true → le_z w (row_at rows i).high ≡ true
later-high rows o w f k i h l e =
    level-le w (row_at rows i).high f (o.0 i l).high_word
    (omega (arith, le-level w (row_at rows k).high f (o.0 k (omega arith)).high_word e, highs-rise rows o k i h l))

-- row k of an area
abbrev pub row : List ℕ → ℕ → Row
row area k = row_from area 0 (1 + 12 * k)

pub at_row : (area : List ℕ) (k : ℕ) → k < byte_at area 0 → row_at (area_rows area 0) k ≡ row area k
unfolding area_rows
at_row area k l = rows_at area (0 + 1) (byte_at area 0) k l

pub all-rows : (area : List ℕ) → length (area_rows area 0) ≡ byte_at area 0
unfolding area_rows
all-rows area = rows-length area (0 + 1) (byte_at area 0)

pub hit : (area : List ℕ) (w : ℤ) (i : ℕ) → i < byte_at area 0 → ((k : ℕ) → k < i → contains (row area k) w ≡ false) → contains
    (row area i) w ≡ true
    → table_word (area_rows area 0) w ≡ (row area i).result
hit area w i l h e =
    table-first (area_rows area 0) w i (rw (all-rows area) l) (λ k b. rw (at_row area k (omega arith)) (h k b))
    (rw (at_row area i l) e)
    ∙ ap (λ r. r.result) (at_row area i l)

pub miss : (area : List ℕ) (w : ℤ) → ((k : ℕ) → k < byte_at area 0 → contains (row area k) w ≡ false) → table_word
    (area_rows area 0) w ≡ pos 0
miss area w h =
    table_none (area_rows area 0) w (λ k b. let l : k < byte_at area 0 = rw (all-rows area) at b in rw (at_row area k l) (h k l))
