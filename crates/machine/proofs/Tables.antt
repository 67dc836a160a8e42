-- The table of an image as a stretch of it: the same rows. Assumes nothing.
use Prim.Native.Nat.{ℕ, ◌+◌, ◌*◌, ◌≤◌, ◌<◌}
use mathlib.Core.Bool.{true}
use mathlib.Core.List.{List}
use mathlib.Core.Path.{◌≡◌, refl, sym, ap, ◌∙◌}
use native.Mathlib.Omega.{arith}
use borrow.Author.Tests.{le-leb}
use lib.Dec.{leb}
use lib.ListN.{length}
use lib.Seq.{ext_get_or}
use Rattle.model.specs.Rules.Cover.{area_ok}
use Rattle.model.specs.Rules.Machine.{stretch, table_offset, row_count, rows_in, well_formed}
use Rattle.model.specs.Rules.Table.{no_row, row_from, rows_from, area_rows}
use Rattle.model.specs.Rules.Word.{byte_at, four_at, word_at}
use Rattle.model.proofs.Basics.Tests.{both}
use Rattle.model.proofs.Rows.Area.{rows-length, rows_at}
use Rattle.image_valid.proofs.Parts.{AreaPart, area, table, formed, stretch-length, stretch-at}
use Rattle.machine.specs.Runnable.{table_in}

module _ (image : List ℕ) (at : ℕ) (good : area_ok image at ≡ true) where
  abbrev count : ℕ
  count = byte_at image at

  abbrev end : ℕ
  end = at + 1 + 12 * count

  abbrev part : List ℕ
  part = stretch image at end

  inside : AreaPart image at
  inside = area image at good

  byte-of : (k : ℕ) → k < 1 + 12 * count → byte_at part k ≡ byte_at image (at + k)
  byte-of k lt = stretch-at image at end k (omega arith)

  word-of : (i : ℕ) → i + 4 ≤ 1 + 12 * count → word_at part i ≡ word_at image (at + i)
  unfolding word_at four_at
  word-of i le =
      let a : at + (i + 1) ≡ at + i + 1 = omega arith in
      let b : at + (i + 2) ≡ at + i + 2 = omega arith in
      let c : at + (i + 3) ≡ at + i + 3 = omega arith in
      rw (
        byte-of i (omega arith),
        byte-of (i + 1) (omega arith),
        byte-of (i + 2) (omega arith),
        byte-of (i + 3) (omega arith),
        a,
        b,
        c,
      )

  row_of : (n : ℕ) → n < count → row_from part 0 (0 + 1 + 12 * n) ≡ row_from image 0 (at + 1 + 12 * n)
  row_of n lt =
      let i = 0 + 1 + 12 * n in
      let a : at + i ≡ at + 1 + 12 * n = omega arith in
      let b : at + (i + 4) ≡ at + 1 + 12 * n + 4 = omega arith in
      let c : at + (i + 8) ≡ at + 1 + 12 * n + 8 = omega arith in
      rw (word-of i (omega arith), word-of (i + 4) (omega arith), word-of (i + 8) (omega arith), a, b, c) refl

  count_of : byte_at part 0 ≡ count
  count_of = let e : at + 0 ≡ at = omega arith in byte-of 0 (omega arith) ∙ ap (byte_at image) e

  pub part-rows : area_rows part 0 ≡ area_rows image at
  unfolding area_rows
  part-rows =
      ap (rows_from part (0 + 1)) count_of ∙
      ext_get_or no_row (rows_from part (0 + 1) count) (rows_from image (at + 1) count)
      (rows-length part (0 + 1) count ∙ sym (rows-length image (at + 1) count))
      (λ n lt.
      let l : n < count = omega (arith, rows-length part (0 + 1) count) in
      rows_at part (0 + 1) count n l ∙ row_of n l ∙ sym (rows_at image (at + 1) count n l))

  pub part-good : area_ok part 0 ≡ true
  unfolding area_ok
  part-good =
      let h = inside in
      let size : length part ≡ 1 + 12 * count = stretch-length image at end h.within ∙ omega arith in
      let p = both (leb (at + 1) (length image)) _ good in
      let q = both (leb count 32) _ p.1 in
      let r = both (leb end (length image)) _ q.1 in
      rw (
        count_of,
        part-rows,
        size,
        le-leb (0 + 1) (1 + 12 * count) (omega arith),
        le-leb count 32 h.few,
        le-leb (0 + 1 + 12 * count) (1 + 12 * count) (omega arith),
      ) r.1

-- The table of a well-formed image.
pub record Served (image part : List ℕ) : Type 0 where
  pub good : area_ok part 0 ≡ true
  pub counted : byte_at part 0 ≡ row_count image
  pub rows : area_rows part 0 ≡ rows_in image

pub served : (image part : List ℕ) → well_formed image ≡ true → part ≡ table_in image → Served image part
unfolding table_in
served image part f e =
    let t = table image (formed image f).tabled in
    let same : part ≡ stretch image (table_offset image) (table_offset image + 1 + 12 * row_count image) =
    e ∙ ap (stretch image (table_offset image)) t.code in
    rw same
    (record {
      good = part-good image (table_offset image) t.good;
      counted = count_of image (table_offset image) t.good;
      rows = part-rows image (table_offset image) t.good;
    })
