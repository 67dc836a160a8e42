-- The lists, rows and codes that the definitions take out of an image are those that its bytes say. Assumes nothing.
use Prim.Native.Nat.{ℕ, ◌+◌, ◌-◌, ◌*◌, ◌≤◌, ◌<◌}
use mathlib.Core.Bool.{Bool, true, false, cond}
use mathlib.Core.List.{List, ◌++◌}
use mathlib.Core.Path.{◌≡◌, refl, sym, ap, ◌∙◌}
use native.Mathlib.Omega.{arith}
use borrow.Author.Tests.{ltb-true, ltb-false, lt-ltb, le-ltb}
use lib.Dec.{ltb}
use lib.ListN.{length, take, drop, take-append-drop, length-append, length-take, length-drop}
use lib.Seq.{length-take-le, take_at, drop_at}
use Rattle.model.specs.Rules.Machine.{stretch, count_of, list_offset, table_offset, code_offset, list_of, code_of}
use Rattle.model.specs.Rules.Table.{area_rows}
use Rattle.model.specs.Rules.Word.{byte_at, two_at}
use Rattle.theorems_images.specs.Stretches.{IsStretch, IsList, RowsStand, CodeStarts, IsCode}
use Rattle.model.proofs.Rows.Area.{rows-length, rows_at}

module _ {image : List ℕ} where
  stretch-is : (from to : ℕ) → from ≤ to → to ≤ length image → IsStretch image from to (stretch image from to)
  stretch-is from to le inside =
      record {
        before = take from image;
        after = drop (to - from) (drop from image);
        whole =
            sym (ap (λ l. take from image ++ l) (take-append-drop (to - from) (drop from image)) ∙ take-append-drop from image);
        starts = length-take-le from image (omega arith);
        ends = simp (length-take, length-drop) (omega arith);
      }

  is-stretch : {from to : ℕ} {bytes : List ℕ} → IsStretch image from to bytes → stretch image from to ≡ bytes
  is-stretch {from} {to} {bytes} s =
      ap (λ l. take (to - from) (drop from l)) s.whole ∙
      ap (take (to - from)) (drop_at s.before (bytes ++ s.after) from s.starts) ∙
      take_at bytes s.after (to - from) (omega (arith, s.ends))

  pub stretch-inside : {from to : ℕ} {bytes : List ℕ} → IsStretch image from to bytes → (from ≤ to) × (to ≤ length image)
  stretch-inside s = (
    omega (arith, s.ends),
    omega (arith, s.starts, s.ends, simp length-append at (ap length s.whole)),
  )

  -- Where codes start.
  pub code-starts : (x : ℕ) → x ≤ count_of image → CodeStarts image x (code_offset image x)
  unfolding code_offset
  code-starts x le = go (ltb x (count_of image)) refl
    where
      go : (t : Bool) → ltb x (count_of image) ≡ t → CodeStarts image x (cond t (two_at image (8 + 6 * x)) (length image))
      go true e = CodeStarts.signal (ltb-true x (count_of image) e) refl
      go false e = CodeStarts.none (omega (arith, ltb-false x (count_of image) e)) refl

  pub starts-code : {x at : ℕ} → CodeStarts image x at → code_offset image x ≡ at
  unfolding code_offset
  starts-code {x} (CodeStarts.signal lt e) = rw (lt-ltb x (count_of image) lt) (sym e)
  starts-code {x} (CodeStarts.none e f) = rw (le-ltb x (count_of image) (omega arith)) (sym f)

  pub code_is : (x : ℕ) → x < count_of image → code_offset image x ≤ code_offset image (x + 1) →
      code_offset image (x + 1) ≤ length image → IsCode image x (code_of image x)
  unfolding code_of
  code_is x lt rises inside =
      record {
        from = code_offset image x;
        to = code_offset image (x + 1);
        starts = code-starts x (omega arith);
        ends = code-starts (x + 1) (omega arith);
        stretch = stretch-is _ _ rises inside;
      }

  pub is_code : {x : ℕ} {code : List ℕ} → IsCode image x code → code_of image x ≡ code
  unfolding code_of
  is_code c = rw (starts-code c.starts, starts-code c.ends) (is-stretch c.stretch)

  -- The lists.
  pub list-is : (c : ℕ) → list_offset image c ≤ list_offset image (c + 1) → list_offset image (c + 1) ≤ length image →
      IsList image c (list_of image c)
  unfolding list_of list_offset
  list-is c rises inside = stretch-is _ _ rises inside

  pub is-list : (c : ℕ) {bytes : List ℕ} → IsList image c bytes → list_of image c ≡ bytes
  unfolding list_of list_offset
  is-list c s = is-stretch s

-- The rows.
pub rows-stand : (image : List ℕ) → RowsStand image (table_offset image)
unfolding table_offset list_offset area_rows
rows-stand image =
    let start = table_offset image + 1 in
    let count = byte_at image (table_offset image) in
    let row = rows_at image start count in
    record {
      here = refl;
      many = rows-length image start count;
      low = λ n lt. ap (λ r. r.low) (row n lt);
      high = λ n lt. ap (λ r. r.high) (row n lt);
      result = λ n lt. ap (λ r. r.result) (row n lt);
    }
