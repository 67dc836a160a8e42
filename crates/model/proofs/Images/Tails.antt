-- What is lent to a call: an image, with its tail or without. Assumes nothing.
use Prim.Native.Nat.{ℕ, zero, suc, ◌+◌, ◌*◌, ◌≤◌, ◌<◌}
use mathlib.Core.Bool.{Bool, true, false, ◌&&◌, ◌||◌}
use mathlib.Core.List.{List, [], append-nil}
use mathlib.Core.Logic.{◌⊎◌, inl, inr, ⊎_elim}
use mathlib.Core.Path.{◌≡◌, refl, sym, ap, ap₂, ◌∙◌}
use native.Mathlib.Omega.{arith}
use borrow.Author.Tests.{eqb-true, eq-eqb, leb-true}
use lib.Dec.{eqb, leb}
use lib.ListN.{length, get_or, take, drop, length-append, length-take, length-drop, take-append-drop, get_or-append}
use lib.Seq.{get_or-take, take_all, take-append_seam, drop-append_seam}
use Rattle.model.specs.Rules.Image.{joined, with_tail, image_of, tail_entry, tail_of, written_of, written_length}
use Rattle.model.specs.Rules.Machine.{
  count_of,
  stated_length,
  well_formed,
  image_part,
  length_ok,
  lent_ok,
  head_ok,
  lists_ok,
  table_ok,
  entries_ok,
  codes_ok,
}
use Rattle.model.specs.Rules.Program.{Program, count, signal_at}
use Rattle.model.specs.Rules.Schedule.{Schedule, phase_of}
use Rattle.model.specs.Rules.Search.{table, join_from}
use Rattle.model.specs.Rules.Tail.{Bears, Tells}
use Rattle.model.specs.Rules.Word.{byte_at, two_at, two_bytes}
use Rattle.model.proofs.Images.Stretches.{Stands, front, byte-from, two-at, part_at, parts_next, image-length, image-count}
use Rattle.model.proofs.Basics.Tests.{never, both}
use Rattle.model.proofs.Basics.Outcomes.{table-length, table_at}

-- The head of a well-formed image: four bytes at least, and L is its length.
pub record Headed (image : List ℕ) : Type 0 where
  pub four : 4 ≤ length image
  pub stated : stated_length image ≡ length image

pub headed : (image : List ℕ) → well_formed image ≡ true → Headed image
unfolding well_formed head_ok
headed image h = go (head_ok image) refl h
  where
    go : (b : Bool) → head_ok image ≡ b →
        elim b [
          | true ↦
              elim (lists_ok image) [
                | true ↦ elim (table_ok image) [ true ↦ entries_ok image && codes_ok image | false ↦ false ]
                | false ↦ false
              ]
          | false ↦ false
        ] ≡ true →
        Headed image
    go true e t =
        let a = (both (leb 4 (length image) && eqb (stated_length image) (length image)) _
        (both _ _ (both _ _ (both _ _ e).0).0).0).0 in
        let b = both (leb 4 (length image)) _ a in
        record { four = leb-true _ _ b.0; stated = eqb-true _ _ b.1 }
    go false e t = never t

-- L bytes that state L, in what bears them.
module _ {image tail lent : List ℕ} (head : Headed image) (bears : Bears image tail lent) where
  pub first-bytes : (i : ℕ) → i < 4 → byte_at lent i ≡ byte_at image i
  first-bytes i lt =
      ap (λ (l : List ℕ). byte_at l i) bears.whole ∙ get_or-append image tail 0 i (omega (arith, head.four))

  pub stated-here : stated_length lent ≡ length image
  unfolding two_at
  stated-here = ap₂ (λ (a b : ℕ). a + 256 * b) (first-bytes 2 (omega arith)) (first-bytes 3 (omega arith)) ∙ head.stated

  pub part-here : image_part lent ≡ image
  unfolding image_part
  part-here = ap₂ (λ (n : ℕ) (l : List ℕ). take n l) stated-here bears.whole ∙ take-append_seam image tail

-- A well-formed image in what bears it.
module _ {image tail lent : List ℕ} (formed : well_formed image ≡ true) (bears : Bears image tail lent) where
  pub stated-length : stated_length lent ≡ length image
  stated-length = stated-here (headed image formed) bears

  lent_length : length lent ≡ length image + length tail
  lent_length = ap length bears.whole ∙ length-append image tail

  pub part-is : image_part lent ≡ image
  part-is = part-here (headed image formed) bears

  pub tail-is : drop (stated_length lent) lent ≡ tail
  tail-is = ap₂ (λ (n : ℕ) (l : List ℕ). drop n l) stated-length bears.whole ∙ drop-append_seam image tail

  either : (a b : Bool) → (a ≡ true) ⊎ (b ≡ true) → (a || b) ≡ true
  either true b h = refl
  either false true h = refl
  either false false (inl e) = e
  either false false (inr e) = e

  pub lent-ok : lent_ok lent ≡ true
  unfolding lent_ok
  lent-ok =
      rw (part-is, formed)
      (rw (either (eqb (length lent) (stated_length lent)) (eqb (length lent) (with_tail (stated_length lent) (count_of lent)))
      (⊎_elim
      (λ (e : length tail ≡ 0). inl (eq-eqb (length lent) (stated_length lent) (omega (arith, lent_length, stated-length))))
      (λ (e : length tail ≡ 4 * count_of image).
      inr (eq-eqb (length lent) (with_tail (stated_length lent) (count_of lent))
      (omega (arith, lent_length, stated-length, first-bytes (headed image formed) bears 1 (omega arith)))))
      bears.size)))

-- An image bears itself, without a tail.
pub bears-itself : (image : List ℕ) → Bears image [] image
bears-itself image = record { whole = sym (append-nil image); size = inl refl }

-- What is accepted bears its first L bytes, which are well formed.
pub lent-formed : (lent : List ℕ) → lent_ok lent ≡ true → well_formed (image_part lent) ≡ true
unfolding lent_ok
lent-formed lent h = (both (length_ok lent) (well_formed (image_part lent)) h).1

pub lent-bears : (lent : List ℕ) → lent_ok lent ≡ true → Bears (image_part lent) (drop (stated_length lent) lent) lent
unfolding lent_ok image_part
lent-bears lent h =
    let l = stated_length lent in
    let p = both (length_ok lent) (well_formed (take l lent)) h in
    let four : 4 ≤ l = omega (arith, (headed (take l lent) p.1).four, length-take l lent) in
    record {
      whole = sym (take-append-drop l lent);
      size =
          go (get_or-take l lent 1 0 (omega arith)) (eqb (length lent) l) (eqb (length lent) (with_tail l (count_of lent))) refl refl
          p.0;
    }
  where
    go : count_of (take (stated_length lent) lent) ≡ count_of lent → (a b : Bool) → eqb (length lent) (stated_length lent) ≡ a →
        eqb (length lent) (with_tail (stated_length lent) (count_of lent)) ≡ b → (a || b) ≡ true →
        (length (drop (stated_length lent) lent) ≡ 0) ⊎
        (length (drop (stated_length lent) lent) ≡ 4 * count_of (take (stated_length lent) lent))
    go c true b e f t =
        inl (omega (arith, length-drop (stated_length lent) lent, eqb-true (length lent) (stated_length lent) e))
    go c false true e f t =
        let whole = eqb-true (length lent) (with_tail (stated_length lent) (count_of lent)) f in
        inr (omega (arith, length-drop (stated_length lent) lent, c))
    go c false false e f t = never t

-- Parts of four bytes each, joined.
four-parts : (xs : List (List ℕ)) → ((x : ℕ) → x < length xs → length (get_or xs x []) ≡ 4) → (x : ℕ) → x ≤ length xs →
    length (joined (take x xs)) ≡ 4 * x
unfolding join_from
four-parts xs fours zero le = omega arith
four-parts xs fours (suc x) le =
    omega (arith, parts_next xs x (omega arith), fours x (omega arith), four-parts xs fours x (omega arith))

-- The tail of a pair.
module _ (p : Program) (s : Schedule) where
  abbrev entry : ℕ → List ℕ
  entry x = tail_entry (signal_at p x).label (signal_at p x).period (phase_of s x)

  entry_here : (x : ℕ) → x < count p → get_or (table (count p) entry) x [] ≡ entry x
  entry_here x lt = table_at (count p) entry x [] lt

  fours : (x : ℕ) → x ≤ count p → length (joined (take x (table (count p) entry))) ≡ 4 * x
  unfolding two_bytes
  fours x le =
      let n = table-length (count p) entry in
      four-parts (table (count p) entry) (λ y lt. ap length (entry_here y (omega arith))) x (omega arith)

  pub tail-length : length (tail_of p s) ≡ 4 * count p
  unfolding tail_of
  tail-length =
      let n = table-length (count p) entry in
      ap (λ (l : List (List ℕ)). length (joined l)) (sym (take_all (count p) (table (count p) entry) (omega arith))) ∙
      fours (count p) (omega arith)

  entry-stands : (x : ℕ) → x < count p → Stands (tail_of p s) (4 * x) (entry x)
  unfolding tail_of
  entry-stands x lt =
      let n = table-length (count p) entry in
      rw (fours x (omega arith), entry_here x lt) at (part_at (table (count p) entry) x (omega arith))

  -- It tells the label, period and phase of each signal.
  pub tail-tells : (x : ℕ) → x < count p → (signal_at p x).label < 65536 → Tells (tail_of p s) x (signal_at p x) (phase_of s x)
  unfolding two_bytes
  tail-tells x lt small =
      let stands = entry-stands x lt in
      record {
        label_is = two-at (signal_at p x).label (omega arith) (front (two_bytes (signal_at p x).label) _ stands);
        period-is = byte-from 2 (omega arith) stands;
        phase-is = byte-from 3 (omega arith) stands;
      }

  -- What compile writes is the image of the pair, with this tail.
  module _ (h : ℕ) where
    pub written-bears : Bears (image_of p s h) (tail_of p s) (written_of p s h)
    unfolding written_of
    written-bears = record { whole = refl; size = inr (tail-length ∙ ap (λ (n : ℕ). 4 * n) (sym (image-count p s h))) }

    pub written-length : length (written_of p s h) ≡ written_length p s h
    written-length =
        ap length written-bears.whole ∙ length-append (image_of p s h) (tail_of p s) ∙
        omega (arith, tail-length, image-length p s h)
