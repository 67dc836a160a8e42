-- The parts of a well-formed image. Assumes nothing.
use mathlib.Core.Path.{◌≡◌, refl, sym, ap, ap₂, ◌∙◌}
use mathlib.Core.Logic.{⊎_elim}
use mathlib.Core.Bool.{Bool, true, false, ◌&&◌}
use mathlib.Core.List.{List}
use Prim.Native.Nat.{ℕ, zero, suc, ◌+◌, ◌-◌, ◌*◌, ◌≤◌, ◌<◌}
use native.Mathlib.Nat.{le_refl, le_trans, eq-or-lt_of_le, le_of_suc-le-suc}
use native.Mathlib.Numerals.{add-one}
use native.Mathlib.Omega.{arith}
use borrow.Author.Tests.{leb-true, ltb-true, eqb-true, eqb-false, le-ltb}
use lib.Dec.{leb, ltb, eqb}
use lib.ListN.{length, drop, length-take, length-drop}
use lib.Seq.{get_or-take, get_or-drop}
use Rattle.model.specs.Rules.Cover.{area_ok}
use Rattle.model.specs.Rules.Image.{lists_at}
use Rattle.model.specs.Rules.Machine.{
  stretch,
  hyper_of,
  count_of,
  list_offset,
  table_offset,
  row_count,
  code_offset,
  list_of,
  code_of,
  code_ok,
  head_ok,
  lists_ok,
  table_ok,
  entries_ok,
  codes_ok,
  well_formed,
}
use Rattle.model.specs.Rules.Search.{all_below}
use Rattle.model.specs.Rules.Word.{byte_at, two_at}
use Rattle.model.proofs.Pairs.Decide.{all_true, all_none, all-fails}
use Rattle.image_valid.proofs.All.{all_same}
use Rattle.model.proofs.Basics.Tests.{never, by, both}

pub record Head (image : List ℕ) : Type 0 where
  pub four : 4 ≤ length image
  pub some : 1 ≤ hyper_of image
  pub hyper : hyper_of image ≤ 240
  pub signals : count_of image ≤ 64
  pub fixed : lists_at (count_of image) (hyper_of image) ≤ length image

pub head : (image : List ℕ) → head_ok image ≡ true → Head image
unfolding head_ok
head image h =
    let f = both (leb 4 (length image) && eqb (two_at image 2) (length image) && leb 1 (hyper_of image) && leb (hyper_of image) 240
    && leb (count_of image) 64) _ h in
    let e = both (leb 4 (length image) && eqb (two_at image 2) (length image) && leb 1 (hyper_of image) && leb (hyper_of image) 240)
    _ f.0 in
    let d = both (leb 4 (length image) && eqb (two_at image 2) (length image) && leb 1 (hyper_of image)) _ e.0 in
    let c = both (leb 4 (length image) && eqb (two_at image 2) (length image)) _ d.0 in
    let a = both (leb 4 (length image)) _ c.0 in
    record {
      four = leb-true _ _ a.0;
      some = leb-true _ _ c.1;
      hyper = leb-true _ _ d.1;
      signals = leb-true _ _ e.1;
      fixed = leb-true _ _ f.1;
    }

-- a sequence that does not fall below h
abbrev Rises : (ℕ → ℕ) → ℕ → Type 0
Rises f h = (c : ℕ) → c < h → f c ≤ f (c + 1)

module _ (f : ℕ → ℕ) where
  rises : (h : ℕ) → Rises f h → (c : ℕ) → c ≤ h → f c ≤ f h
  rises zero r zero l = le_refl (f 0)
  rises zero r (suc c) l = let z : ⊥ = omega (arith, l) in absurd z
  rises (suc h) r c l =
      ⊎_elim (λ (e : c ≡ suc h). rw e (le_refl (f (suc h))))
      (λ m. le_trans (rises h (λ d n. r d (omega arith)) c (le_of_suc-le-suc m)) (rw add-one at (r h (le_refl (suc h)))))
      (eq-or-lt_of_le l)

pub record Lists (image : List ℕ) : Type 0 where
  pub start : list_offset image 0 ≡ lists_at (count_of image) (hyper_of image)
  pub rising : Rises (list_offset image) (hyper_of image)
  pub end : table_offset image ≤ length image

pub lists : (image : List ℕ) → lists_ok image ≡ true → Lists image
unfolding lists_ok
lists image h =
    let up : Bool = all_below (hyper_of image) (λ c. leb (list_offset image c) (list_offset image (c + 1))) in
    let b = both (eqb (list_offset image 0) (lists_at (count_of image) (hyper_of image)) && up) _ h in
    let a = both (eqb (list_offset image 0) (lists_at (count_of image) (hyper_of image))) up b.0 in
    record {
      start = eqb-true _ _ a.0;
      rising = λ k l. leb-true _ _ (all_true (hyper_of image) _ a.1 k l);
      end = leb-true _ _ b.1;
    }

module _ (image : List ℕ) (l : Lists image) where
  -- every list lies between the offsets and the table
  pub from_start : (c : ℕ) → c ≤ hyper_of image → lists_at (count_of image) (hyper_of image) ≤ list_offset image c
  from_start c h = rw (← l.start) (rises (list_offset image) c (λ k m. l.rising k (omega arith)) 0 (omega arith))

  pub to-table : (c : ℕ) → c ≤ hyper_of image → list_offset image c ≤ table_offset image
  unfolding table_offset
  to-table c h = rises (list_offset image) (hyper_of image) l.rising c h

  pub inside : (c : ℕ) → c ≤ hyper_of image → list_offset image c ≤ length image
  inside c h = le_trans (to-table c h) l.end

  pub room : lists_at (count_of image) (hyper_of image) ≤ table_offset image
  room = le_trans (from_start 0 (omega arith)) (to-table 0 (omega arith))

  -- the entries of a list
  pub entries : entries_ok image ≡ true → (c : ℕ) → c < hyper_of image → (k : ℕ) → k < length (list_of image c) →
      byte_at (list_of image c) k < count_of image
  unfolding entries_ok list_of
  entries e c h k m =
      let a = list_offset image c in
      let b = list_offset image (c + 1) in
      let s = lists_at (count_of image) (hyper_of image) in
      let low = from_start c (omega arith) in
      let high = to-table (c + 1) (omega arith) in
      let in_list : k < b - a = omega (arith, simp (length-take, length-drop) at m) in
      let here : byte_at image (s + (a - s + k)) < count_of image =
      ltb-true _ _ (all_true (table_offset image - s) _ e (a - s + k) (omega arith)) in
      let same : s + (a - s + k) ≡ a + k = omega arith in
      rw (get_or-take (b - a) (drop a image) k 0 in_list, get_or-drop a image k 0) (rw same at here)

-- a stretch of an image
pub stretch-length : (image : List ℕ) (from to : ℕ) → to ≤ length image → length (stretch image from to) ≡ to - from
stretch-length image from to h = simp (length-take, length-drop) (omega arith)

pub stretch-at : (image : List ℕ) (from to k : ℕ) → k < to - from → byte_at (stretch image from to) k ≡ byte_at image (from + k)
stretch-at image from to k h = get_or-take (to - from) (drop from image) k 0 h ∙ get_or-drop from image k 0

-- the test of the entries, on the stretch of all lists
pub entries_by : (image : List ℕ) → Lists image → (n from to : ℕ) → n ≡ count_of image →
    from ≡ lists_at (count_of image) (hyper_of image) → to ≡ table_offset image
    → all_below (length (stretch image from to)) (λ i. ltb (byte_at (stretch image from to) i) n) ≡ entries_ok image
unfolding entries_ok
entries_by image l n from to p q r =
    let inside-image : to ≤ length image = rw r l.end in
    ap (λ (k : ℕ). all_below k (λ i. ltb (byte_at (stretch image from to) i) n)) (stretch-length image from to inside-image)
    ∙ all_same (to - from) _ _ (λ k m. ap (λ (b : ℕ). ltb b n) (stretch-at image from to k m))
    ∙ rw (p, q, r)

-- without a signal there may be no entry
pub entries_none : (image : List ℕ) → Lists image → count_of image ≡ 0
    → eqb (lists_at (count_of image) (hyper_of image)) (table_offset image) ≡ entries_ok image
unfolding entries_ok
entries_none image l z =
    let s = lists_at (count_of image) (hyper_of image) in
    let e = table_offset image in
    let r = room image l in
    by (eqb s e)
    (λ t. let none : e - s ≡ 0 = omega (arith, eqb-true s e t) in
    t ∙ sym (ap (λ (k : ℕ). all_below k (λ i. ltb (byte_at image (s + i)) (count_of image))) none ∙ all_none _))
    (λ t. let some : 0 < e - s = omega (arith, eqb-false s e t) in
    t ∙ sym (all-fails (e - s) (λ i. ltb (byte_at image (s + i)) (count_of image)) 0 some
    (ap (ltb (byte_at image (s + 0))) z ∙ le-ltb (byte_at image (s + 0)) 0 (omega arith))))

-- the table
pub record TablePart (image : List ℕ) : Type 0 where
  pub good : area_ok image (table_offset image) ≡ true
  pub inside : table_offset image < length image
  pub few : row_count image ≤ 32
  pub within : table_offset image + 1 + 12 * row_count image ≤ length image
  pub code : code_offset image 0 ≡ table_offset image + 1 + 12 * row_count image

-- the area of a table, by its tests
pub record AreaPart (image : List ℕ) (at : ℕ) : Type 0 where
  pub inside : at < length image
  pub few : byte_at image at ≤ 32
  pub within : at + 1 + 12 * byte_at image at ≤ length image

pub area : (image : List ℕ) (at : ℕ) → area_ok image at ≡ true → AreaPart image at
unfolding area_ok
area image at h =
    let p = both (leb (at + 1) (length image)) _ h in
    let q = both (leb (byte_at image at) 32) _ p.1 in
    let r = both (leb (at + 1 + 12 * byte_at image at) (length image)) _ q.1 in
    record {
      inside = omega (arith, leb-true (at + 1) (length image) p.0);
      few = leb-true (byte_at image at) 32 q.0;
      within = leb-true (at + 1 + 12 * byte_at image at) (length image) r.0;
    }

pub table : (image : List ℕ) → table_ok image ≡ true → TablePart image
unfolding table_ok
table image h =
    let p = both (area_ok image (table_offset image)) _ h in
    let a = area image (table_offset image) p.0 in
    record { good = p.0; inside = a.inside; few = a.few; within = a.within; code = eqb-true _ _ p.1 }

-- the code of signal x
pub record CodePart (image : List ℕ) (x : ℕ) : Type 0 where
  pub ordered : code_offset image x ≤ code_offset image (x + 1)
  pub within : code_offset image (x + 1) ≤ length image
  pub formed : code_ok (ltb 0 (row_count image)) (code_of image x) (count_of image) x ≡ true

pub codes : (image : List ℕ) → codes_ok image ≡ true → (x : ℕ) → x < count_of image → CodePart image x
unfolding codes_ok
codes image h x l =
    let t = all_true (count_of image) _ h x l in
    let b = both (leb (code_offset image x) (code_offset image (x + 1)) && leb (code_offset image (x + 1)) (length image)) _ t in
    let a = both (leb (code_offset image x) (code_offset image (x + 1))) _ b.0 in
    record { ordered = leb-true _ _ a.0; within = leb-true _ _ a.1; formed = b.1 }

-- the parts together
pub record Formed (image : List ℕ) : Type 0 where
  pub good : head_ok image ≡ true
  pub listed : lists_ok image ≡ true
  pub tabled : table_ok image ≡ true
  pub entered : entries_ok image ≡ true
  pub coded : codes_ok image ≡ true

pub formed : (image : List ℕ) → well_formed image ≡ true → Formed image
unfolding well_formed
formed image h = go (head_ok image) (lists_ok image) (table_ok image) refl refl refl h
  where
    go : (a b c : Bool) → head_ok image ≡ a → lists_ok image ≡ b → table_ok image ≡ c
        → elim a [
          | true ↦ elim b [ true ↦ elim c [ true ↦ entries_ok image && codes_ok image | false ↦ false ] | false ↦ false ]
          | false ↦ false
        ] ≡ true →
        Formed image
    go true true true p q r t = let e = both (entries_ok image) (codes_ok image) t in
        record { good = p; listed = q; tabled = r; entered = e.0; coded = e.1 }
    go true true false p q r t = never t
    go true false c p q r t = never t
    go false b c p q r t = never t

-- the whole test, by its parts
module _ (image : List ℕ) where
  abbrev test : Bool → Bool → Bool → Bool
  test a b c =
      elim a [
        | true ↦ elim b [ true ↦ elim c [ true ↦ entries_ok image && codes_ok image | false ↦ false ] | false ↦ false ]
        | false ↦ false
      ]

  pub without-head : head_ok image ≡ false → well_formed image ≡ false
  unfolding well_formed
  without-head h = ap (λ (a : Bool). test a (lists_ok image) (table_ok image)) h

  module _ (h : head_ok image ≡ true) where
    pub without-lists : lists_ok image ≡ false → well_formed image ≡ false
    unfolding well_formed
    without-lists l = ap₂ (λ (a b : Bool). test a b (table_ok image)) h l

    pub without-table : lists_ok image ≡ true → table_ok image ≡ false → well_formed image ≡ false
    unfolding well_formed
    without-table l t = ap₂ (λ (a b : Bool). test a b (table_ok image)) h l ∙ ap (test true true) t

    pub with-table : lists_ok image ≡ true → table_ok image ≡ true → well_formed image ≡ (entries_ok image && codes_ok image)
    unfolding well_formed
    with-table l t = ap₂ (λ (a b : Bool). test a b (table_ok image)) h l ∙ ap (test true true) t
