-- The test of an image decides the paper's sentence on well-formed images. Assumes nothing.
use Prim.Native.Nat.{ℕ, zero, suc, ◌+◌, ◌-◌, ◌*◌, ◌≤◌, ◌<◌}
use mathlib.Core.Bool.{Bool, true, false, ◌&&◌, false≢true, and-eq-true_iff}
use mathlib.Core.List.{List}
use mathlib.Core.Logic.{◌↔◌, ◌⊎◌, inl, inr}
use mathlib.Core.Path.{◌≡◌, refl, sym, ap, subst}
use native.Mathlib.Decide.{dec_lt}
use native.Mathlib.Omega.{arith}
use borrow.Author.Tests.{leb-true, ltb-true, eqb-true, le-leb, lt-ltb, eq-eqb}
use lib.Dec.{leb, ltb}
use lib.ListN.{length}
use Rattle.theorems_images.specs.Height.{Changes}
use Rattle.model.specs.Rules.Image.{lists_at}
use Rattle.model.specs.Rules.Machine.{
  code_at,
  hyper_of,
  count_of,
  list_offset,
  table_offset,
  row_count,
  rows_in,
  is_served,
  code_offset,
  code_of,
  command_ok,
  code_ok_from,
  code_ok,
  head_ok,
  lists_ok,
  table_ok,
  entries_ok,
  codes_ok,
  well_formed,
}
use Rattle.model.specs.Rules.Table.{area_rows}
use Rattle.model.specs.Rules.Search.{all_below}
use Rattle.theorems_images.specs.Stretches.{CodeStarts}
use Rattle.theorems_images.specs.WellFormed.{Served, BeforeStore, FormedFrom, WellFormed}
use Rattle.model.specs.Rules.Word.{byte_at}
use Rattle.model.specs.Says.Rows.{AllUpright, Rising, Covers}
use Rattle.model.specs.Says.Written.{CodeWritten}
use Rattle.model.specs.declared.Code.{Code}
use Rattle.model.specs.declared.Code.TheVariants as Code
use Rattle.model.specs.declared.Unary.{Unary}
use Rattle.model.specs.declared.Unary.TheVariants.{Negate, Table}
use Rattle.theorems_images.proofs.Decoded.{written, decoded, inside}
use Rattle.theorems_images.proofs.Stretched.{stretch-inside, code-starts, starts-code, code_is, is_code}
use Rattle.model.proofs.Pairs.Decide.{all_true, true-all}
use Rattle.model.proofs.Rows.Area.{rows-length, area-true, true-area}
use Rattle.model.proofs.Rows.Sorted.{InOrder}

-- A test at another height, which is the same.
at-height : (next : ℕ → ℕ → Bool) {at height after : ℕ} → height ≡ after → next at height ≡ true → next at after ≡ true
at-height next {at} e t = subst (λ (k : ℕ). next at k ≡ true) e t

-- TABLE needs a row.
served-true : (rows : ℕ) (operator : Unary) → is_served (ltb 0 rows) operator ≡ true → Served rows operator
served-true rows Negate h = tt
served-true rows Table h = ltb-true 0 rows h

true-served : (rows : ℕ) (operator : Unary) → Served rows operator → is_served (ltb 0 rows) operator ≡ true
true-served rows Negate h = refl
true-served rows Table h = lt-ltb 0 rows h

-- One code.
module _ (rows n own : ℕ) (code : List ℕ) where
  abbrev From : ℕ → ℕ → Type 0
  From at height = FormedFrom rows n own code at height

  -- A command that passes, where what follows is formed.
  command-formed : (next : ℕ → ℕ → Bool) → ((a h : ℕ) → h ≤ 32 → next a h ≡ true → From a h) → (at height : ℕ) → height ≤ 32 →
      (c : Code) → code_at code at ≡ c → command_ok next (ltb 0 rows) (length code) n own at height c ≡ true → From at height
  unfolding command_ok
  command-formed next go at height le Code.EndsEarly e h = absurd (false≢true h)
  command-formed next go at height le Code.Unknown e h = absurd (false≢true h)
  command-formed next go at height le (Code.Push w) e h =
      let t = (and-eq-true_iff _ _).0 h in
      let room : suc height ≤ 32 = omega (arith, ltb-true height 32 t.0) in
      FormedFrom.onward (written e tt) tt Changes.push room (go _ _ room (at-height next (omega arith) t.1))
  command-formed next go at height le (Code.Load x) e h =
      let t = (and-eq-true_iff _ _).0 h in
      let u = (and-eq-true_iff _ _).0 t.0 in
      let room : suc height ≤ 32 = omega (arith, ltb-true height 32 u.1) in
      FormedFrom.onward (written e tt) (ltb-true x n u.0) Changes.load room (go _ _ room (at-height next (omega arith) t.1))
  command-formed next go at height le (Code.Fetch x) e h =
      let t = (and-eq-true_iff _ _).0 h in
      let u = (and-eq-true_iff _ _).0 t.0 in
      let room : suc height ≤ 32 = omega (arith, ltb-true height 32 u.1) in
      FormedFrom.onward (written e tt) (eqb-true x own u.0) Changes.fetch room
      (go _ _ room (at-height next (omega arith) t.1))
  command-formed next go at height le (Code.Store x) e h =
      let t = (and-eq-true_iff _ _).0 h in
      let u = (and-eq-true_iff _ _).0 t.0 in
      subst (λ (k : ℕ). From at k) (sym (eqb-true height 1 u.1))
      (FormedFrom.store (subst (λ (y : ℕ). CodeWritten code at (Code.Store y)) (eqb-true x own u.0) (written e tt))
      (eqb-true _ _ t.1))
  command-formed next go at zero le (Code.Binary operator) e h = absurd (false≢true h)
  command-formed next go at (suc zero) le (Code.Binary operator) e h = absurd (false≢true h)
  command-formed next go at (suc (suc k)) le (Code.Binary operator) e h =
      FormedFrom.onward (written e tt) tt (Changes.binary {height = k}) (omega arith)
      (go _ _ (omega arith) (at-height next {height = suc (suc k) - 1} (omega arith)
      ((and-eq-true_iff (leb 2 (suc (suc k))) _).0 h).1))
  command-formed next go at zero le (Code.Unary operator) e h =
      absurd (false≢true ((and-eq-true_iff (is_served (ltb 0 rows) operator) false).0
      ((and-eq-true_iff (is_served (ltb 0 rows) operator && false) (next (at + 1) zero)).0 h).0).1)
  command-formed next go at (suc k) le (Code.Unary operator) e h =
      let t = (and-eq-true_iff (is_served (ltb 0 rows) operator && leb 1 (suc k)) (next (at + 1) (suc k))).0 h in
      let u = (and-eq-true_iff (is_served (ltb 0 rows) operator) (leb 1 (suc k))).0 t.0 in
      FormedFrom.onward (written e tt) (served-true rows operator u.0) Changes.unary le (go _ _ le t.1)
  command-formed next go at zero le Code.If e h = absurd (false≢true h)
  command-formed next go at (suc zero) le Code.If e h = absurd (false≢true h)
  command-formed next go at (suc (suc zero)) le Code.If e h = absurd (false≢true h)
  command-formed next go at (suc (suc (suc k))) le Code.If e h =
      FormedFrom.onward (written e tt) tt (Changes.choose {height = k}) (omega arith)
      (go _ _ (omega arith) (at-height next {height = suc (suc (suc k)) - 2} (omega arith)
      ((and-eq-true_iff (leb 3 (suc (suc (suc k)))) _).0 h).1))

  from-formed : (left at height : ℕ) → height ≤ 32 → code_ok_from left (ltb 0 rows) code n own at height ≡ true → From at height
  unfolding code_ok_from
  from-formed zero at height le h = absurd (false≢true h)
  from-formed (suc left) at height le h =
      command-formed (λ a k. code_ok_from left (ltb 0 rows) code n own a k) (λ a k l t. from-formed left a k l t) at height le
      (code_at code at)
      refl h

  -- And the other way round.
  change-ok : {c : Code} {width height after : ℕ} (next : ℕ → ℕ → Bool) (at : ℕ) → Changes c width height after →
      BeforeStore rows n own c → after ≤ 32 → next (at + width) after ≡ true →
      command_ok next (ltb 0 rows) (length code) n own at height c ≡ true
  unfolding command_ok
  change-ok next at (Changes.push {height}) a le t = rw (lt-ltb height 32 (omega arith)) (at-height next (omega arith) t)
  change-ok next at (Changes.load {height} {x}) a le t =
      rw (lt-ltb x n a, lt-ltb height 32 (omega arith)) (at-height next (omega arith) t)
  change-ok next at (Changes.fetch {height} {x}) a le t =
      rw (eq-eqb x own a, lt-ltb height 32 (omega arith)) (at-height next (omega arith) t)
  change-ok next at (Changes.binary {height}) a le t =
      rw (le-leb 2 (suc (suc height)) (omega arith)) (at-height next (omega arith) t)
  change-ok next at (Changes.unary {height} {operator}) a le t =
      rw (true-served rows operator a, le-leb 1 (suc height) (omega arith)) t
  change-ok next at (Changes.choose {height}) a le t =
      rw (le-leb 3 (suc (suc (suc height))) (omega arith)) (at-height next (omega arith) t)

  width_some : {c : Code} {width height after : ℕ} → Changes c width height after → 1 ≤ width
  width_some Changes.push = omega arith
  width_some Changes.load = omega arith
  width_some Changes.fetch = omega arith
  width_some Changes.binary = omega arith
  width_some Changes.unary = omega arith
  width_some Changes.choose = omega arith

  formed-from : {at height : ℕ} → From at height → (left : ℕ) → length code ≤ at + left →
      code_ok_from left (ltb 0 rows) code n own at height ≡ true
  unfolding code_ok_from command_ok
  formed-from (FormedFrom.store w ends) zero le = absurd (omega (arith, inside w))
  formed-from (FormedFrom.store {at = at} w ends) (suc left) le =
      rw (decoded w, eq-eqb own own refl, eq-eqb _ _ ends)
  formed-from (FormedFrom.onward w a ch room rest) zero le = absurd (omega (arith, inside w))
  formed-from (FormedFrom.onward {at = at} {c = c} w a ch room rest) (suc left) le =
      rw (decoded w)
      (change-ok (λ a k. code_ok_from left (ltb 0 rows) code n own a k) at ch a room
      (formed-from rest left (omega (arith, width_some ch))))

  code-exactly : (code_ok (ltb 0 rows) code n own ≡ true) ↔ From 0 0
  unfolding code_ok
  code-exactly = (λ h. from-formed (length code) 0 0 (omega arith) h, λ f. formed-from f (length code) (omega arith))

-- What rises step by step rises.
pub rises : (f : ℕ → ℕ) (n : ℕ) → ((c : ℕ) → c < n → f c ≤ f (c + 1)) → (k : ℕ) → k ≤ n → f k ≤ f n
rises f zero up k le = let z : k ≡ 0 = omega arith in rw z (omega arith)
rises f (suc n) up k le = go (dec_lt k (suc n)) (rises f n (λ c lt. up c (omega arith)) k)
  where
    go : Dec (k < suc n) → (k ≤ n → f k ≤ f n) → f k ≤ f (suc n)
    go (yes lt) ih =
        let next : f (n + 1) ≡ f (suc n) = ap f (omega arith) in
        omega (arith, ih (omega arith), up n (omega arith), next)
    go (no lt) ih = let z : k ≡ suc n = omega arith in rw z (omega arith)

-- The whole image.
module _ (image : List ℕ) where
  abbrev n : ℕ
  n = count_of image

  abbrev h : ℕ
  h = hyper_of image

  -- The table: none, or rows in order.
  Ordered : ℕ → Type 0
  Ordered at = (byte_at image at ≡ 0) ⊎ InOrder (area_rows image at)

  area-length : (at : ℕ) → length (area_rows image at) ≡ byte_at image at
  unfolding area_rows
  area-length at = rows-length image (at + 1) (byte_at image at)

  order-upright : (at : ℕ) → Ordered at → AllUpright (area_rows image at)
  unfolding Ordered
  order-upright at (inl e) m l = absurd (omega (arith, area-length at))
  order-upright at (inr o) m l = o.0 m l

  order-rising : (at : ℕ) → Ordered at → Rising (area_rows image at)
  unfolding Ordered
  order-rising at (inl e) m l = absurd (omega (arith, area-length at))
  order-rising at (inr o) m l = o.1 m l

  order-covers : (at : ℕ) → Ordered at → 0 < byte_at image at → Covers (area_rows image at)
  unfolding Ordered
  order-covers at (inl e) l = absurd (omega arith)
  order-covers at (inr o) l = o.2

  -- The five parts of the test.
  parts : well_formed image ≡ true →
      (head_ok image ≡ true) × (lists_ok image ≡ true) × (entries_ok image ≡ true) × (codes_ok image ≡ true) ×
      (table_ok image ≡ true)
  unfolding well_formed
  parts t = go (head_ok image) (lists_ok image) (table_ok image) refl refl refl t
    where
      go : (a b c : Bool) → head_ok image ≡ a → lists_ok image ≡ b → table_ok image ≡ c →
          elim a [
            | true ↦
                elim b [
                  | true ↦ elim c [ true ↦ entries_ok image && codes_ok image | false ↦ false ]
                  | false ↦ false
                ]
            | false ↦ false
          ] ≡ true →
          (head_ok image ≡ true) × (lists_ok image ≡ true) × (entries_ok image ≡ true) × (codes_ok image ≡ true) ×
          (table_ok image ≡ true)
      go true true true e f g t = let both = (and-eq-true_iff _ _).0 t in (e, f, both.0, both.1, g)
      go true true false e f g t = absurd (false≢true t)
      go true false c e f g t = absurd (false≢true t)
      go false b c e f g t = absurd (false≢true t)

  test-formed : well_formed image ≡ true → WellFormed image
  unfolding head_ok lists_ok table_ok entries_ok codes_ok Ordered
  test-formed t =
      let p = parts t in
      let a = (and-eq-true_iff _ (leb (lists_at n h) (length image))).0 p.0 in
      let b = (and-eq-true_iff _ _).0 a.0 in
      let c = (and-eq-true_iff _ _).0 b.0 in
      let d = (and-eq-true_iff _ _).0 c.0 in
      let e = (and-eq-true_iff (leb 4 (length image)) _).0 d.0 in
      let k = (and-eq-true_iff _ _).0 p.1 in
      let m = (and-eq-true_iff _ _).0 k.0 in
      let start = eqb-true _ _ m.0 in
      let area = (and-eq-true_iff _ _).0 p.4 in
      let rows = area-true image (table_offset image) area.0 in
      record {
        stated = eqb-true _ _ e.1;
        hyper-some = leb-true _ _ d.1;
        hyper-most = leb-true _ _ c.1;
        signals = leb-true _ _ b.1;
        lists-start = start;
        lists-rise = λ c lt. leb-true _ _ (all_true h _ m.1 c lt);
        codes-start = subst (CodeStarts image 0) (eqb-true _ _ area.1) (code-starts 0 (omega arith));
        entries = λ i from to. entry i p.2 start from to;
        rows = rows.0;
        upright = order-upright (table_offset image) rows.2;
        rising = order-rising (table_offset image) rows.2;
        covers = order-covers (table_offset image) rows.2;
        codes = λ x lt. let t = code x p.3 lt in let u = (and-eq-true_iff _ _).0 t.0 in (
          code_of image x,
          code_is x lt (leb-true _ _ u.0) (leb-true _ _ u.1),
          (code-exactly (row_count image) n x (code_of image x)).0 t.1,
        );
      }
    where
      code : (x : ℕ) → codes_ok image ≡ true → x < n →
          ((leb (code_offset image x) (code_offset image (x + 1)) && leb (code_offset image (x + 1)) (length image)) ≡ true) ×
          (code_ok (ltb 0 (row_count image)) (code_of image x) n x ≡ true)
      code x t lt = (and-eq-true_iff _ _).0 (all_true n _ t x lt)

      entry : (i : ℕ) →
          all_below (table_offset image - lists_at n h) (λ j. ltb (byte_at image (lists_at n h + j)) n) ≡ true →
          list_offset image 0 ≡ lists_at n h → list_offset image 0 ≤ i → i < table_offset image → byte_at image i < n
      entry i t start from to =
          let j = i - lists_at n h in
          let same : lists_at n h + j ≡ i = omega arith in
          subst (λ (k : ℕ). byte_at image k < n) same
          (ltb-true (byte_at image (lists_at n h + j)) n (all_true _ _ t j (omega arith)))

  module _ (w : WellFormed image) where
    codes-rise : (x : ℕ) → x < n → code_offset image x ≤ code_offset image (x + 1)
    codes-rise x lt =
        let c = (w.codes x lt).1 in
        omega (arith, starts-code c.starts, starts-code c.ends, (stretch-inside c.stretch).0)

    code-within : (x : ℕ) → x ≤ n → code_offset image x ≤ length image
    code-within x le =
        let last : CodeStarts image n (length image) = CodeStarts.none refl refl in
        omega (arith, rises (code_offset image) n codes-rise x le, starts-code last)

    -- The code starts where the table ends.
    pub code-start : code_offset image 0 ≡ table_offset image + 1 + 12 * row_count image
    code-start = starts-code w.codes-start

    table_at : table_offset image ≡ list_offset image h
    unfolding table_offset
    table_at = refl

    pub lists-within : lists_at n h ≤ length image
    lists-within =
        omega (
          arith,
          w.lists-start,
          rises (list_offset image) h w.lists-rise 0 (omega arith),
          table_at,
          code-start,
          code-within 0 (omega arith),
        )

    entry-below : (i : ℕ) → i < table_offset image - lists_at n h → byte_at image (lists_at n h + i) < n
    entry-below i lt = w.entries (lists_at n h + i) (omega (arith, w.lists-start)) (omega arith)

    pub table-within : table_offset image + 1 + 12 * row_count image ≤ length image
    table-within = omega (arith, code-start, code-within 0 (omega arith))

    ordered : Ordered (table_offset image)
    unfolding Ordered
    ordered = go (dec_lt 0 (row_count image))
      where
        go : Dec (0 < row_count image) → (row_count image ≡ 0) ⊎ InOrder (rows_in image)
        go (yes l) = inr (w.upright, w.rising, w.covers l)
        go (no l) = inl (omega arith)

    table-ok : table_ok image ≡ true
    unfolding table_ok Ordered
    table-ok =
        rw (true-area image (table_offset image) (omega (arith, table-within)) w.rows table-within ordered)
        (eq-eqb _ _ code-start)

    head-ok : head_ok image ≡ true
    unfolding head_ok
    head-ok =
        rw (
          le-leb 4 (length image) (omega (arith, lists-within)),
          eq-eqb _ _ w.stated,
          le-leb 1 h w.hyper-some,
          le-leb h 240 w.hyper-most,
          le-leb n 64 w.signals,
        ) (le-leb (lists_at n h) (length image) lists-within)

    lists-ok : lists_ok image ≡ true
    unfolding lists_ok
    lists-ok =
        rw (
          eq-eqb _ _ w.lists-start,
          true-all h _ (λ c lt. le-leb _ _ (w.lists-rise c lt)),
        ) (le-leb (table_offset image) (length image) (omega (arith, table-within)))

    entries-ok : entries_ok image ≡ true
    unfolding entries_ok
    entries-ok = true-all (table_offset image - lists_at n h) _ (λ i lt. lt-ltb _ _ (entry-below i lt))

    codes-ok : codes_ok image ≡ true
    unfolding codes_ok
    codes-ok =
        true-all n _ (λ x lt.
        let c = w.codes x lt in
        rw (le-leb _ _ (codes-rise x lt), le-leb _ _ (code-within (x + 1) (omega arith)), is_code c.1)
        ((code-exactly (row_count image) n x c.0).1 c.2))

    formed-test : well_formed image ≡ true
    unfolding well_formed
    formed-test = rw (head-ok, well_formed) (rw lists-ok (rw table-ok (rw (entries-ok, codes-ok))))

  -- The test passes exactly the images that are well formed by the paper.
  pub well-formed-exactly : (well_formed image ≡ true) ↔ WellFormed image
  well-formed-exactly = (test-formed, formed-test)
