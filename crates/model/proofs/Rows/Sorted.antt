-- Rows by rising low cover if and only if each starts where the one before ended. Assumes nothing.
use mathlib.Core.Path.{◌≡◌, refl, sym, ap, ◌∙◌}
use mathlib.Core.Bool.{Bool, true, false, cond, ◌&&◌, false≢true, true≢false, and-eq-true_iff}
use mathlib.Core.List.{List, [], ◌∷◌}
use Prim.Native.Nat.{ℕ, zero, suc, ◌≤◌, ◌<◌}
use native.Mathlib.Decide.{dec_lt}
use native.Mathlib.Omega.{arith}
use borrow.Author.Tests.{leb-true, leb-false, le-leb}
use lib.IntN.{ℤ, pos, negsuc, suc_ℤ}
use lib.ListN.{length}
use lib.Signed.{le_z, ◌<ℤ◌}
use Rattle.model.specs.Rules.Search.{all_below}
use Rattle.model.specs.Rules.Word.{eq_z}
use Rattle.model.proofs.Pairs.Decide.{all_true, true-all}
use Rattle.model.specs.Rules.Cover.{edge, chained, least_word, greatest_word}
use Rattle.model.specs.Rules.Table.{Row, contains, row_at, insert, by_low}
use Rattle.model.specs.Says.Words.{IsWord}
use Rattle.model.proofs.Basics.Order.{le-true, true-le, lt-true, true-lt}
use Rattle.model.specs.Says.Rows.{Disjoint, Covers, Upright, AllUpright, Rising, Reordered}
use Rattle.model.proofs.Rows.Levels.{
  level,
  top,
  level-top,
  le-level,
  level-le,
  level-lt,
  lt-level,
  same-level,
  level-next,
  next_word,
  levelled,
  least-word,
  greatest-word,
  eq_z-true,
  true-eq_z,
  level-contains,
  contains-lies,
  upright-level,
}
use Rattle.model.proofs.Rows.Rule.{inserted, sorted, found_in, covers-same}
use Rattle.model.proofs.Rows.Decided.{lo, hi, rows-up, lies_in, in-lies, disjoint-apart, apart-disjoint, covers-disjoint}
use Rattle.model.proofs.Rows.Spans as spans

-- The order of integers.
le_z-trans : (a b c : ℤ) → le_z a b ≡ true → le_z b c ≡ true → le_z a c ≡ true
le_z-trans (pos a) (pos b) (pos c) h k = le-leb a c (omega (arith, leb-true a b h, leb-true b c k))
le_z-trans (pos a) (pos b) (negsuc c) h k = k
le_z-trans (pos a) (negsuc b) c h k = absurd (false≢true h)
le_z-trans (negsuc a) b (pos c) h k = refl
le_z-trans (negsuc a) (pos b) (negsuc c) h k = absurd (false≢true k)
le_z-trans (negsuc a) (negsuc b) (negsuc c) h k = le-leb c a (omega (arith, leb-true b a h, leb-true c b k))

le_z-other : (a b : ℤ) → le_z a b ≡ false → le_z b a ≡ true
le_z-other (pos a) (pos b) h = le-leb b a (omega (arith, leb-false a b h))
le_z-other (pos a) (negsuc b) h = refl
le_z-other (negsuc a) (pos b) h = absurd (true≢false h)
le_z-other (negsuc a) (negsuc b) h = le-leb a b (omega (arith, leb-false b a h))

-- No row starts before this one.
abbrev NoneBelow : Row → List Row → Type 0
NoneBelow row rows = (n : ℕ) → n < length rows → le_z row.low (row_at rows n).low ≡ true

abbrev Ascending : List Row → Type 0
Ascending [] = Unit {0}
Ascending (row ∷ rows) = NoneBelow row rows × Ascending rows

least-reordered : (least : Row) {xs ys : List Row} → Reordered xs ys → NoneBelow least xs → NoneBelow least ys
least-reordered least p h n l = let q = found_in p n l in rw (← q.2) (h q.0 q.1)

least-insert : (least row : Row) (rows : List Row) → NoneBelow least rows → le_z least.low row.low ≡ true → NoneBelow least
    (insert row rows)
least-insert least row rows h e = least-reordered least (inserted row rows) (λ n l. at n l)
  where
    at : (n : ℕ) → n < length (row ∷ rows) → le_z least.low (row_at (row ∷ rows) n).low ≡ true
    at zero l = e
    at (suc n) l = h n (omega arith)

ordered-insert : (row : Row) (rows : List Row) → Ascending rows → Ascending (insert row rows)
unfolding insert
ordered-insert row [] o = (λ n l. absurd (omega arith), tt)
ordered-insert row (other ∷ rows) o = go (le_z row.low other.low) refl (ordered-insert row rows o.1)
  where
    least : le_z row.low other.low ≡ true → NoneBelow row (other ∷ rows)
    least e zero l = e
    least e (suc n) l = le_z-trans row.low other.low (row_at rows n).low e (o.0 n (omega arith))

    go : (t : Bool) → le_z row.low other.low ≡ t → Ascending (insert row rows) →
        Ascending (cond t (row ∷ other ∷ rows) (other ∷ insert row rows))
    go true e r = (least e, o)
    go false e r = (least-insert other row rows o.0 (le_z-other row.low other.low e), r)

ordered : (rows : List Row) → Ascending (by_low rows)
unfolding by_low
ordered [] = tt
ordered (row ∷ rows) = ordered-insert row (by_low rows) (ordered rows)

ordered_at : (rows : List Row) → Ascending rows → (n : ℕ) → suc n < length rows → le_z (row_at rows n).low
    (row_at rows (suc n)).low ≡ true
ordered_at [] o n l = absurd (omega arith)
ordered_at (row ∷ rows) o zero l = o.0 0 (omega arith)
ordered_at (row ∷ rows) o (suc n) l = ordered_at rows o.1 n (omega arith)

pub upright-sorted : (rows : List Row) → AllUpright rows → AllUpright (by_low rows)
upright-sorted rows up n l = let q = found_in (sorted rows) n l in rw (← q.2) (up q.0 q.1)

pub sorted_rises : (rows : List Row) → AllUpright rows → Disjoint (by_low rows) → Rising (by_low rows)
sorted_rises rows up d n l = go (dec_lt (level a.low) (level b.low))
  where
    a : Row
    a = row_at (by_low rows) n

    b : Row
    b = row_at (by_low rows) (suc n)

    ua : Upright a
    ua = upright-sorted rows up n (omega arith)

    ub : Upright b
    ub = upright-sorted rows up (suc n) l

    go : Dec (level a.low < level b.low) → a.low <ℤ b.low
    go (yes h) = true-lt (level-lt a.low b.low ua.low_word ub.low_word h)
    go (no h) =
        let k = le-level a.low b.low ua.low_word ub.low_word (ordered_at (by_low rows) (ordered rows) n l) in
        let e : a.low ≡ b.low = same-level a.low b.low ua.low_word ub.low_word (omega arith) in
        let p = level-contains a b.low ua ub.low_word k (rw (← e) (upright-level a ua)) in
        let q = level-contains b b.low ub ub.low_word (omega arith) (upright-level b ub) in
        absurd (omega (
          arith,
          d b.low ub.low_word n (suc n) (contains-lies (by_low rows) b.low n (omega arith) p)
              (contains-lies (by_low rows) b.low (suc n) l q),
        ))

-- Chains of rows and chains of numbers.
module _ (rows : List Row) (up : AllUpright rows) where
  edge-level : (n : ℕ) → n ≤ length rows → level (edge rows n) ≡ spans.next (length rows) (lo rows up) (hi rows up) top n
  edge-level zero l = refl
  edge-level (suc n) l = level-next (row_at rows n).high (up n (omega arith)).high_word

  -- a word where an edge is
  at_edge : (z : ℤ) → IsWord z → (n : ℕ) → n ≤ length rows → level z ≡ spans.next (length rows) (lo rows up) (hi rows up) top
      n → z ≡ edge rows n
  at_edge z f zero l e = same-level z least_word f least-word e
  at_edge z f (suc n) l e =
      let g = (up n (omega arith)).high_word in
      same-level z (suc_ℤ (row_at rows n).high) f (next_word (row_at rows n).high g (omega (arith, level-top z f)))
      (e ∙ sym (level-next (row_at rows n).high g))

  pub chain-chained : spans.Sequence (length rows) (lo rows up) (hi rows up) top → chained rows ≡ true
  unfolding chained
  chain-chained c =
      (and-eq-true_iff (all_below (length rows) test) (eq_z (edge rows (length rows)) (suc_ℤ greatest_word))).1
      (true-all (length rows) test (λ n l. each n l), last (length rows) refl)
    where
      test : ℕ → Bool
      test n = eq_z (row_at rows n).low (edge rows n) && le_z (row_at rows n).low (row_at rows n).high

      each : (n : ℕ) → n < length rows → test n ≡ true
      each n l =
          (and-eq-true_iff (eq_z (row_at rows n).low (edge rows n)) (le_z (row_at rows n).low (row_at rows n).high)).1 (
            true-eq_z (row_at rows n).low (edge rows n) (at_edge (row_at rows n).low (up n l).low_word n (omega arith)
                (c.each n l)),
            le-true (up n l).upright,
          )

      last : (n : ℕ) → n ≡ length rows → eq_z (edge rows n) (suc_ℤ greatest_word) ≡ true
      last zero e = let q : 0 ≡ suc top = ap (spans.next (length rows) (lo rows up) (hi rows up) top) e ∙ c.last in absurd
          (omega arith)
      last (suc n) e =
          let q : suc (hi rows up n) ≡ suc top = ap (spans.next (length rows) (lo rows up) (hi rows up) top) e ∙ c.last in
          true-eq_z (edge rows (suc n)) (suc_ℤ greatest_word) (ap suc_ℤ
          (same-level (row_at rows n).high greatest_word (up n (omega arith)).high_word greatest-word (omega arith)))

  pub covers-ends : Covers rows → spans.Full (length rows) (lo rows up) (hi rows up) top
  covers-ends c k l =
      let r = levelled k l in
      let o = c r.word r.is_word in
      (o.0, rw r.levels at (lies_in rows up r.word r.is_word o.0 o.1))

  pub rising-chain : Rising rows → Covers rows → spans.Sequence (length rows) (lo rows up) (hi rows up) top
  rising-chain r c =
      let a = disjoint-apart rows up (covers-disjoint rows c) in
      spans.ends-chain (length rows) (lo rows up) (hi rows up) top (rows-up rows up) a
      (λ n l. lt-level (row_at rows n).low (row_at rows (suc n)).low (up n (omega arith)).low_word (up (suc n) l).low_word
      (lt-true (r n l)))
      (spans.full-ends (length rows) (lo rows up) (hi rows up) top (rows-up rows up) a (covers-ends c))

  pub chain-covers : spans.Sequence (length rows) (lo rows up) (hi rows up) top → Covers rows
  chain-covers h w f =
      let s = spans.ends-full (length rows) (lo rows up) (hi rows up) top (rows-up rows up)
      (spans.chain-ends (length rows) (lo rows up) (hi rows up) top h) (level w) (level-top w f) in
      let l = in-lies rows up w f s.0 s.1 in (
        s.0,
        l,
        λ m k. apart-disjoint rows up (spans.chain-apart (length rows) (lo rows up) (hi rows up) top (rows-up rows up)
            h) w f m s.0 k l,
      )

  pub chain-rising : spans.Sequence (length rows) (lo rows up) (hi rows up) top → Rising rows
  chain-rising h n l =
      true-lt (level-lt (row_at rows n).low (row_at rows (suc n)).low (up n (omega arith)).low_word (up (suc n) l).low_word
      (spans.chain-rises (length rows) (lo rows up) (hi rows up) top (rows-up rows up) h n l))

-- Rows of words that the test passes.
module _ (rows : List Row) (words : (n : ℕ) → n < length rows → IsWord (row_at rows n).low × IsWord (row_at rows n).high)
    (e : chained rows ≡ true) where
  test : ℕ → Bool
  test n = eq_z (row_at rows n).low (edge rows n) && le_z (row_at rows n).low (row_at rows n).high

  parts : (all_below (length rows) test ≡ true) × (eq_z (edge rows (length rows)) (suc_ℤ greatest_word) ≡ true)
  unfolding chained test
  parts = (and-eq-true_iff (all_below (length rows) test) (eq_z (edge rows (length rows)) (suc_ℤ greatest_word))).0 e

  each : (n : ℕ) → n < length rows → (eq_z (row_at rows n).low (edge rows n) ≡ true) ×
      (le_z (row_at rows n).low (row_at rows n).high ≡ true)
  unfolding test
  each n l = (and-eq-true_iff (eq_z (row_at rows n).low (edge rows n)) (le_z (row_at rows n).low (row_at rows n).high)).0
      (all_true (length rows) test parts.0 n l)

  pub chained-upright : AllUpright rows
  chained-upright n l = record { low_word = (words n l).0; high_word = (words n l).1; upright = true-le (each n l).1 }

  pub chained-chain : spans.Sequence (length rows) (lo rows chained-upright) (hi rows chained-upright) top
  chained-chain =
      record {
        each = λ n l. ap level (eq_z-true (row_at rows n).low (edge rows n) (each n l).0) ∙ edge-level rows chained-upright n
            (omega arith);
        last = sym (edge-level rows chained-upright (length rows) (omega arith)) ∙ ap level
            (eq_z-true (edge rows (length rows)) (suc_ℤ greatest_word) parts.1);
      }

-- The statements that the test decides, for rows of words.
abbrev pub RowsOfWords : List Row → Type 0
RowsOfWords rows = (n : ℕ) → n < length rows → IsWord (row_at rows n).low × IsWord (row_at rows n).high

abbrev pub InOrder : List Row → Type 0
InOrder rows = AllUpright rows × Rising rows × Covers rows

pub chained-true : (rows : List Row) → RowsOfWords rows → chained rows ≡ true → InOrder rows
chained-true rows words e =
    let up = chained-upright rows words e in
    let h = chained-chain rows words e in
    (up, chain-rising rows up h, chain-covers rows up h)

pub true-chained : (rows : List Row) → InOrder rows → chained rows ≡ true
true-chained rows h = chain-chained rows h.0 (rising-chain rows h.0 h.1 h.2)

-- Rows that cover, by rising low.
pub sorted-order : (rows : List Row) → AllUpright rows → Covers rows → InOrder (by_low rows)
sorted-order rows up c =
    let d = covers-same (sorted rows) c in
    (upright-sorted rows up, sorted_rises rows up (covers-disjoint (by_low rows) d), d)

pub sorted-chained : (rows : List Row) → AllUpright rows → Covers rows → chained (by_low rows) ≡ true
sorted-chained rows up c = true-chained (by_low rows) (sorted-order rows up c)

-- In rows in order, the first row whose high is not below the word contains it.
pub first-high : (rows : List Row) → InOrder rows → (w : ℤ) → IsWord w → (i : ℕ) → i < length rows →
    ((k : ℕ) → k < i → le_z w (row_at rows k).high ≡ false) → le_z w (row_at rows i).high ≡ true → contains (row_at rows i) w ≡ true
first-high rows o w f i l h e =
    level-contains (row_at rows i) w (up i l) f (at i l h) (le-level w (row_at rows i).high f (up i l).high_word e)
  where
    up : AllUpright rows
    up = o.0

    c : spans.Sequence (length rows) (lo rows up) (hi rows up) top
    c = rising-chain rows up o.1 o.2

    at : (i : ℕ) → i < length rows → ((k : ℕ) → k < i → le_z w (row_at rows k).high ≡ false) → level (row_at rows i).low ≤ level w
    at zero l h = omega (arith, c.each 0 l)
    at (suc k) l h = go (dec_lt (level (row_at rows k).high) (level w))
      where
        go : Dec (level (row_at rows k).high < level w) → level (row_at rows (suc k)).low ≤ level w
        go (yes b) = omega (arith, c.each (suc k) l)
        go (no b) =
            absurd (true≢false (sym (level-le w (row_at rows k).high f (up k (omega arith)).high_word (omega arith)) ∙ h k
            (omega arith)))
