-- The tests on the rows' ends decide the statements over all words. Assumes nothing.
use Rattle.std.specs.Prelude.{Option, Some, None}
use mathlib.Core.Path.{◌≡◌, refl, sym, ap, ◌∙◌}
use mathlib.Core.Bool.{Bool, true, false, not, ◌&&◌, ◌||◌, false≢true, true≢false, and-eq-true_iff}
use mathlib.Core.List.{List, [], ◌∷◌}
use mathlib.Core.Logic.{◌⊎◌, inl, inr, ⊎_elim}
use Prim.Native.Nat.{ℕ, zero, suc, ◌+◌, ◌≤◌, ◌<◌}
use native.Mathlib.Decide.{dec_lt, dec_le}
use native.Mathlib.Omega.{arith}
use lib.IntN.{ℤ, suc_ℤ}
use lib.ListN.{length}
use lib.Signed.{lt_z}
use Rattle.model.specs.Rules.Search.{first_below, first_from, is_found, all_below}
use Rattle.model.specs.Rules.Word.{eq_z}
use Rattle.model.proofs.Basics.Outcomes.{accepted≢refused}
use Rattle.model.proofs.Pairs.Decide.{is-first, is_found-true, true-is_found, all_true}
use Rattle.model.specs.Rules.Cover.{
  apart,
  meets_earlier,
  meeting_of,
  starting_at,
  continues,
  no_gap,
  covering,
  least_word,
  greatest_word,
}
use Rattle.model.specs.Rules.Outcome.{accepted, refused, ◌▷◌, provided}
use Rattle.model.specs.Rules.Table.{Row, contains, row_at}
use Rattle.model.specs.Says.Words.{IsWord}
use Rattle.model.specs.Says.Rows.{Lies, Disjoint, Covers, Meet, FirstMeets, Gap, Upright, AllUpright}
use Rattle.model.proofs.Rows.Levels.{
  level,
  top,
  level-top,
  lt-level,
  level-lt,
  same-level,
  level-next,
  next_word,
  least-word,
  greatest-word,
  eq_z-true,
  true-eq_z,
  contains-level,
  level-contains,
  lies-contains,
  contains-lies,
  upright-level,
}
use Rattle.model.proofs.Rows.Spans as spans

or-true : (a b : Bool) → a || b ≡ true → (a ≡ true) ⊎ (b ≡ true)
or-true true b e = inl refl
or-true false b e = inr e

or-false : (a b : Bool) → a || b ≡ false → (a ≡ false) × (b ≡ false)
or-false true b e = absurd (true≢false e)
or-false false b e = (refl, e)

-- Some test fails.
pub all-false : (n : ℕ) (test : ℕ → Bool) → all_below n test ≡ false → (m : ℕ) × (m < n) × (test m ≡ false)
unfolding all_below
all-false zero test e = absurd (true≢false e)
all-false (suc n) test e = go (all_below n test) refl (test n) refl e (all-false n test)
  where
    go : (a : Bool) → all_below n test ≡ a → (b : Bool) → test n ≡ b → a && b ≡ false →
        (all_below n test ≡ false → (m : ℕ) × (m < n) × (test m ≡ false)) → (m : ℕ) × (m < suc n) × (test m ≡ false)
    go true p true q f r = absurd (true≢false f)
    go true p false q f r = (n, omega arith, q)
    go false p b q f r = let s = r p in (s.0, omega arith, s.2)

none_found : (n : ℕ) (test : ℕ → Bool) → is_found (first_below n test) ≡ false → (m : ℕ) → m < n → test m ≡ false
none_found n test e m l = go (test m) refl
  where
    go : (t : Bool) → test m ≡ t → t ≡ false
    go true f = absurd (true≢false (sym (true-is_found n test m l f) ∙ e))
    go false f = refl

-- Two rows.
module _ (a b : Row) (ua : Upright a) (ub : Upright b) where
  pub apart-levels : apart a b ≡ true → (level a.high < level b.low) ⊎ (level b.high < level a.low)
  unfolding apart
  apart-levels e =
      ⊎_elim (λ f. inl (lt-level a.high b.low ua.high_word ub.low_word f))
      (λ f. inr (lt-level b.high a.low ub.high_word ua.low_word f))
      (or-true (lt_z a.high b.low) (lt_z b.high a.low) e)

  -- no word is in both
  pub apart_none : apart a b ≡ true → (w : ℤ) → IsWord w → contains a w ≡ true → contains b w ≡ true → ⊥
  apart_none e w f p q =
      let x = contains-level a w ua f p in
      let y = contains-level b w ub f q in
      ⊎_elim (λ h. omega (arith, x.1, y.0)) (λ h. omega (arith, x.0, y.1)) (apart-levels e)

  -- else the greater of the two lows is
  pub in_both : apart a b ≡ false → (w : ℤ) × IsWord w × (contains a w ≡ true) × (contains b w ≡ true)
  unfolding apart
  in_both e = go (dec_le (level a.low) (level b.low))
    where
      ends : (lt_z a.high b.low ≡ false) × (lt_z b.high a.low ≡ false)
      ends = or-false (lt_z a.high b.low) (lt_z b.high a.low) e

      not-below : (x y : ℤ) → IsWord x → IsWord y → lt_z x y ≡ false → level y ≤ level x
      not-below x y f g h = by (dec_lt (level x) (level y))
        where
          by : Dec (level x < level y) → level y ≤ level x
          by (yes l) = absurd (true≢false (sym (level-lt x y f g l) ∙ h))
          by (no l) = omega arith

      go : Dec (level a.low ≤ level b.low) → (w : ℤ) × IsWord w × (contains a w ≡ true) × (contains b w ≡ true)
      go (yes l) = (
        b.low,
        ub.low_word,
        level-contains a b.low ua ub.low_word l (not-below a.high b.low ua.high_word ub.low_word ends.0),
        level-contains b b.low ub ub.low_word (omega arith) (upright-level b ub),
      )
      go (no l) = (
        a.low,
        ua.low_word,
        level-contains a a.low ua ua.low_word (omega arith) (upright-level a ua),
        level-contains b a.low ub ua.low_word (omega arith)
            (not-below b.high a.low ub.high_word ua.low_word ends.1),
      )

module _ (rows : List Row) (up : AllUpright rows) where
  abbrev pub lo : ℕ → ℕ
  lo n = level (row_at rows n).low

  abbrev pub hi : ℕ → ℕ
  hi n = level (row_at rows n).high

  pub rows-up : spans.Up (length rows) lo hi top
  rows-up n l = (upright-level (row_at rows n) (up n l), level-top (row_at rows n).high (up n l).high_word)

  pub lies_in : (w : ℤ) → IsWord w → (n : ℕ) → Lies rows w n → spans.In (length rows) lo hi top (level w) n
  lies_in w f n l = let p = contains-level (row_at rows n) w (up n l.inside) f (lies-contains l) in (l.inside, p.0, p.1)

  pub in-lies : (w : ℤ) → IsWord w → (n : ℕ) → spans.In (length rows) lo hi top (level w) n → Lies rows w n
  in-lies w f n s = contains-lies rows w n s.0 (level-contains (row_at rows n) w (up n s.0) f s.1 s.2)

  -- 29
  pub meets-true : (n : ℕ) → n < length rows → meets_earlier rows n ≡ true → (m : ℕ) × (m < n) × Meet rows m n
  unfolding meets_earlier
  meets-true n l e =
      let q = all-false n (λ m. apart (row_at rows m) (row_at rows n))
      (flip (all_below n (λ m. apart (row_at rows m) (row_at rows n))) e) in
      let m = q.0 in
      let s = in_both (row_at rows m) (row_at rows n) (up m (omega arith)) (up n l) q.2 in
      (m, q.1, (s.0, s.1, contains-lies rows s.0 m (omega arith) s.2, contains-lies rows s.0 n l s.3))
    where
      flip : (b : Bool) → not b ≡ true → b ≡ false
      flip true e = absurd (false≢true e)
      flip false e = refl

  apart-earlier : (n : ℕ) → n < length rows → meets_earlier rows n ≡ false → (m : ℕ) → m < n → apart (row_at rows m)
      (row_at rows n) ≡ true
  unfolding meets_earlier
  apart-earlier n l e m k = all_true n (λ m. apart (row_at rows m) (row_at rows n))
      (flip (all_below n (λ m. apart (row_at rows m) (row_at rows n))) e) m k
    where
      flip : (b : Bool) → not b ≡ false → b ≡ true
      flip true e = refl
      flip false e = absurd (true≢false e)

  pub meets-false : (n : ℕ) → n < length rows → meets_earlier rows n ≡ false → (m : ℕ) → m < n → Meet rows m n → ⊥
  meets-false n l e m k s =
      apart_none (row_at rows m) (row_at rows n) (up m (omega arith)) (up n l) (apart-earlier n l e m k) s.0 s.1
      (lies-contains s.2) (lies-contains s.3)

  pub first-meets : (n : ℕ) → first_below (length rows) (meets_earlier rows) ≡ Some n → FirstMeets rows n
  first-meets n e =
      let h = is-first (length rows) (meets_earlier rows) (Some n) e in
      let l : n < length rows = omega arith in
      record {
        inside = l;
        earlier = meets-true n l h.2;
        none = λ k b m c s. meets-false k (omega arith) (h.3 k (omega arith) b) m c s;
      }

  pub none-meets : first_below (length rows) (meets_earlier rows) ≡ None → Disjoint rows
  none-meets e w f m n p q = go (dec_lt m n) (dec_lt n m)
    where
      h : (m : ℕ) → 0 ≤ m → m < 0 + length rows → meets_earlier rows m ≡ false
      h = is-first (length rows) (meets_earlier rows) None e

      go : Dec (m < n) → Dec (n < m) → m ≡ n
      go (yes l) d = absurd (meets-false n q.inside (h n (omega arith) (omega (arith, q.inside))) m l (w, f, p, q))
      go (no l) (yes k) = absurd (meets-false m p.inside (h m (omega arith) (omega (arith, p.inside))) n k (w, f, q, p))
      go (no l) (no k) = omega arith

  -- Rows without a common word, by their ends.
  pub disjoint-apart : Disjoint rows → spans.Apart (length rows) lo hi top
  disjoint-apart d i j l k = go (apart (row_at rows i) (row_at rows j)) refl
    where
      ui : Upright (row_at rows i)
      ui = up i (omega arith)

      go : (t : Bool) → apart (row_at rows i) (row_at rows j) ≡ t → (hi i < lo j) ⊎ (hi j < lo i)
      go true e = apart-levels (row_at rows i) (row_at rows j) ui (up j k) e
      go false e =
          let s = in_both (row_at rows i) (row_at rows j) ui (up j k) e in
          absurd (omega (
            arith,
            d s.0 s.1 i j (contains-lies rows s.0 i (omega arith) s.2) (contains-lies rows s.0 j k s.3),
          ))

  pub apart-disjoint : spans.Apart (length rows) lo hi top → Disjoint rows
  apart-disjoint a w f m n p q = go (dec_lt m n) (dec_lt n m)
    where
      x : spans.In (length rows) lo hi top (level w) m
      x = lies_in w f m p

      y : spans.In (length rows) lo hi top (level w) n
      y = lies_in w f n q

      go : Dec (m < n) → Dec (n < m) → m ≡ n
      go (yes l) d = absurd (⊎_elim (λ h. omega (arith, x, y)) (λ h. omega (arith, x, y)) (a m n l q.inside))
      go (no l) (yes k) = absurd (⊎_elim (λ h. omega (arith, x, y)) (λ h. omega (arith, x, y)) (a n m k p.inside))
      go (no l) (no k) = omega arith

  -- 30
  starts-level : (z : ℤ) → is_found (starting_at rows z) ≡ true → (n : ℕ) × (n < length rows) × ((row_at rows n).low ≡ z)
  unfolding starting_at
  starts-level z e = let q = is_found-true (length rows) (λ n. eq_z (row_at rows n).low z) e in
      (q.0, q.1, eq_z-true (row_at rows q.0).low z q.2)

  starts_none : (z : ℤ) → is_found (starting_at rows z) ≡ false → (n : ℕ) → n < length rows → (row_at rows n).low ≡ z → ⊥
  unfolding starting_at
  starts_none z e n l q = true≢false (sym (true-eq_z (row_at rows n).low z q) ∙ none_found (length rows)
      (λ n. eq_z (row_at rows n).low z) e n l)

  pub gapless-ends : no_gap rows ≡ true → spans.Ends (length rows) lo hi top
  unfolding no_gap continues
  gapless-ends e =
      record {
        starts = let s = starts-level least_word p.0 in (s.0, s.1, ap level s.2);
        steps = λ i l. at i l (or-true (eq_z (row_at rows i).high greatest_word)
            (is_found (starting_at rows (suc_ℤ (row_at rows i).high))) (each i l));
      }
    where
      p : (is_found (starting_at rows least_word) ≡ true) × (all_below (length rows) (λ n. continues rows (row_at rows n).high) ≡
          true)
      p = (and-eq-true_iff (is_found (starting_at rows least_word))
          (all_below (length rows) (λ n. continues rows (row_at rows n).high))).0 e

      each : (i : ℕ) → i < length rows → continues rows (row_at rows i).high ≡ true
      each i l = all_true (length rows) (λ n. continues rows (row_at rows n).high) p.1 i l

      at : (i : ℕ) → (l : i < length rows) →
          (eq_z (row_at rows i).high greatest_word ≡ true) ⊎ (is_found (starting_at rows (suc_ℤ (row_at rows i).high)) ≡ true) →
          (hi i ≡ top) ⊎ spans.Starts (length rows) lo hi top (suc (hi i))
      at i l (inl h) = inl (ap level (eq_z-true (row_at rows i).high greatest_word h))
      at i l (inr h) =
          let s = starts-level (suc_ℤ (row_at rows i).high) h in
          inr (s.0, s.1, ap level s.2 ∙ level-next (row_at rows i).high (up i l).high_word)

  pub gapless-full : no_gap rows ≡ true → (w : ℤ) → IsWord w → (n : ℕ) × Lies rows w n
  gapless-full e w f =
      let s = spans.ends-full (length rows) lo hi top rows-up (gapless-ends e) (level w) (level-top w f) in
      (s.0, in-lies w f s.0 s.1)

  pub gap : Disjoint rows → no_gap rows ≡ false → Gap rows
  unfolding no_gap continues
  gap d e = go (is_found (starting_at rows least_word)) refl (all_below (length rows) (λ n. continues rows (row_at rows n).high))
      refl e
    where
      go : (s : Bool) → is_found (starting_at rows least_word) ≡ s → (t : Bool) → all_below (length rows)
          (λ n. continues rows (row_at rows n).high) ≡ t →
          s && t ≡ false → Gap rows
      go true p true q h = absurd (true≢false h)
      go false p t q h = (least_word, least-word, λ n l. none n l)
        where
          none : (n : ℕ) → Lies rows least_word n → ⊥
          none n l =
              let s = lies_in least_word least-word n l in
              starts_none least_word p n l.inside (same-level (row_at rows n).low least_word (up n l.inside).low_word
              least-word
              (omega (arith, s.1)))
      go true p false q h = at (all-false (length rows) (λ n. continues rows (row_at rows n).high) q)
        where
          at : (i : ℕ) × (i < length rows) × (continues rows (row_at rows i).high ≡ false) → Gap rows
          at c = (z, word, λ n l. none n l)
            where
              i : ℕ
              i = c.0

              z : ℤ
              z = suc_ℤ (row_at rows i).high

              f : (eq_z (row_at rows i).high greatest_word ≡ false) × (is_found (starting_at rows z) ≡ false)
              f = or-false (eq_z (row_at rows i).high greatest_word) (is_found (starting_at rows z)) c.2

              inside : hi i < top
              inside = by (dec_lt (hi i) top)
                where
                  by : Dec (hi i < top) → hi i < top
                  by (yes l) = l
                  by (no l) =
                      let k : hi i ≡ top = omega (arith, rows-up i c.1) in
                      absurd (true≢false (sym (true-eq_z (row_at rows i).high greatest_word
                      (same-level (row_at rows i).high greatest_word (up i c.1).high_word greatest-word k)) ∙ f.0))

              word : IsWord z
              word = next_word (row_at rows i).high (up i c.1).high_word inside

              levels : level z ≡ suc (hi i)
              levels = level-next (row_at rows i).high (up i c.1).high_word

              none : (n : ℕ) → Lies rows z n → ⊥
              none n l =
                  let s : spans.In (length rows) lo hi top (suc (hi i)) n = rw levels at (lies_in z word n l) in
                  let k = spans.after-end (length rows) lo hi top rows-up (disjoint-apart d) i n c.1 s in
                  starts_none z f.1 n l.inside
                  (same-level (row_at rows n).low z (up n l.inside).low_word word (k ∙ sym levels))

  -- Rows that both tests pass cover.
  pub judged-covers : covering rows ≡ accepted tt → Covers rows
  unfolding covering ◌▷◌ provided
  judged-covers h = go (first_below (length rows) (meets_earlier rows)) refl (no_gap rows) refl h
    where
      go : (f : Option ℕ) → first_below (length rows) (meets_earlier rows) ≡ f → (t : Bool) → no_gap rows ≡ t →
          (meeting_of rows f ▷ λ _. provided t 30 0) ≡ accepted tt → Covers rows
      go (Some n) e t k h = absurd (accepted≢refused _ tt _ h refl)
      go None e true k h = λ w f. let s = gapless-full k w f in (s.0, s.1, λ m l. none-meets e w f m s.0 l s.1)
      go None e false k h = absurd (accepted≢refused _ tt _ h refl)

-- Rows that pass are some: the lowest word lies in one.
pub covered-some : (rows : List Row) → covering rows ≡ accepted tt → 0 < length rows
unfolding covering no_gap starting_at first_below first_from ◌▷◌ provided
covered-some [] h = absurd (accepted≢refused _ tt _ h refl)
covered-some (row ∷ rows) h = omega arith

-- There is one right answer.
module _ (rows : List Row) where
  pub never-twice : Disjoint rows → (n : ℕ) → FirstMeets rows n → ⊥
  never-twice d n h = let e = h.earlier in let s = e.2 in omega (arith, d s.0 s.1 e.0 n s.2 s.3)

  pub covers-disjoint : Covers rows → Disjoint rows
  covers-disjoint c w f m n p q = let o = c w f in o.2 m p ∙ sym (o.2 n q)

  pub covers-full : Covers rows → Gap rows → ⊥
  covers-full c g = let o = c g.0 g.1 in g.2 o.0 o.1

  pub same_row : (m n : ℕ) → FirstMeets rows m → FirstMeets rows n → m ≡ n
  same_row m n p q = go (dec_lt m n) (dec_lt n m)
    where
      go : Dec (m < n) → Dec (n < m) → m ≡ n
      go (yes l) d = let e = p.earlier in absurd (q.none m l e.0 e.1 e.2)
      go (no l) (yes k) = let e = q.earlier in absurd (p.none n k e.0 e.1 e.2)
      go (no l) (no k) = omega arith
