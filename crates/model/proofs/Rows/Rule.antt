-- The table's rule over any number of rows, in any order. Assumes nothing.
use mathlib.Core.Path.{◌≡◌, refl, sym, ap, ◌∙◌}
use mathlib.Core.Bool.{Bool, true, false, cond, true≢false}
use mathlib.Core.List.{List, [], ◌∷◌}
use Prim.Native.Nat.{ℕ, zero, suc, ◌+◌, ◌≤◌, ◌<◌}
use native.Mathlib.Omega.{arith}
use lib.IntN.{ℤ, pos}
use lib.ListN.{length}
use Rattle.model.specs.Rules.Table.{Row, contains, table_word, row_at, insert, by_low}
use Rattle.model.specs.Says.Words.{IsWord}
use Rattle.model.proofs.Rows.Levels.{lies-contains, contains-lies}
use Rattle.model.specs.Says.Rows.{Lies, Covers, Reordered, empty, keep, swap, then}
use lib.Signed.{le_z}

-- The first row that contains the word decides.
pub table-first : (rows : List Row) (w : ℤ) (n : ℕ) → n < length rows → ((k : ℕ) → k < n → contains (row_at rows k) w ≡ false) →
    contains (row_at rows n) w ≡ true → table_word rows w ≡ (row_at rows n).result
unfolding table_word
table-first [] w n l h e = absurd (omega arith)
table-first (row ∷ rows) w zero l h e = rw e
table-first (row ∷ rows) w (suc n) l h e =
    rw (h 0 (omega arith)) (table-first rows w n (omega arith) (λ k m. h (suc k) (omega arith)) e)

pub table_none : (rows : List Row) (w : ℤ) → ((k : ℕ) → k < length rows → contains (row_at rows k) w ≡ false) → table_word rows
    w ≡ pos 0
unfolding table_word
table_none [] w h = refl
table_none (row ∷ rows) w h = rw (h 0 (omega arith)) (table_none rows w (λ k l. h (suc k) (omega arith)))

-- A word that lies in one row only has its result.
pub table-rule : (rows : List Row) (w : ℤ) (n : ℕ) → Lies rows w n → ((m : ℕ) → Lies rows w m → m ≡ n) →
    table_word rows w ≡ (row_at rows n).result
table-rule rows w n l once = table-first rows w n l.inside (λ k b. other k b (contains (row_at rows k) w) refl)
    (lies-contains l)
  where
    other : (k : ℕ) → k < n → (t : Bool) → contains (row_at rows k) w ≡ t → t ≡ false
    other k b true e = let q : k ≡ n = once k (contains-lies rows w k (omega (arith, l.inside)) e) in absurd (omega arith)
    other k b false e = refl

-- A row more in front.
deeper : {row : Row} {rows : List Row} {w : ℤ} {n : ℕ} → Lies rows w n → Lies (row ∷ rows) w (suc n)
deeper l = record { inside = omega (arith, l.inside); from_low = l.from_low; to_high = l.to_high }

higher : {row : Row} {rows : List Row} {w : ℤ} {n : ℕ} → Lies (row ∷ rows) w (suc n) → Lies rows w n
higher l = record { inside = omega (arith, l.inside); from_low = l.from_low; to_high = l.to_high }

-- How many rows contain the word.
abbrev bit : Bool → ℕ
bit true = 1
bit false = 0

unfoldable pub times : List Row → ℤ → ℕ
times [] w = 0
times (row ∷ rows) w = bit (contains row w) + times rows w

pub times_none : (rows : List Row) (w : ℤ) → times rows w ≡ 0 → (n : ℕ) → Lies rows w n → ⊥
unfolding times
times_none [] w e n l = omega (arith, l.inside)
times_none (row ∷ rows) w e zero l = let t : bit (contains row w) ≡ 1 = ap bit (lies-contains l) in omega arith
times_none (row ∷ rows) w e (suc n) l = times_none rows w (omega arith) n (higher l)

pub none-times : (rows : List Row) (w : ℤ) → ((n : ℕ) → Lies rows w n → ⊥) → times rows w ≡ 0
unfolding times
none-times [] w h = refl
none-times (row ∷ rows) w h = go (contains row w) refl (none-times rows w (λ n l. h (suc n) (deeper l)))
  where
    go : (t : Bool) → contains row w ≡ t → times rows w ≡ 0 → bit t + times rows w ≡ 0
    go true e r = absurd (h 0 (contains-lies (row ∷ rows) w 0 (omega arith) e))
    go false e r = omega arith

-- Exactly one row contains the word.
abbrev pub Once : List Row → ℤ → Type 0
Once rows w = (n : ℕ) × Lies rows w n × ((m : ℕ) → Lies rows w m → m ≡ n)

pub times-once : (rows : List Row) (w : ℤ) → times rows w ≡ 1 → Once rows w
unfolding times
times-once [] w e = absurd (omega arith)
times-once (row ∷ rows) w e = go (contains row w) refl (λ r. times-once rows w r)
  where
    more : Once rows w → contains row w ≡ false → Once (row ∷ rows) w
    more o f = (suc o.0, deeper o.1, λ m l. at m l)
      where
        at : (m : ℕ) → Lies (row ∷ rows) w m → m ≡ suc o.0
        at zero l = absurd (true≢false (sym (lies-contains l) ∙ f))
        at (suc m) l = ap suc (o.2 m (higher l))

    go : (t : Bool) → contains row w ≡ t → (times rows w ≡ 1 → Once rows w) → Once (row ∷ rows) w
    go true f r = (0, contains-lies (row ∷ rows) w 0 (omega arith) f, λ m l. at m l)
      where
        rest : times rows w ≡ 0
        rest = let t : bit (contains row w) ≡ 1 = ap bit f in omega arith

        at : (m : ℕ) → Lies (row ∷ rows) w m → m ≡ 0
        at zero l = refl
        at (suc m) l = absurd (times_none rows w rest m (higher l))
    go false f r = more (r (let t : bit (contains row w) ≡ 0 = ap bit f in omega arith)) f

pub once-times : (rows : List Row) (w : ℤ) → Once rows w → times rows w ≡ 1
unfolding times
once-times [] w o = absurd (omega (arith, o.1.inside))
once-times (row ∷ rows) w o = go (λ r. once-times rows w r) o.0 o.1 o.2
  where
    go : (Once rows w → times rows w ≡ 1) → (n : ℕ) → Lies (row ∷ rows) w n → ((m : ℕ) → Lies (row ∷ rows) w m → m ≡ n) → times
        (row ∷ rows) w ≡ 1
    go r zero l u =
        let t : bit (contains row w) ≡ 1 = ap bit (lies-contains l) in
        omega (arith, none-times rows w (λ n k. omega (arith, u (suc n) (deeper k))))
    go r (suc n) l u = first (contains row w) refl
      where
        first : (t : Bool) → contains row w ≡ t → bit t + times rows w ≡ 1
        first true f = absurd (omega (arith, u 0 (contains-lies (row ∷ rows) w 0 (omega arith) f)))
        first false f =
            omega (arith, r (n, higher l, λ m k. let q = u (suc m) (deeper k) in omega arith))

-- Another order.
pub times-same : {xs ys : List Row} → Reordered xs ys → (w : ℤ) → times xs w ≡ times ys w
unfolding times
times-same empty w = refl
times-same (keep {row} p) w = ap (λ n. bit (contains row w) + n) (times-same p w)
times-same (swap {a} {b} {rows}) w = omega arith
times-same (then p q) w = times-same p w ∙ times-same q w

pub length-same : {xs ys : List Row} → Reordered xs ys → length xs ≡ length ys
length-same empty = refl
length-same (keep p) = ap suc (length-same p)
length-same swap = refl
length-same (then p q) = length-same p ∙ length-same q

-- Where at most one row contains the word, the order doesn't matter.
pub table_same : {xs ys : List Row} → Reordered xs ys → (w : ℤ) → times xs w ≤ 1 → table_word xs w ≡ table_word ys w
unfolding table_word times
table_same empty w h = refl
table_same (keep {row} {rows} {others} p) w h = go (contains row w) (table_same p w (omega arith))
  where
    go : (t : Bool) → table_word rows w ≡ table_word others w → cond t row.result (table_word rows w) ≡ cond t row.result
        (table_word others w)
    go true e = refl
    go false e = e
table_same (swap {a} {b} {rows}) w h = go (contains a w) (contains b w) h
  where
    go : (s t : Bool) → bit s + (bit t + times rows w) ≤ 1 →
        cond s a.result (cond t b.result (table_word rows w)) ≡ cond t b.result (cond s a.result (table_word rows w))
    go true true k = absurd (omega arith)
    go true false k = refl
    go false t k = refl
table_same (then p q) w h = table_same p w h ∙ table_same q w (rw (← times-same p w) h)

pub reordered-refl : (rows : List Row) → Reordered rows rows
reordered-refl [] = empty
reordered-refl (row ∷ rows) = keep (reordered-refl rows)

pub inserted : (row : Row) (rows : List Row) → Reordered (row ∷ rows) (insert row rows)
unfolding insert
inserted row [] = keep empty
inserted row (other ∷ rows) = go (le_z row.low other.low) (inserted row rows)
  where
    go : (t : Bool) → Reordered (row ∷ rows) (insert row rows) → Reordered (row ∷ other ∷ rows)
        (cond t (row ∷ other ∷ rows) (other ∷ insert row rows))
    go true r = reordered-refl (row ∷ other ∷ rows)
    go false r = then swap (keep r)

-- By rising low.
pub sorted : (rows : List Row) → Reordered rows (by_low rows)
unfolding by_low
sorted [] = empty
sorted (row ∷ rows) = then (keep (sorted rows)) (inserted row (by_low rows))

-- Rows that cover still do in another order, and give the same.
pub covers-same : {xs ys : List Row} → Reordered xs ys → Covers xs → Covers ys
covers-same p c w f = times-once _ w (sym (times-same p w) ∙ once-times _ w (c w f))

pub table-reordered : {xs ys : List Row} → Reordered xs ys → Covers xs → (w : ℤ) → IsWord w → table_word xs w ≡ table_word ys w
table-reordered {xs} p c w f = table_same p w (omega (arith, once-times xs w (c w f)))

pub sorted-rule : (rows : List Row) → Covers rows → (w : ℤ) → IsWord w → table_word (by_low rows) w ≡ table_word rows w
sorted-rule rows c w f = sym (table-reordered (sorted rows) c w f)

-- A row of one order stands in the other.
pub found_in : {xs ys : List Row} → Reordered xs ys → (n : ℕ) → n < length ys → (m : ℕ) × (m < length xs) ×
    (row_at xs m ≡ row_at ys n)
found_in empty n l = absurd (omega arith)
found_in (keep p) zero l = (0, omega arith, refl)
found_in (keep p) (suc n) l = let q = found_in p n (omega arith) in (suc q.0, omega arith, q.2)
found_in swap zero l = (1, omega arith, refl)
found_in swap (suc zero) l = (0, omega arith, refl)
found_in swap (suc (suc n)) l = (suc (suc n), l, refl)
found_in (then p q) n l =
    let r = found_in q n l in let s = found_in p r.0 r.1 in (s.0, s.1, s.2 ∙ r.2)
