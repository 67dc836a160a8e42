-- Words as numbers from 0 to 2^32 − 1 in the same order. Assumes nothing.
use mathlib.Core.Path.{◌≡◌, refl, sym, ap, ◌∙◌}
use mathlib.Core.Bool.{true, false≢true, and-eq-true_iff}
use mathlib.Core.List.{List}
use Prim.Native.Nat.{ℕ, zero, suc, ◌+◌, ◌-◌, ◌≤◌, ◌<◌}
use native.Mathlib.Decide.{dec_lt}
use native.Mathlib.Omega.{arith}
use borrow.Author.Rules.{sfits_of}
use borrow.Author.Tests.{leb-true, ltb-true, le-leb, lt-ltb, eqb-true, eq-eqb}
use lib.IntN.{ℤ, pos, negsuc, suc_ℤ}
use lib.ListN.{length}
use lib.Signed.{lt_z, le_z}
use mir.Syntax.{w32}
use Rattle.model.specs.Rules.Word.{eq_z}
use Rattle.model.specs.Rules.Cover.{least_word, greatest_word}
use Rattle.model.specs.Rules.Table.{Row, contains, row_at}
use Rattle.model.specs.Says.Rows.{Upright, Lies}
use Rattle.model.specs.Says.Words.{IsWord}
use Rattle.model.proofs.Basics.Order.{le-true, true-le}

-- −2^31 is 0, 2^31 − 1 is 2^32 − 1.
abbrev pub level : ℤ → ℕ
level (pos n) = 2147483648 + n
level (negsuc n) = 2147483647 - n

abbrev pub top : ℕ
top = 4294967295

pub level-top : (w : ℤ) → IsWord w → level w ≤ top
level-top (pos n) f = let l = f.sfits in omega arith
level-top (negsuc n) f = omega arith

-- The order.
pub le-level : (a b : ℤ) → IsWord a → IsWord b → le_z a b ≡ true → level a ≤ level b
le-level (pos a) (pos b) f g h = omega (arith, leb-true a b h)
le-level (pos a) (negsuc b) f g h = absurd (false≢true h)
le-level (negsuc a) (pos b) f g h = omega arith
le-level (negsuc a) (negsuc b) f g h = omega (arith, leb-true b a h)

pub level-le : (a b : ℤ) → IsWord a → IsWord b → level a ≤ level b → le_z a b ≡ true
level-le (pos a) (pos b) f g h = le-leb a b (omega arith)
level-le (pos a) (negsuc b) f g h = absurd (omega arith)
level-le (negsuc a) (pos b) f g h = refl
level-le (negsuc a) (negsuc b) f g h = let l = f.sfits in let m = g.sfits in le-leb b a (omega arith)

pub lt-level : (a b : ℤ) → IsWord a → IsWord b → lt_z a b ≡ true → level a < level b
lt-level (pos a) (pos b) f g h = omega (arith, ltb-true a b h)
lt-level (pos a) (negsuc b) f g h = absurd (false≢true h)
lt-level (negsuc a) (pos b) f g h = omega arith
lt-level (negsuc a) (negsuc b) f g h = let l = f.sfits in let m = g.sfits in omega (arith, ltb-true b a h)

pub level-lt : (a b : ℤ) → IsWord a → IsWord b → level a < level b → lt_z a b ≡ true
level-lt (pos a) (pos b) f g h = lt-ltb a b (omega arith)
level-lt (pos a) (negsuc b) f g h = absurd (omega arith)
level-lt (negsuc a) (pos b) f g h = refl
level-lt (negsuc a) (negsuc b) f g h = lt-ltb b a (omega arith)

pub same-level : (a b : ℤ) → IsWord a → IsWord b → level a ≡ level b → a ≡ b
same-level (pos a) (pos b) f g h = ap pos (omega arith)
same-level (pos a) (negsuc b) f g h = absurd (omega arith)
same-level (negsuc a) (pos b) f g h = absurd (omega arith)
same-level (negsuc a) (negsuc b) f g h = let l = f.sfits in let m = g.sfits in ap negsuc (omega arith)

-- The next word.
pub level-next : (a : ℤ) → IsWord a → level (suc_ℤ a) ≡ suc (level a)
level-next (pos n) f = omega arith
level-next (negsuc zero) f = refl
level-next (negsuc (suc n)) f = let l = f.sfits in omega arith

pub next_word : (a : ℤ) → IsWord a → level a < top → IsWord (suc_ℤ a)
next_word (pos n) f h = sfits_of {w = w32} (omega arith)
next_word (negsuc zero) f h = sfits_of {w = w32} (omega arith)
next_word (negsuc (suc n)) f h = let l = f.sfits in sfits_of {w = w32} (omega arith)

-- The word of a level.
pub record Levelled (k : ℕ) : Type 0 where
  pub word : ℤ
  pub is_word : IsWord word
  pub levels : level word ≡ k

pub levelled : (k : ℕ) → k ≤ top → Levelled k
levelled k h = go (dec_lt k 2147483648)
  where
    go : Dec (k < 2147483648) → Levelled k
    go (yes l) = record { word = negsuc (2147483647 - k); is_word = sfits_of {w = w32} (omega arith); levels = omega arith }
    go (no l) = record { word = pos (k - 2147483648); is_word = sfits_of {w = w32} (omega arith); levels = omega arith }

pub least-word : IsWord least_word
least-word = sfits_of {w = w32} (omega arith)

pub greatest-word : IsWord greatest_word
greatest-word = sfits_of {w = w32} (omega arith)

-- The words are the numbers between the ends of the range.
pub word-range : (w : ℤ) → IsWord w → (le_z least_word w ≡ true) × (le_z w greatest_word ≡ true)
word-range (pos n) f = let l = f.sfits in (refl, le-leb n 2147483647 (omega arith))
word-range (negsuc n) f = let l = f.sfits in (le-leb n 2147483647 (omega arith), refl)

pub range-word : (w : ℤ) → le_z least_word w ≡ true → le_z w greatest_word ≡ true → IsWord w
range-word (pos n) h k = let l = leb-true n 2147483647 k in sfits_of {w = w32} (omega arith)
range-word (negsuc n) h k = let l = leb-true n 2147483647 h in sfits_of {w = w32} (omega arith)

-- Equal words.
pub eq_z-true : (a b : ℤ) → eq_z a b ≡ true → a ≡ b
eq_z-true (pos a) (pos b) h = ap pos (eqb-true a b h)
eq_z-true (pos a) (negsuc b) h = absurd (false≢true h)
eq_z-true (negsuc a) (pos b) h = absurd (false≢true h)
eq_z-true (negsuc a) (negsuc b) h = ap negsuc (eqb-true a b h)

pub true-eq_z : (a b : ℤ) → a ≡ b → eq_z a b ≡ true
true-eq_z a b h = ap (eq_z a) (sym h) ∙ self a
  where
    self : (a : ℤ) → eq_z a a ≡ true
    self (pos a) = eq-eqb a a refl
    self (negsuc a) = eq-eqb a a refl

-- A row contains what lies between its ends.
pub contains-level : (r : Row) (w : ℤ) → Upright r → IsWord w → contains r w ≡ true → (level r.low ≤ level w) ×
    (level w ≤ level r.high)
unfolding contains
contains-level r w u f h =
    let p = (and-eq-true_iff (le_z r.low w) (le_z w r.high)).0 h in
    (le-level r.low w u.low_word f p.0, le-level w r.high f u.high_word p.1)

pub level-contains : (r : Row) (w : ℤ) → Upright r → IsWord w → level r.low ≤ level w → level w ≤ level r.high → contains
    r w ≡ true
unfolding contains
level-contains r w u f h k =
    (and-eq-true_iff (le_z r.low w) (le_z w r.high)).1 (
      level-le r.low w u.low_word f h,
      level-le w r.high f
          u.high_word k,
    )

pub upright-level : (r : Row) → Upright r → level r.low ≤ level r.high
upright-level r u = le-level r.low r.high u.low_word u.high_word (le-true u.upright)

-- The test of a row, and the statement.
pub lies-contains : {rows : List Row} {w : ℤ} {n : ℕ} → Lies rows w n → contains (row_at rows n) w ≡ true
unfolding contains
lies-contains l = (and-eq-true_iff _ _).1 (le-true l.from_low, le-true l.to_high)

pub contains-lies : (rows : List Row) (w : ℤ) (n : ℕ) → n < length rows → contains (row_at rows n) w ≡ true → Lies rows w n
unfolding contains
contains-lies rows w n l h =
    let p = (and-eq-true_iff (le_z (row_at rows n).low w) (le_z w (row_at rows n).high)).0 h in
    record { inside = l; from_low = true-le p.0; to_high = true-le p.1 }
