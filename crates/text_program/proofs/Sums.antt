-- Tables of where the parts of the signals start, and stretches of a list. Assumes nothing.
use mathlib.Core.Path.{◌≡◌, refl, sym, ap, ◌∙◌}
use mathlib.Core.List.{List, [], ◌∷◌}
use Prim.Native.Nat.{ℕ, zero, suc, ◌+◌, ◌-◌, ◌≤◌, ◌<◌}
use native.Mathlib.Decide.{dec_lt}
use native.Mathlib.Omega.{arith}
use lib.ListN.{length, get_or, set, length-append, length-set, get_or-append}
use lib.Seq.{sets, get_or-append_seam, get_or-set_same, get_or-set_other}
use Rattle.model.specs.Rules.Program.{Program, Signal, no_signal, count, signal_at, with_signal}
use Rattle.text_program.specs.Tables.{Sums}

-- A stretch leaves what stands before it, and has its elements.
pub sets-before : (l : List ℕ) (n : ℕ) (xs : List ℕ) (i : ℕ) → i < n → get_or (sets l n xs) i 0 ≡ get_or l i 0
sets-before l n [] i h = refl
sets-before l n (x ∷ xs) i h =
    sets-before (set l n x) (suc n) xs i (omega arith) ∙ get_or-set_other l n i x 0 (λ e. omega arith)

pub sets-inside : (l : List ℕ) (n : ℕ) (xs : List ℕ) (j : ℕ) → j < length xs → n + length xs ≤ length l →
    get_or (sets l n xs) (n + j) 0 ≡ get_or xs j 0
sets-inside l n [] j lt le = absurd (omega arith)
sets-inside l n (x ∷ xs) zero lt le =
    let e : n + 0 ≡ n = omega arith in
    rw e (sets-before (set l n x) (suc n) xs n (omega arith) ∙ get_or-set_same l n x 0 (omega arith))
sets-inside l n (x ∷ xs) (suc j) lt le =
    let e : n + suc j ≡ suc n + j = omega arith in
    rw e (sets-inside (set l n x) (suc n) xs j (omega arith) (omega (arith, length-set l n x)))

module _ (p : Program) (x : Signal) where
  -- The signals of a program with one more.
  pub signal-old : (y : ℕ) → y < count p → signal_at (with_signal p x) y ≡ signal_at p y
  signal-old y lt = get_or-append p.signals (x ∷ []) no_signal y lt

  pub signal-new : signal_at (with_signal p x) (count p) ≡ x
  signal-new = get_or-append_seam p.signals x [] no_signal

  pub signal-count : count (with_signal p x) ≡ count p + 1
  signal-count = length-append p.signals (x ∷ [])

module _ (f : ℕ → Signal → ℕ) {p : Program} {table : List ℕ} (s : Sums f p table) where
  pub sums-rise : (y d : ℕ) → y + d ≤ count p → get_or table y 0 ≤ get_or table (y + d) 0
  sums-rise y zero le = let e : y + 0 ≡ y = omega arith in rw e (omega arith)
  sums-rise y (suc d) le =
      let e : y + suc d ≡ suc (y + d) = omega arith in
      rw e (omega (arith, sums-rise y d (omega arith), s.rises (y + d) (omega arith)))

  -- What signal y has ends where the next starts, or before.
  pub sums-below : (y k : ℕ) → y < k → k ≤ count p → get_or table y 0 + f y (signal_at p y) ≤ get_or table k 0
  sums-below y k lt le = go (k - suc y) (omega arith)
    where
      go : (d : ℕ) → suc y + d ≡ k → get_or table y 0 + f y (signal_at p y) ≤ get_or table k 0
      go d e = omega (arith, s.rises y (omega arith), rw e at (sums-rise (suc y) d (omega arith)))

  -- One signal more.
  pub sums-more : (x : Signal) (k n m : ℕ) → count p ≡ k → k + 1 < length table → get_or table k 0 ≡ n → m ≡ n + f k x →
      Sums f (with_signal p x) (set table (k + 1) m)
  sums-more x k n m c room at e =
      record {
        from_zero = get_or-set_other table (k + 1) 0 m 0 (λ z. omega arith) ∙ s.from_zero;
        rises = λ y lt. go y (dec_lt y k) (omega (arith, signal-count p x));
      }
    where
      old : (y : ℕ) → y < k + 1 → get_or (set table (k + 1) m) y 0 ≡ get_or table y 0
      old y lt = get_or-set_other table (k + 1) y m 0 (λ z. omega arith)

      go : (y : ℕ) → Dec (y < k) → y < k + 1 →
          get_or (set table (k + 1) m) (suc y) 0 ≡ get_or (set table (k + 1) m) y 0 + f y (signal_at (with_signal p x) y)
      go y (yes q) lt =
          rw (old (suc y) (omega arith), old y lt, signal-old p x y (omega arith)) (s.rises y (omega arith))
      go y (no q) lt =
          let z : y ≡ k = omega arith in
          let w : suc k ≡ k + 1 = omega arith in
          let v : signal_at (with_signal p x) k ≡ x = ap (signal_at (with_signal p x)) (sym c) ∙ signal-new p x in
          rw (z, w, get_or-set_same table (k + 1) m 0 room, old k (omega arith), at, v) e
