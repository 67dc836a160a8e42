-- How many parts have rows, and which rows the joined parts have. Assumes nothing.
use Prim.Native.Nat.{ℕ, zero, suc, ◌+◌, ◌≤◌, ◌<◌}
use mathlib.Core.Bool.{cond}
use mathlib.Core.List.{List, [], ◌∷◌, ◌++◌}
use mathlib.Core.Path.{◌≡◌, refl, ap, ap₂}
use native.Mathlib.Omega.{arith}
use borrow.Author.Tests.{lt-ltb, le-ltb}
use lib.Dec.{ltb}
use lib.ListN.{length}
use Rattle.model.specs.Rules.Parts.{Part, ◌⊕◌, joined_parts, tabled_parts, part_at}
use Rattle.model.specs.Rules.Table.{Row}
use Rattle.model.proofs.Joining.Parts.{joined-last}

-- How many rows a part has.
abbrev pub rows_of : Part → ℕ
rows_of a = length a.program.rows

pub no_rows : (rows : List Row) → ¬ (0 < length rows) → rows ≡ []
no_rows [] h = refl
no_rows (r ∷ rows) h = absurd (h (omega arith))

-- What a part with n rows counts.
abbrev pub tabled : ℕ → ℕ
tabled n = cond (ltb 0 n) 1 0

pub some-tabled : (n : ℕ) → 0 < n → tabled n ≡ 1
some-tabled n lt = rw (lt-ltb 0 n lt)

pub not-tabled : (n : ℕ) → ¬ (0 < n) → tabled n ≡ 0
not-tabled n none = rw (le-ltb 0 n (omega arith))

-- One part more.
pub tabled-last : (parts : List Part) (a : Part) → tabled_parts (parts ++ (a ∷ [])) ≡ tabled_parts parts + tabled (rows_of a)
unfolding tabled_parts
tabled-last [] a = omega arith
tabled-last (b ∷ parts) a = omega (arith, tabled-last parts a)

pub rows_last : (parts : List Part) (a : Part) →
    (joined_parts (parts ++ (a ∷ []))).program.rows ≡ (joined_parts parts).program.rows ++ a.program.rows
unfolding ◌⊕◌
rows_last parts a = ap (λ (b : Part). b.program.rows) (joined-last parts a)

-- Where no part is counted, there are no rows.
pub none-tabled : (parts : List Part) → tabled_parts parts ≡ 0 → (joined_parts parts).program.rows ≡ []
unfolding tabled_parts joined_parts ◌⊕◌
none-tabled [] e = refl
none-tabled (b ∷ parts) e =
    ap₂ (λ (r s : List Row). r ++ s)
    (no_rows b.program.rows (λ some. absurd (omega (arith, some-tabled (rows_of b) some))))
    (none-tabled parts (omega arith))

-- A part is counted exactly if it has rows.
pub none-counted : (parts : List Part) → ((k : ℕ) → k < length parts → ¬ (0 < rows_of (part_at parts k))) → tabled_parts parts ≡ 0
unfolding tabled_parts
none-counted [] h = refl
none-counted (a ∷ rest) h =
    omega (arith, not-tabled (rows_of a) (h 0 (omega arith)), none-counted rest (λ k lt. h (suc k) (omega arith)))

some-counted : (parts : List Part) (k : ℕ) → k < length parts → 0 < rows_of (part_at parts k) → 1 ≤ tabled_parts parts
unfolding tabled_parts
some-counted [] k lt s = absurd (omega arith)
some-counted (a ∷ rest) zero lt s = omega (arith, some-tabled (rows_of a) s)
some-counted (a ∷ rest) (suc k) lt s = omega (arith, some-counted rest k (omega arith) s)

pub two-counted : (parts : List Part) (j k : ℕ) → j < k → k < length parts → 0 < rows_of (part_at parts j) →
    0 < rows_of (part_at parts k) → 2 ≤ tabled_parts parts
unfolding tabled_parts
two-counted [] j k lt lk s t = absurd (omega arith)
two-counted (a ∷ rest) j zero lt lk s t = absurd (omega arith)
two-counted (a ∷ rest) zero (suc k) lt lk s t =
    omega (arith, some-tabled (rows_of a) s, some-counted rest k (omega arith) t)
two-counted (a ∷ rest) (suc j) (suc k) lt lk s t = omega (arith, two-counted rest j k (omega arith) (omega arith) s t)
