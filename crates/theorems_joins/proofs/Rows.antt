-- The rows of joined parts are those of the one part that has some, and a program's rows matter to its TABLEs only.
-- Assumes nothing.
use Prim.Native.Nat.{ℕ, suc, ◌+◌, ◌≤◌, ◌<◌}
use mathlib.Core.Bool.{Bool, true, false, cond}
use mathlib.Core.List.{List, [], ◌∷◌, ◌++◌, append-nil}
use mathlib.Core.Logic.{◌↔◌}
use mathlib.Core.Path.{◌≡◌, refl, sym, ap, ap₂, subst, ◌∙◌}
use native.Mathlib.Decide.{dec_lt}
use native.Mathlib.Omega.{arith}
use lib.Dec.{eqb}
use lib.IntN.{ℤ}
use lib.ListN.{length, length-append}
use Rattle.model.specs.Rules.Parts.{
  Part,
  renumber_expr,
  renumber_body,
  ◌⊕◌,
  joined_parts,
  tabled_parts,
  part_at,
  Wire,
  wire_read,
  wired_body,
}
use Rattle.model.specs.Rules.Program.{
  Body,
  input,
  equation,
  Expr,
  constant,
  read,
  binary,
  unary,
  choose,
  Read,
  expr_lookups,
  body_lookups,
}
use Rattle.model.specs.Rules.Table.{Row, unary_word}
use Rattle.model.specs.Rules.Word.{binary_word}
use Rattle.model.specs.declared.Unary.TheVariants.{Negate, Table}
use Rattle.model.proofs.Joining.Tabled.{
  rows_of,
  no_rows,
  tabled,
  some-tabled,
  not-tabled,
  none-tabled,
  none-counted,
  two-counted,
}
use Rattle.theorems_joins.specs.Join.{OneTable}
use Rattle.theorems_streams.specs.Streams.{value, next}

-- Rows matter where there is a TABLE.
module _ (rows rows' : List Row) (word : Read → ℤ) where
  value-rows : (e : Expr) → (0 < expr_lookups e → rows ≡ rows') → value rows word e ≡ value rows' word e
  unfolding value
  value-rows (constant w) h = refl
  value-rows (read ρ) h = refl
  value-rows (binary operator x y) h =
      ap₂ (binary_word operator) (value-rows x (λ l. h (omega arith))) (value-rows y (λ l. h (omega arith)))
  value-rows (unary Negate x) h = ap (unary_word rows Negate) (value-rows x (λ l. h (omega arith)))
  value-rows (unary Table x) h = ap (λ (r : List Row). value r word (unary Table x)) (h (omega arith))
  value-rows (choose x y z) h =
      let a = value-rows x (λ l. h (omega arith)) in
      let b = value-rows y (λ l. h (omega arith)) in
      let c = value-rows z (λ l. h (omega arith)) in
      cc

  pub next-rows : (given : ℤ) (b : Body) → (0 < body_lookups b → rows ≡ rows') →
      next rows word given b ≡ next rows' word given b
  next-rows given input h = refl
  next-rows given (equation weight e) h = value-rows e h

-- New numbers and links add no TABLE.
renumber-expr-lookups : (f : ℕ → ℕ) (e : Expr) → expr_lookups (renumber_expr f e) ≡ expr_lookups e
unfolding renumber_expr
renumber-expr-lookups f (constant w) = refl
renumber-expr-lookups f (read ρ) = refl
renumber-expr-lookups f (binary operator x y) = ap₂ ◌+◌ (renumber-expr-lookups f x) (renumber-expr-lookups f y)
renumber-expr-lookups f (unary operator x) = omega (arith, renumber-expr-lookups f x)
renumber-expr-lookups f (choose x y z) =
    ap₂ ◌+◌ (renumber-expr-lookups f x) (ap₂ ◌+◌ (renumber-expr-lookups f y) (renumber-expr-lookups f z))

pub renumber-lookups : (f : ℕ → ℕ) (b : Body) → body_lookups (renumber_body f b) ≡ body_lookups b
renumber-lookups f input = refl
renumber-lookups f (equation weight e) = renumber-expr-lookups f e

pub wired-lookups : (ls : List Wire) (x : ℕ) (b : Body) → body_lookups (wired_body ls x b) ≤ body_lookups b
unfolding wired_body
wired-lookups [] x b = omega arith
wired-lookups (l ∷ ls) x b = go (eqb l.input x) (wired-lookups ls x b)
  where
    go : (t : Bool) → body_lookups (wired_body ls x b) ≤ body_lookups b →
        body_lookups (cond t (equation 0 (read (wire_read l))) (wired_body ls x b)) ≤ body_lookups b
    go true ih = omega arith
    go false ih = ih

-- Of two parts, the second has no rows if the first has some.
abbrev pub Apart : Part → Part → Type 0
Apart a b = 0 < length a.program.rows → b.program.rows ≡ []

module _ (a b : Part) where
  pub join-rows : length (a ⊕ b).program.rows ≡ length a.program.rows + length b.program.rows
  unfolding ◌⊕◌
  join-rows = length-append a.program.rows b.program.rows

  module _ (apart : Apart a b) where
    pub first_rows : 0 < length a.program.rows → (a ⊕ b).program.rows ≡ a.program.rows
    unfolding ◌⊕◌
    first_rows some = ap (λ (rows : List Row). a.program.rows ++ rows) (apart some) ∙ append-nil a.program.rows

    pub without-first : ¬ (0 < length a.program.rows) → (a ⊕ b).program.rows ≡ b.program.rows
    unfolding ◌⊕◌
    without-first none = ap (λ (rows : List Row). rows ++ b.program.rows) (no_rows a.program.rows none)

    pub second-rows : 0 < length b.program.rows → (a ⊕ b).program.rows ≡ b.program.rows
    second-rows some =
        without-first (λ l. absurd (omega (arith, ap (λ (rows : List Row). length rows) (apart l))))

-- All parts.
pub rows_none : (parts : List Part) → ((k : ℕ) → k < length parts → ¬ (0 < rows_of (part_at parts k))) →
    (joined_parts parts).program.rows ≡ []
rows_none parts h = none-tabled parts (none-counted parts h)

module _ (a : Part) (rest : List Part) (one : OneTable (a ∷ rest)) where
  pub one-rest : OneTable rest
  one-rest j k lj lk s t = omega (arith, one (suc j) (suc k) (omega arith) (omega arith) s t)

  pub one_apart : Apart a (joined_parts rest)
  one_apart s =
      rows_none rest (λ k lt t. absurd (omega (arith, one 0 (suc k) (omega arith) (omega arith) s t)))

-- What holds of no rows and of the rows of each part holds of the joined rows.
pub rows-one : (parts : List Part) → OneTable parts → (P : List Row → Type 0) → P [] →
    ((k : ℕ) → k < length parts → P (part_at parts k).program.rows) → P (joined_parts parts).program.rows
unfolding joined_parts
rows-one [] one P none each = none
rows-one (a ∷ rest) one P none each =
    go (dec_lt 0 (length a.program.rows))
    (rows-one rest (one-rest a rest one) P none (λ k lt. each (suc k) (omega arith)))
  where
    go : Dec (0 < length a.program.rows) → P (joined_parts rest).program.rows → P (a ⊕ joined_parts rest).program.rows
    go (yes s) ih = subst P (sym (first_rows a (joined_parts rest) (one_apart a rest one) s)) (each 0 (omega arith))
    go (no n) ih = subst P (sym (without-first a (joined_parts rest) (one_apart a rest one) n)) ih

-- At most one part is counted exactly if rows stand in one part only.
counted-one : (parts : List Part) → tabled_parts parts ≤ 1 → OneTable parts
counted-one parts few j k lj lk s t = go (dec_lt j k) (dec_lt k j)
  where
    go : Dec (j < k) → Dec (k < j) → j ≡ k
    go (yes l) d = absurd (omega (arith, two-counted parts j k l lk s t))
    go (no l) (yes m) = absurd (omega (arith, two-counted parts k j m lj t s))
    go (no l) (no m) = omega arith

one-counted : (parts : List Part) → OneTable parts → tabled_parts parts ≤ 1
unfolding tabled_parts
one-counted [] h = omega arith
one-counted (a ∷ rest) h = go (dec_lt 0 (rows_of a)) (one-counted rest (one-rest a rest h))
  where
    go : Dec (0 < rows_of a) → tabled_parts rest ≤ 1 → tabled (rows_of a) + tabled_parts rest ≤ 1
    go (yes s) ih =
        omega (
          arith,
          some-tabled (rows_of a) s,
          none-counted rest (λ k lt t. absurd (omega (arith, h 0 (suc k) (omega arith) (omega arith) s t))),
        )
    go (no n) ih = omega (arith, not-tabled (rows_of a) n)

pub one-table : (parts : List Part) → (tabled_parts parts ≤ 1) ↔ OneTable parts
one-table parts = (counted-one parts, one-counted parts)
