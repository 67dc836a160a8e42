-- A program has a row or a TABLE exactly if it counts one. Assumes nothing.
use Prim.Native.Nat.{ℕ, zero, suc, ◌+◌, ◌<◌}
use mathlib.Core.List.{List, [], ◌∷◌}
use mathlib.Core.Logic.{◌↔◌}
use native.Mathlib.Decide.{dec_lt}
use native.Mathlib.Omega.{arith}
use lib.ListN.{length, get_or}
use Rattle.model.specs.Rules.Program.{
  Program,
  Signal,
  Body,
  input,
  equation,
  Expr,
  constant,
  read,
  binary,
  unary,
  choose,
  no_signal,
  signal_at,
  expr_lookups,
  body_lookups,
  lookups,
}
use Rattle.model.specs.declared.Unary.TheVariants.{Negate, Table}
use Rattle.theorems_pairs.specs.Conditions.{HasTable}
use Rattle.theorems_pairs.specs.Subexpression.{Subexpression, LooksUp}

-- A TABLE that stands in an expression.
abbrev Looks : Expr → Type 0
Looks e = (operand : Expr) × Subexpression (unary Table operand) e

looks : (e : Expr) → 0 < expr_lookups e → Looks e
looks (constant w) h = absurd (omega arith)
looks (read ρ) h = absurd (omega arith)
looks (binary operator x y) h = go (dec_lt 0 (expr_lookups x)) (looks x) (looks y)
  where
    go : Dec (0 < expr_lookups x) → (0 < expr_lookups x → Looks x) → (0 < expr_lookups y → Looks y) → Looks (binary operator x y)
    go (yes l) f g = let q = f l in (q.0, Subexpression.left q.1)
    go (no l) f g = let q = g (omega arith) in (q.0, Subexpression.right q.1)
looks (unary Negate x) h = let q = looks x (omega arith) in (q.0, Subexpression.under q.1)
looks (unary Table x) h = (x, Subexpression.whole)
looks (choose x y z) h = go (dec_lt 0 (expr_lookups x)) (dec_lt 0 (expr_lookups y)) (looks x) (looks y) (looks z)
  where
    go : Dec (0 < expr_lookups x) → Dec (0 < expr_lookups y) → (0 < expr_lookups x → Looks x) → (0 < expr_lookups y → Looks y) →
        (0 < expr_lookups z → Looks z) → Looks (choose x y z)
    go (yes l) d f g k = let q = f l in (q.0, Subexpression.condition q.1)
    go (no l) (yes m) f g k = let q = g m in (q.0, Subexpression.first q.1)
    go (no l) (no m) f g k = let q = k (omega arith) in (q.0, Subexpression.second q.1)

counted : {operand e : Expr} → Subexpression (unary Table operand) e → 0 < expr_lookups e
counted Subexpression.whole = omega arith
counted (Subexpression.left s) = omega (arith, counted s)
counted (Subexpression.right s) = omega (arith, counted s)
counted (Subexpression.under s) = omega (arith, counted s)
counted (Subexpression.condition s) = omega (arith, counted s)
counted (Subexpression.first s) = omega (arith, counted s)
counted (Subexpression.second s) = omega (arith, counted s)

-- In the equations of signals.
pub body-looks : (b : Body) → (0 < body_lookups b) ↔ LooksUp b
body-looks input = (λ h. omega arith, λ h. absurd h)
body-looks (equation weight e) = (looks e, λ h. counted h.1)

some_looks : (xs : List Signal) → 0 < lookups xs → (x : ℕ) × (x < length xs) × (0 < body_lookups (get_or xs x no_signal).body)
unfolding lookups
some_looks [] h = absurd (omega arith)
some_looks (x ∷ xs) h = go (dec_lt 0 (body_lookups x.body)) (some_looks xs)
  where
    go : Dec (0 < body_lookups x.body) →
        (0 < lookups xs → (y : ℕ) × (y < length xs) × (0 < body_lookups (get_or xs y no_signal).body)) →
        (y : ℕ) × (y < length (x ∷ xs)) × (0 < body_lookups (get_or (x ∷ xs) y no_signal).body)
    go (yes l) f = (0, omega arith, l)
    go (no l) f = let q = f (omega arith) in (suc q.0, omega (arith, q.1), q.2)

looks-some : (xs : List Signal) (x : ℕ) → x < length xs → 0 < body_lookups (get_or xs x no_signal).body → 0 < lookups xs
unfolding lookups
looks-some [] x l h = absurd (omega arith)
looks-some (y ∷ xs) zero l h = omega arith
looks-some (y ∷ xs) (suc x) l h = omega (arith, looks-some xs x (omega arith) h)

pub has-table : (p : Program) → HasTable p ↔ (0 < length p.rows + lookups p.signals)
has-table p = (λ h. to h, λ h. from (dec_lt 0 (length p.rows)) h)
  where
    to : HasTable p → 0 < length p.rows + lookups p.signals
    to (HasTable.row l) = omega arith
    to (HasTable.lookup x l h) = omega (arith, looks-some p.signals x l ((body-looks (signal_at p x).body).1 h))

    from : Dec (0 < length p.rows) → 0 < length p.rows + lookups p.signals → HasTable p
    from (yes l) h = HasTable.row l
    from (no l) h =
        let q = some_looks p.signals (omega arith) in
        HasTable.lookup q.0 q.1 ((body-looks (signal_at p q.0).body).0 q.2)
