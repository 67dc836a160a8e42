-- The value of an expression, and the next word of a signal, depend on the words of its reads only. Assumes nothing.
use mathlib.Core.List.{List, ◌++◌}
use mathlib.Core.Path.{◌≡◌, refl, ap, ap₂}
use lib.IntN.{ℤ}
use Rattle.model.specs.Says.Feasible.{All}
use Rattle.model.specs.Rules.Program.{
  Body,
  input,
  equation,
  Expr,
  constant,
  read,
  binary,
  unary,
  choose,
  Read,
  reads_of,
  body_reads,
}
use Rattle.model.specs.Rules.Table.{Row, unary_word}
use Rattle.model.specs.Rules.Word.{binary_word}
use Rattle.theorems_streams.specs.Held.{IsInput}
use Rattle.theorems_streams.specs.Streams.{value, next}
use Rattle.model.proofs.Basics.All.{all_split}

module _ (rows : List Row) (Q : Read → Type 0) (word word' : Read → ℤ) (same : (ρ : Read) → Q ρ → word ρ ≡ word' ρ) where
  pub value_same : (e : Expr) → All Q (reads_of e) → value rows word e ≡ value rows word' e
  unfolding value reads_of
  value_same (constant w) q = refl
  value_same (read ρ) q = same ρ q.0
  value_same (binary operator x y) q =
      let h = all_split Q (reads_of x) (reads_of y) q in ap₂ (binary_word operator) (value_same x h.0) (value_same y h.1)
  value_same (unary operator x) q = ap (unary_word rows operator) (value_same x q)
  value_same (choose x y z) q =
      let h = all_split Q (reads_of x) (reads_of y ++ reads_of z) q in
      let g = all_split Q (reads_of y) (reads_of z) h.1 in
      let a = value_same x h.0 in
      let b = value_same y g.0 in
      let c = value_same z g.1 in
      cc

  pub next-same : (given : ℤ) (b : Body) → All Q (body_reads b) →
      next rows word given b ≡ next rows word' given b
  next-same given input q = refl
  next-same given (equation weight e) q = value_same e q

-- What is given matters to an input only.
pub next-given : (rows : List Row) (word : Read → ℤ) (x y : ℤ) (b : Body) → (IsInput b → x ≡ y) →
    next rows word x b ≡ next rows word y b
next-given rows word x y input h = h tt
next-given rows word x y (equation weight e) h = refl
