-- Where the inputs are words every element of a stream is one, and each TABLE yields the result of one row. Assumes nothing.
use Prim.Native.Nat.{ℕ, zero, suc, ◌<◌}
use mathlib.Core.Bool.{Bool, true, false, cond}
use mathlib.Core.List.{List, [], ◌∷◌, ◌++◌}
use mathlib.Core.Path.{◌≡◌}
use native.Mathlib.Omega.{arith}
use borrow.Author.Rules.{sfits_of}
use lib.IntN.{ℤ, pos, neg_ℤ, ◌+ℤ◌, ◌-ℤ◌, ◌*ℤ◌}
use lib.ListN.{length}
use lib.Signed.{lt_z}
use mir.Syntax.{w32}
use Rattle.model.specs.Rules.Latency.{used}
use Rattle.model.specs.Rules.Program.{
  Program,
  Body,
  input,
  equation,
  Expr,
  constant,
  read,
  binary,
  unary,
  choose,
  Read,
  reads_of,
  body_reads,
  body_lookups,
  count,
  signal_at,
}
use Rattle.model.specs.Rules.Reads.{settled}
use Rattle.model.specs.Rules.Schedule.{Schedule}
use Rattle.model.specs.Rules.Table.{Row, contains, table_word, unary_word, row_at}
use Rattle.model.specs.Rules.Word.{
  bit_word,
  eq_z,
  add_word,
  sub_word,
  mul_word,
  neg_word,
  less_word,
  same_word,
  min_word,
  max_word,
  binary_word,
  if_word,
}
use Rattle.model.specs.Says.Feasible.{All, Met, Feasible}
use Rattle.model.specs.Says.Rows.{Lies}
use Rattle.model.specs.Says.Words.{IsWord}
use Rattle.model.specs.declared.Binary.{Binary}
use Rattle.model.specs.declared.Binary.TheVariants.{Add, Sub, Mul, Less, Same, Min, Max}
use Rattle.model.specs.declared.Unary.{Unary}
use Rattle.model.specs.declared.Unary.TheVariants.{Negate, Table}
use Rattle.theorems_streams.specs.Streams.{value, next, word_read, entry, Satisfies}
use Rattle.theorems_pairs.specs.Subexpression.{Subexpression}
use Rattle.theorems_images.specs.Tables.{Yields}
use Rattle.model.proofs.Basics.All.{all_split}
use Rattle.model.proofs.Images.Bounds.{Words, BodyWords, Bounded}
use Rattle.model.proofs.Rows.Rule.{table-rule}
use Rattle.theorems_images.proofs.Nearest.{nearest-is}
use Rattle.theorems_pairs.proofs.Lookups.{body-looks}
use Rattle.theorems_streams.proofs.Fix
use Rattle.theorems_streams.proofs.Unique.{number, used-lower, entry-same}

-- What the operators give for words are words.
either-word : (t : Bool) (a b : ℤ) → IsWord a → IsWord b → IsWord (cond t a b)
either-word true a b f g = f
either-word false a b f g = g

bit-word : (t : Bool) → IsWord (bit_word t)
bit-word true = sfits_of {w = w32} (omega arith)
bit-word false = sfits_of {w = w32} (omega arith)

binary-word : (operator : Binary) (a b : ℤ) → IsWord a → IsWord b → IsWord (binary_word operator a b)
unfolding add_word sub_word mul_word less_word same_word min_word max_word
binary-word Add a b f g = (nearest-is (a +ℤ b)).word
binary-word Sub a b f g = (nearest-is (a -ℤ b)).word
binary-word Mul a b f g = (nearest-is (a *ℤ b)).word
binary-word Less a b f g = bit-word (lt_z a b)
binary-word Same a b f g = bit-word (eq_z a b)
binary-word Min a b f g = either-word (lt_z a b) a b f g
binary-word Max a b f g = either-word (lt_z a b) b a g f

abbrev Results : List Row → Type 0
Results rows = (n : ℕ) → n < length rows → IsWord (row_at rows n).result

table-word : (rows : List Row) → Results rows → (w : ℤ) → IsWord (table_word rows w)
unfolding table_word
table-word [] f w = sfits_of {w = w32} (omega arith)
table-word (row ∷ rows) f w =
    either-word (contains row w) row.result (table_word rows w) (f 0 (omega arith))
    (table-word rows (λ n l. f (suc n) (omega arith)) w)

unary-word : (rows : List Row) → Results rows → (operator : Unary) (a : ℤ) → IsWord (unary_word rows operator a)
unfolding neg_word
unary-word rows f Negate a = (nearest-is (neg_ℤ a)).word
unary-word rows f Table a = table-word rows f a

module _ (rows : List Row) (results : Results rows) (Q : Read → Type 0) (word : Read → ℤ)
    (fits : (ρ : Read) → Q ρ → IsWord (word ρ)) where
  -- An expression whose constants and reads are words.
  abbrev Fit : Expr → Type 0
  Fit e = Words e × All Q (reads_of e)

  pub value-word : (e : Expr) → Fit e → IsWord (value rows word e)
  unfolding value reads_of if_word
  value-word (constant w) q = q.0
  value-word (read ρ) q = fits ρ q.1.0
  value-word (binary operator x y) q =
      let h = all_split Q (reads_of x) (reads_of y) q.1 in
      binary-word operator (value rows word x) (value rows word y) (value-word x (q.0.0, h.0)) (value-word y (q.0.1, h.1))
  value-word (unary operator x) q = unary-word rows results operator (value rows word x)
  value-word (choose x y z) q =
      let h = all_split Q (reads_of x) (reads_of y ++ reads_of z) q.1 in
      let g = all_split Q (reads_of y) (reads_of z) h.1 in
      either-word (eq_z (value rows word x) (pos 0)) (value rows word z) (value rows word y)
      (value-word z (q.0.2, g.1)) (value-word y (q.0.1, g.0))

  pub next_word : (given : ℤ) → IsWord given → (b : Body) → BodyWords b → All Q (body_reads b) → IsWord (next rows word given b)
  next_word given f input w q = f
  next_word given f (equation weight e) w q = value-word e (w, q)

  -- What stands in such an expression is one.
  pub part-fits : {part e : Expr} → Subexpression part e → Fit e → Fit part
  unfolding reads_of
  part-fits Subexpression.whole q = q
  part-fits (Subexpression.left {x = x} {y = y} s) q =
      part-fits s (q.0.0, (all_split Q (reads_of x) (reads_of y) q.1).0)
  part-fits (Subexpression.right {x = x} {y = y} s) q =
      part-fits s (q.0.1, (all_split Q (reads_of x) (reads_of y) q.1).1)
  part-fits (Subexpression.under s) q = part-fits s q
  part-fits (Subexpression.condition {x = x} {y = y} {z = z} s) q =
      part-fits s (q.0.0, (all_split Q (reads_of x) (reads_of y ++ reads_of z) q.1).0)
  part-fits (Subexpression.first {x = x} {y = y} {z = z} s) q =
      let h = all_split Q (reads_of x) (reads_of y ++ reads_of z) q.1 in
      part-fits s (q.0.1, (all_split Q (reads_of y) (reads_of z) h.1).0)
  part-fits (Subexpression.second {x = x} {y = y} {z = z} s) q =
      let h = all_split Q (reads_of x) (reads_of y ++ reads_of z) q.1 in
      part-fits s (q.0.2, (all_split Q (reads_of y) (reads_of z) h.1).1)

module _ (p : Program) (s : Schedule) (h : ℕ) (acc : Feasible p s) (bounded : Bounded p s h) (inputs : ℕ → ℕ → ℤ)
    (given : (x k : ℕ) → x < count p → IsWord (inputs x k)) where
  keeps : (A : ℕ → ℕ → ℤ) (x j : ℕ) → x < count p →
      ((w i : ℕ) → w < count p → number p s w i < number p s x j → IsWord (A w i)) →
      IsWord (entry p (settled p s) inputs A x j)
  unfolding used
  keeps A x zero lt f = bounded.initials x lt
  keeps A x (suc k) lt f =
      next_word p.rows bounded.results (Met p s x) (word_read (settled p s) A x k)
      (λ ρ m. f ρ.operands.signal (used p s x k ρ) m.declared (used-lower p s acc x ρ k lt m))
      (inputs x k) (given x k lt) (signal_at p x).body (bounded.constants x lt) (acc.met x lt)

  module _ (X : ℕ → ℕ → ℤ) (sat : Satisfies p (settled p s) inputs X) where
    -- Every element is a word.
    pub elements-words : (x j : ℕ) → x < count p → IsWord (X x j)
    elements-words =
        Fix.holds (count p) (number p s) (entry p (settled p s) inputs) (entry-same p s acc inputs) IsWord keeps X sat

    -- A TABLE in an equation has a word as its operand, and yields the result of the one row that contains it.
    pub table-yields : (x k : ℕ) → x < count p → (weight : ℕ) (e operand : Expr) → (signal_at p x).body ≡ equation weight e →
        Subexpression (unary Table operand) e →
        Yields p.rows (value p.rows (word_read (settled p s) X x k) operand)
        (value p.rows (word_read (settled p s) X x k) (unary Table operand))
    unfolding value used reads_of
    table-yields x k lt weight e operand is sub =
        record {
          word = operand-word;
          row = one.0;
          lies = one.1;
          only = one.2;
          is = table-rule p.rows w one.0 one.1 one.2;
        }
      where
        words : Read → ℤ
        words = word_read (settled p s) X x k

        w : ℤ
        w = value p.rows words operand

        fits : (ρ : Read) → Met p s x ρ → IsWord (words ρ)
        fits ρ m = elements-words ρ.operands.signal (used p s x k ρ) m.declared

        body-words : BodyWords (equation weight e)
        body-words = rw is at (bounded.constants x lt)

        body-met : All (Met p s x) (body_reads (equation weight e))
        body-met = rw is at (acc.met x lt)

        operand-fits : Words operand × All (Met p s x) (reads_of operand)
        operand-fits = part-fits p.rows bounded.results (Met p s x) words fits sub (body-words, body-met)

        operand-word : IsWord w
        operand-word = value-word p.rows bounded.results (Met p s x) words fits operand operand-fits

        counted : 0 < body_lookups (equation weight e)
        counted = (body-looks (equation weight e)).1 (operand, sub)

        some : 0 < length p.rows
        some = bounded.served x lt (rw is counted)

        one : (n : ℕ) × Lies p.rows w n × ((m : ℕ) → Lies p.rows w m → m ≡ n)
        one = bounded.covers some w operand-word
