-- Streams: the sequences that satisfy all equations of a program.
use Rattle.std.specs.Prelude.{ℕ, zero, suc, ◌<◌, List, ◌≡◌, ℤ}
use Rattle.model.specs.Rules.Program.{
  Program,
  Body,
  input,
  equation,
  Expr,
  constant,
  read,
  binary,
  unary,
  choose,
  Read,
  count,
  signal_at,
}
use Rattle.model.specs.Rules.Reads.{uses}
use Rattle.model.specs.Rules.Table.{Row, unary_word}
use Rattle.model.specs.Rules.Word.{binary_word, if_word}

-- The value of an expression in a program with these rows, given the word of each read.
unfoldable pub value : List Row → (Read → ℤ) → Expr → ℤ
value rows word (constant w) = w
value rows word (read ρ) = word ρ
value rows word (binary operator x y) = binary_word operator (value rows word x) (value rows word y)
value rows word (unary operator x) = unary_word rows operator (value rows word x)
value rows word (choose x y z) = if_word (value rows word x) (value rows word y) (value rows word z)

-- The next word of a signal: an input's is given.
abbrev pub next : List Row → (Read → ℤ) → ℤ → Body → ℤ
next rows word given input = given
next rows word given (equation weight e) = value rows word e

-- The word that a read of signal x has for element k, from the histories X and the index of each read.
abbrev pub word_read : (ℕ → Read → ℕ) → (ℕ → ℕ → ℤ) → ℕ → ℕ → Read → ℤ
word_read index X x k ρ = X ρ.operands.signal (uses ρ.kind ρ.operands.factor (index x ρ) k)

-- What the equations make of entry j of signal x's history, from the histories X, the inputs' elements and the index of
-- each read.
abbrev pub entry : Program → (ℕ → Read → ℕ) → (ℕ → ℕ → ℤ) → (ℕ → ℕ → ℤ) → ℕ → ℕ → ℤ
entry p index inputs X x zero = (signal_at p x).initial
entry p index inputs X x (suc k) = next p.rows (word_read index X x k) (inputs x k) (signal_at p x).body

-- The streams X satisfy all equations of the program with these inputs.
abbrev pub Satisfies : Program → (ℕ → Read → ℕ) → (ℕ → ℕ → ℤ) → (ℕ → ℕ → ℤ) → Type 0
Satisfies p index inputs X = (x j : ℕ) → x < count p → X x j ≡ entry p index inputs X x j
