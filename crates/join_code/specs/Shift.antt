-- Code as commands, one after another, and the base of a part added to each LOAD.
use Rattle.std.specs.Prelude.{ℕ, suc, ◌+◌, ◌%◌, cond, List, [], ◌∷◌, ◌++◌, map, ◌≡◌, eqb, length, get_or, set}
use Rattle.model.specs.Rules.Image.{joined, binary_byte, unary_byte}
use Rattle.model.specs.Rules.Program.{Expr, constant, read, binary, unary, choose}
use Rattle.model.specs.Rules.Width.{in_code}
use Rattle.model.specs.Rules.Word.{word_bytes}
use Rattle.model.specs.Says.Feasible.{All}

-- The command at `at`, its operand with the base added if it is a LOAD.
unfoldable pub shift_at : ℕ → ℕ → List ℕ → List ℕ
shift_at base at out =
    cond (eqb (get_or out at 0) 0x51) (set out (at + 1) ((get_or out (at + 1) 0 + base) % 256)) out

-- The bytes of one command: a LOAD, or another that is as wide as the list says.
pub data Command : List ℕ → Type 0 where
  load : (s : ℕ) → Command (0x51 ∷ s ∷ [])
  other : (b : ℕ) (bs : List ℕ) → ¬ (b ≡ 0x51) → suc (length bs) ≡ in_code b → Command (b ∷ bs)

-- The same of one command by itself.
abbrev pub shift_piece : ℕ → List ℕ → List ℕ
shift_piece base [] = []
shift_piece base (b ∷ []) = b ∷ []
shift_piece base (b ∷ (s ∷ rest)) = cond (eqb b 0x51) (b ∷ ((s + base) % 256) ∷ rest) (b ∷ s ∷ rest)

-- From `from` up to `to` stands the code of so many commands.
pub record Coded (out : List ℕ) (from to : ℕ) : Type 0 where
  pub front : List ℕ
  pub pieces : List (List ℕ)
  pub back : List ℕ
  pub is : out ≡ front ++ (joined pieces ++ back)
  pub starts : from ≡ length front
  pub ends : to ≡ from + length (joined pieces)
  pub commands : All Command pieces

abbrev pub shifted : ℕ → {out : List ℕ} {from to : ℕ} → Coded out from to → List ℕ
shifted base r = r.front ++ (joined (map (shift_piece base) r.pieces) ++ r.back)

-- The commands of an expression.
unfoldable pub expr_pieces : Expr → List (List ℕ)
expr_pieces (constant w) = (0x50 ∷ word_bytes w) ∷ []
expr_pieces (read ρ) = (0x51 ∷ ρ.operands.signal ∷ []) ∷ []
expr_pieces (binary operator x y) = expr_pieces x ++ (expr_pieces y ++ ((binary_byte operator ∷ []) ∷ []))
expr_pieces (unary operator x) = expr_pieces x ++ ((unary_byte operator ∷ []) ∷ [])
expr_pieces (choose x y z) = expr_pieces x ++ (expr_pieces y ++ (expr_pieces z ++ ((0x3A ∷ []) ∷ [])))
