-- Marks by signal, as bytes, and the reads that they are made by.
use Rattle.std.specs.Prelude.{ℕ, ◌≤◌, ◌<◌, Bool, false, ◌||◌, List, ◌≡◌, eqb, length, get_or}
use Rattle.model.specs.Rules.Dependents.{mark_byte}
use Rattle.model.specs.Rules.Program.{Read, signal_at, body_reads}
use Rattle.model.specs.Says.Feasible.{All}
use Rattle.text_program.specs.Tables.{Indexed}

-- Signal w is i, or marked.
abbrev pub is_marked : List ℕ → ℕ → ℕ → Bool
is_marked marks i w = eqb w i || eqb (get_or marks w 0) 1

-- The bytes are these marks.
pub record MarksBy (bs : List Bool) (marks : List ℕ) : Type 0 where
  pub long : length marks ≡ 64
  pub are : (y : ℕ) → get_or marks y 0 ≡ mark_byte (get_or bs y false)

-- The text is a program of n signals, at most 64, whose reads the table has; and each is of one of these.
pub record ReadsDeclared (text reads firsts : List ℕ) (n : ℕ) : Type 0 where
  pub indexed : Indexed text reads firsts n
  pub few : n ≤ 64
  pub declared : (x : ℕ) → x < n → All (λ (ρ : Read). ρ.operands.signal < n) (body_reads (signal_at indexed.0 x).body)
