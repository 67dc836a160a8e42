-- Leaves: the commands that push a word, 50 PUSH, 51 LOAD and 52 FETCH.
use Rattle.std.specs.Prelude.{ℕ, ◌+◌, Bool, true, false, cond, ◌&&◌, List, ltb, eqb, ℤ, pos, length, get_or}
use Rattle.model.specs.Rules.Width.{in_code}
use Rattle.model.specs.declared.Code.{Code}
use Rattle.model.specs.declared.Code.TheVariants as Code

-- The word that a leaf pushes.
abbrev pub leaf_word : List ℤ → List ℤ → Code → ℤ
leaf_word state samples (Code.Push w) = w
leaf_word state samples (Code.Load x) = get_or state (x + 1) (pos 0)
leaf_word state samples (Code.Fetch x) = get_or samples x (pos 0)
leaf_word state samples (Code.Store x) = pos 0
leaf_word state samples (Code.Binary operator) = pos 0
leaf_word state samples (Code.Unary operator) = pos 0
leaf_word state samples Code.If = pos 0
leaf_word state samples Code.EndsEarly = pos 0
leaf_word state samples Code.Unknown = pos 0

-- It is a leaf, and what it reads is there: a LOAD or FETCH names a word of the state and a sample.
abbrev pub leaf_ok : List ℤ → List ℤ → Code → Bool
leaf_ok state samples (Code.Push w) = true
leaf_ok state samples (Code.Load x) = ltb (x + 1) (length state) && ltb x (length samples)
leaf_ok state samples (Code.Fetch x) = ltb (x + 1) (length state) && ltb x (length samples)
leaf_ok state samples (Code.Store x) = false
leaf_ok state samples (Code.Binary operator) = false
leaf_ok state samples (Code.Unary operator) = false
leaf_ok state samples Code.If = false
leaf_ok state samples Code.EndsEarly = false
leaf_ok state samples Code.Unknown = false

-- The bytes of a leaf, by its first.
abbrev pub leaf_length : ℕ → ℕ
leaf_length b = cond (eqb b 0x50) (in_code 0x50) (in_code 0x51)
