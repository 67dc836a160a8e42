-- Which signals are inputs, as an image tells it and as a table marks it.
use Rattle.std.specs.Prelude.{ℕ, Bool, true, false, cond, List, ltb, eqb}
use Rattle.model.specs.Rules.Machine.{count_of, code_offset}
use Rattle.model.specs.Rules.Word.{byte_at}

-- The code of an input starts with 52 FETCH.
unfoldable pub fetches : List ℕ → ℕ → Bool
fetches image x = cond (ltb x (count_of image)) (eqb (byte_at image (code_offset image x)) 0x52) false

-- A table has 1 for each input, and 0 for the others.
abbrev pub mark_of : Bool → ℕ
mark_of true = 1
mark_of false = 0

unfoldable pub marked : List ℕ → ℕ → Bool
marked table x = eqb (byte_at table x) 1
