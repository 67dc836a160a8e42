-- Decimals (request e): a number and a word as digits, a line of them.
use Rattle.std.specs.Prelude.{ℕ, zero, suc, ◌+◌, ◌/◌, ◌%◌, true, false, List, [], ◌∷◌, ◌++◌, ltb, ℤ, pos, negsuc}

-- The ASCII code of a digit: 48 is '0'.
abbrev pub digit : ℕ → ℕ
digit d = 48 + d

-- The digits of n: below 10 the digit itself, else those of n / 10 and then the last one. A number n has no more than n + 1.
unfoldable pub digits_up_to : ℕ → ℕ → List ℕ
digits_up_to zero n = []
digits_up_to (suc most) n =
    elim (ltb n 10) [ true ↦ digit n ∷ [] | false ↦ digits_up_to most (n / 10) ++ (digit (n % 10) ∷ []) ]

unfoldable pub natural : ℕ → List ℕ
natural n = digits_up_to (suc n) n

-- A word: 45 is '-'.
unfoldable pub decimal : ℤ → List ℕ
decimal (pos n) = natural n
decimal (negsuc n) = 45 ∷ natural (suc n)

-- Each word after a space.
unfoldable pub spaced : List ℤ → List ℕ
spaced [] = []
spaced (w ∷ ws) = 32 ∷ (decimal w ++ spaced ws)

-- Line j: the number of the cycle, the words, and a newline.
unfoldable pub line_of : ℕ → List ℤ → List ℕ
line_of j words = natural j ++ (spaced words ++ (10 ∷ []))
