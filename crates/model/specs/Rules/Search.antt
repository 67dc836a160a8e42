-- Bounded searches and tests, and lists of numbers.
use Rattle.std.specs.Prelude.{Option, Some, None, ℕ, zero, suc, ◌+◌, Bool, true, false, cond, ◌&&◌, List, [], ◌∷◌, ◌++◌}

-- The first of the n numbers from i on that passes the test.
unfoldable pub first_from : ℕ → ℕ → (ℕ → Bool) → Option ℕ
first_from i zero test = None
first_from i (suc n) test = elim (test i) [ true ↦ Some i | false ↦ first_from (suc i) n test ]

-- The least number below n that passes the test.
unfoldable pub first_below : ℕ → (ℕ → Bool) → Option ℕ
first_below n test = first_from 0 n test

abbrev pub is_found : Option ℕ → Bool
is_found (Some i) = true
is_found None = false

abbrev pub found_or : ℕ → Option ℕ → ℕ
found_or d (Some i) = i
found_or d None = d

-- Every number below n passes the test.
unfoldable pub all_below : ℕ → (ℕ → Bool) → Bool
all_below zero test = true
all_below (suc n) test = all_below n test && test n

-- The values of f at the n numbers from i on.
unfoldable pub table_from : {A : Type 0} → ℕ → ℕ → (ℕ → A) → List A
table_from i zero f = []
table_from i (suc n) f = f i ∷ table_from (suc i) n f

-- The values of f at the numbers below n.
unfoldable pub table : {A : Type 0} → ℕ → (ℕ → A) → List A
table n f = table_from 0 n f

-- The elements that pass a test, in order.
unfoldable pub chosen : {A : Type 0} → (A → Bool) → List A → List A
chosen test [] = []
chosen test (x ∷ xs) = cond (test x) (x ∷ chosen test xs) (chosen test xs)

-- The lists that f gives for the elements, each with its number counted from i on, joined.
unfoldable pub join_from : {A B : Type 0} → ℕ → (ℕ → A → List B) → List A → List B
join_from i f [] = []
join_from i f (x ∷ xs) = f i x ++ join_from (suc i) f xs

-- The lists that f gives for the numbers below n, joined.
unfoldable pub join_below : {A : Type 0} → ℕ → (ℕ → List A) → List A
join_below zero f = []
join_below (suc n) f = join_below n f ++ f n

unfoldable pub sum : List ℕ → ℕ
sum [] = 0
sum (x ∷ xs) = x + sum xs
