-- What a decimal is, by its value.
use Rattle.std.specs.Prelude.{ℕ, suc, ◌+◌, ◌-◌, ◌*◌, ◌≤◌, ◌<◌, List, [], ◌∷◌, ◌≡◌, ℤ, pos, negsuc, length, get_or}
use Rattle.model.specs.Says.Feasible.{All}

-- The value of digits, read from the first on after the value v.
unfoldable pub value_of : ℕ → List ℕ → ℕ
value_of v [] = v
value_of v (d ∷ ds) = value_of (10 * v + (d - 48)) ds

-- What digits say n: digits only, at least one, whose value is n, and the first is no 0 where more follow.
pub record SaysNumber (n : ℕ) (ds : List ℕ) : Type 0 where
  pub digits : All (λ d. (48 ≤ d) × (d ≤ 57)) ds
  pub some : 0 < length ds
  pub value : value_of 0 ds ≡ n
  pub shortest : 1 < length ds → ¬ (get_or ds 0 0 ≡ 48)

-- What bytes say a word: its digits, with one minus sign before them exactly if it is negative.
pub data SaysWord : ℤ → List ℕ → Type 0 where
  plus : {n : ℕ} {ds : List ℕ} → SaysNumber n ds → SaysWord (pos n) ds
  minus : {n : ℕ} {ds : List ℕ} → SaysNumber (suc n) ds → SaysWord (negsuc n) (45 ∷ ds)
