-- Words as numbers, and what the nearest word to a number is.
use Rattle.std.specs.Prelude.{ℕ, ◌≤◌, ◌↔◌, ◌≡◌, ℤ, pos, negsuc, nat_abs, ◌-ℤ◌, ◌≤ℤ◌}
use Rattle.model.specs.Says.Words.{IsWord}

-- A number is a word exactly if it lies from −2147483648 to 2147483647. (negsuc n is −1 − n.)
abbrev pub WordsRange : Type 0
WordsRange = (z : ℤ) → IsWord z ↔ ((negsuc 2147483647 ≤ℤ z) × (z ≤ℤ pos 2147483647))

abbrev pub distance : ℤ → ℤ → ℕ
distance a b = nat_abs (a -ℤ b)

-- What the nearest word is to the true result z: a word; z itself, where z is one; and no word is nearer to z.
pub record NearestWord (z w : ℤ) : Type 0 where
  pub word : IsWord w
  pub itself : IsWord z → w ≡ z
  pub none-nearer : (v : ℤ) → IsWord v → distance w z ≤ distance v z
