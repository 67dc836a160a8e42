-- Words: the signed 32-bit integers, as numbers of ℤ, and the operators on them.
use Rattle.std.specs.Prelude.{ℕ, suc, ◌+◌, ◌-◌, ◌*◌, ◌/◌, ◌%◌, ◌^◌, ◌<◌, min, Bool, true, false, cond, List, [], ◌∷◌, eqb, ℤ, pos, negsuc, neg_ℤ, ◌+ℤ◌, ◌-ℤ◌, ◌*ℤ◌, get_or}
use Rattle.std.specs.Int.Signed.{lt_z}
use Rattle.std.specs.Int.{w32}
use Rattle.std.proofs.Common.{to_z}
use Rattle.model.specs.declared.Binary.{Binary}
use Rattle.model.specs.declared.Binary.TheVariants.{Add, Sub, Mul, Less, Same, Min, Max}

-- The remainder of z by 2^32, from 0 to 2^32 − 1: also of a negative z.
unfoldable pub bits_of : ℤ → ℕ
bits_of (pos n) = n % 2 ^ 32
bits_of (negsuc n) = 2 ^ 32 - suc (n % 2 ^ 32)

-- The word with these 32 bits: m itself, or m − 2^32 from 2^31 on.
unfoldable pub word_of : ℕ → ℤ
word_of m = to_z w32 m

-- The nearest word: `nearest-word` says that it is.
unfoldable pub nearest : ℤ → ℤ
nearest (pos n) = pos (min n 2147483647)
nearest (negsuc n) = negsuc (min n 2147483647)

unfoldable pub add_word : ℤ → ℤ → ℤ
add_word a b = nearest (a +ℤ b)

unfoldable pub sub_word : ℤ → ℤ → ℤ
sub_word a b = nearest (a -ℤ b)

unfoldable pub mul_word : ℤ → ℤ → ℤ
mul_word a b = nearest (a *ℤ b)

unfoldable pub neg_word : ℤ → ℤ
neg_word a = nearest (neg_ℤ a)

-- A test gives 1 or 0.
abbrev pub bit_word : Bool → ℤ
bit_word true = pos 1
bit_word false = pos 0

abbrev pub eq_z : ℤ → ℤ → Bool
eq_z (pos a) (pos b) = eqb a b
eq_z (pos a) (negsuc b) = false
eq_z (negsuc a) (pos b) = false
eq_z (negsuc a) (negsuc b) = eqb a b

unfoldable pub less_word : ℤ → ℤ → ℤ
less_word a b = bit_word (lt_z a b)

unfoldable pub same_word : ℤ → ℤ → ℤ
same_word a b = bit_word (eq_z a b)

unfoldable pub min_word : ℤ → ℤ → ℤ
min_word a b = cond (lt_z a b) a b

unfoldable pub max_word : ℤ → ℤ → ℤ
max_word a b = cond (lt_z a b) b a

-- IF takes the second operand unless the condition is 0.
unfoldable pub if_word : ℤ → ℤ → ℤ → ℤ
if_word c a b = cond (eq_z c (pos 0)) b a

-- The operators with two operands.
abbrev pub binary_word : Binary → ℤ → ℤ → ℤ
binary_word Add a b = add_word a b
binary_word Sub a b = sub_word a b
binary_word Mul a b = mul_word a b
binary_word Less a b = less_word a b
binary_word Same a b = same_word a b
binary_word Min a b = min_word a b
binary_word Max a b = max_word a b

-- Values wider than a byte have the low byte first: two bytes, four bytes, a word.
abbrev pub byte_at : List ℕ → ℕ → ℕ
byte_at s at = get_or s at 0

-- The elements of a text are bytes.
abbrev pub AreBytes : List ℕ → Type 0
AreBytes text = (i : ℕ) → get_or text i 0 < 256

unfoldable pub two_at : List ℕ → ℕ → ℕ
two_at s at = byte_at s at + 256 * byte_at s (at + 1)

unfoldable pub four_at : List ℕ → ℕ → ℕ
four_at s at = byte_at s at + 256 * byte_at s (at + 1) + 65536 * byte_at s (at + 2) + 16777216 * byte_at s (at + 3)

unfoldable pub word_at : List ℕ → ℕ → ℤ
word_at s at = word_of (four_at s at)

unfoldable pub two_bytes : ℕ → List ℕ
two_bytes n = n % 256 ∷ n / 256 % 256 ∷ []

unfoldable pub four_bytes : ℕ → List ℕ
four_bytes n = n % 256 ∷ n / 256 % 256 ∷ n / 65536 % 256 ∷ n / 16777216 % 256 ∷ []

unfoldable pub word_bytes : ℤ → List ℕ
word_bytes w = four_bytes (bits_of w)
