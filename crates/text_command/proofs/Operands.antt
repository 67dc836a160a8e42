-- The commands of an expression by ranges of their bytes. Assumes nothing.
use Prim.Native.Nat.{ℕ, ◌≤◌, ◌<◌}
use mathlib.Core.List.{List}
use mathlib.Core.Path.{◌≡◌, refl}
use native.Mathlib.Decide.{dec_lt}
use native.Mathlib.Omega.{arith}
use borrow.Author.Tests.{ne_eqb, lt-ltb}
use lib.ListN.{length}
use Rattle.model.specs.Rules.Command.{plain_read, sampled_read, operator_of, operator_at}
use Rattle.model.specs.Rules.Word.{byte_at}
use Rattle.model.specs.declared.Operator.TheVariants as Operator
use Rattle.word.specs.OfByte.{binary_of}
use Rattle.word.proofs.OfByte.{each-operator}
use Rattle.text_command.specs.Operator.{kind_of, if_or_table}

-- At a byte that is there it is the operator of that byte.
pub at_byte : (text : List ℕ) (at : ℕ) → at < length text → operator_at text at ≡ operator_of (byte_at text at) text at
unfolding operator_at
at_byte text at lt = rw (lt-ltb _ _ lt)

module _ (text : List ℕ) (at b : ℕ) where
  pub plain-is : 0x21 ≤ b → b ≤ 0x22 → operator_of b text at ≡ plain_read (kind_of b) text at
  unfolding operator_of kind_of
  plain-is l h = go (dec_lt b 0x22)
    where
      go : Dec (b < 0x22) → operator_of b text at ≡ plain_read (kind_of b) text at
      go (yes p) = let e : b ≡ 0x21 = omega arith in rw e
      go (no p) = let e : b ≡ 0x22 = omega arith in rw e

  pub sampled-is : 0x23 ≤ b → b ≤ 0x25 → operator_of b text at ≡ sampled_read (kind_of b) text at
  unfolding operator_of kind_of
  sampled-is l h = go (dec_lt b 0x24) (dec_lt b 0x25)
    where
      go : Dec (b < 0x24) → Dec (b < 0x25) → operator_of b text at ≡ sampled_read (kind_of b) text at
      go (yes p) q = let e : b ≡ 0x23 = omega arith in rw e
      go (no p) (yes q) = let e : b ≡ 0x24 = omega arith in rw e
      go (no p) (no q) = let e : b ≡ 0x25 = omega arith in rw e

  pub binary-is : 0x30 ≤ b → b ≤ 0x36 → operator_of b text at ≡ Operator.Binary (binary_of b)
  unfolding operator_of binary_of
  binary-is l h =
      each-operator (λ c. operator_of c text at ≡ Operator.Binary (binary_of c)) refl refl refl refl refl refl refl b l h

  -- A byte that is none of them.
  pub if-or-table-is : 0x3A ≤ b → b ≤ 0x3B → operator_of b text at ≡ if_or_table b
  unfolding operator_of if_or_table
  if-or-table-is l h = go (dec_lt b 0x3B)
    where
      go : Dec (b < 0x3B) → operator_of b text at ≡ if_or_table b
      go (yes k) = let e : b ≡ 0x3A = omega arith in rw e
      go (no k) = let e : b ≡ 0x3B = omega arith in rw e

  pub unknown-is : (0x20 ≤ b → b ≤ 0x25 → ⊥) → (0x30 ≤ b → b ≤ 0x36 → ⊥) → (b ≡ 0x38 → ⊥) → (b ≡ 0x3A → ⊥) →
      (b ≡ 0x3B → ⊥) →
      operator_of b text at ≡ Operator.Unknown
  unfolding operator_of
  unknown-is n m g h t =
      rw (
        ne_eqb b 0x20 (λ e. n (omega arith) (omega arith)),
        ne_eqb b 0x21 (λ e. n (omega arith) (omega arith)),
        ne_eqb b 0x22 (λ e. n (omega arith) (omega arith)),
        ne_eqb b 0x23 (λ e. n (omega arith) (omega arith)),
        ne_eqb b 0x24 (λ e. n (omega arith) (omega arith)),
        ne_eqb b 0x25 (λ e. n (omega arith) (omega arith)),
        ne_eqb b 0x30 (λ e. m (omega arith) (omega arith)),
        ne_eqb b 0x31 (λ e. m (omega arith) (omega arith)),
        ne_eqb b 0x32 (λ e. m (omega arith) (omega arith)),
        ne_eqb b 0x33 (λ e. m (omega arith) (omega arith)),
        ne_eqb b 0x34 (λ e. m (omega arith) (omega arith)),
        ne_eqb b 0x35 (λ e. m (omega arith) (omega arith)),
        ne_eqb b 0x36 (λ e. m (omega arith) (omega arith)),
        ne_eqb b 0x38 g,
        ne_eqb b 0x3A h,
        ne_eqb b 0x3B t,
      )
