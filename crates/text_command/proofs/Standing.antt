-- An operator that stands in a text, by its byte. Assumes nothing.
use Prim.Native.Nat.{ℕ, ◌≤◌, ◌<◌}
use mathlib.Core.List.{List}
use mathlib.Core.Path.{◌≡◌}
use native.Mathlib.Omega.{arith}
use lib.ListN.{length}
use Rattle.model.specs.Rules.Image.{binary_byte}
use Rattle.model.specs.Rules.Word.{byte_at}
use Rattle.model.specs.Says.Written.{read_byte, OperatorWritten}
use Rattle.model.specs.declared.Binary.{Binary}
use Rattle.model.specs.declared.Binary.TheVariants.{Add, Sub, Mul, Less, Same, Min, Max}
use Rattle.model.specs.declared.Kind.{Kind}
use Rattle.model.specs.declared.Kind.TheVariants.{Now, Last, When, LastWhen, Current}
use Rattle.model.specs.declared.Operator.{Operator}
use Rattle.model.specs.declared.Unary.TheVariants.{Negate, Table}
use Rattle.model.proofs.Texts.Written.{operator-written}
use Rattle.text_command.specs.Operator.{OperatorStands, ReadStands}

binary-range : (operator : Binary) → (0x30 ≤ binary_byte operator) × (binary_byte operator ≤ 0x36)
binary-range Add = (omega arith, omega arith)
binary-range Sub = (omega arith, omega arith)
binary-range Mul = (omega arith, omega arith)
binary-range Less = (omega arith, omega arith)
binary-range Same = (omega arith, omega arith)
binary-range Min = (omega arith, omega arith)
binary-range Max = (omega arith, omega arith)

read-range : (kind : Kind) → (0x21 ≤ read_byte kind) × (read_byte kind ≤ 0x25)
read-range Now = (omega arith, omega arith)
read-range Last = (omega arith, omega arith)
read-range When = (omega arith, omega arith)
read-range LastWhen = (omega arith, omega arith)
read-range Current = (omega arith, omega arith)

module _ {text : List ℕ} {at : ℕ} where
  inside : {o : Operator} → OperatorWritten text at o → at < length text
  inside (OperatorWritten.constant h b) = omega arith
  inside (OperatorWritten.plain kind e h b) = omega arith
  inside (OperatorWritten.sampled kind e h b r i) = omega arith
  inside (OperatorWritten.binary operator h b) = omega arith
  inside (OperatorWritten.unary operator h b) = omega arith
  inside (OperatorWritten.choose h b) = omega arith

  is_read : {o : Operator} → OperatorWritten text at o → 0x21 ≤ byte_at text at → byte_at text at ≤ 0x25 → ReadStands text at
  is_read (OperatorWritten.constant h b) l m = absurd (omega arith)
  is_read (OperatorWritten.plain kind e h b) l m =
      record { kind = kind; operands = _; is = ((operator-written text at _).1 (OperatorWritten.plain kind e h b)).0 }
  is_read (OperatorWritten.sampled kind e h b r i) l m =
      record { kind = kind; operands = _; is = ((operator-written text at _).1 (OperatorWritten.sampled kind e h b r i)).0 }
  is_read (OperatorWritten.binary operator h b) l m = absurd (omega (arith, (binary-range operator).0))
  is_read (OperatorWritten.unary Negate h b) l m = absurd (omega arith)
  is_read (OperatorWritten.unary Table h b) l m = absurd (omega arith)
  is_read (OperatorWritten.choose h b) l m = absurd (omega arith)

  is-binary : {o : Operator} → OperatorWritten text at o → (byte_at text at ≡ 0x20 → ⊥) →
      (0x21 ≤ byte_at text at → byte_at text at ≤ 0x25 → ⊥) → (byte_at text at ≡ 0x38 → ⊥) → (byte_at text at ≡ 0x3A → ⊥) →
      (byte_at text at ≡ 0x3B → ⊥) → (0x30 ≤ byte_at text at) × (byte_at text at ≤ 0x36)
  is-binary (OperatorWritten.constant h b) c r u f t = absurd (c b)
  is-binary (OperatorWritten.plain kind e h b) c r u f t =
      absurd (r (omega (arith, (read-range kind).0)) (omega (arith, (read-range kind).1)))
  is-binary (OperatorWritten.sampled kind e h b s i) c r u f t =
      absurd (r (omega (arith, (read-range kind).0)) (omega (arith, (read-range kind).1)))
  is-binary (OperatorWritten.binary operator h b) c r u f t =
      (omega (arith, (binary-range operator).0), omega (arith, (binary-range operator).1))
  is-binary (OperatorWritten.unary Negate h b) c r u f t = absurd (u b)
  is-binary (OperatorWritten.unary Table h b) c r u f t = absurd (t b)
  is-binary (OperatorWritten.choose h b) c r u f t = absurd (f b)

module _ {text : List ℕ} {at : ℕ} (s : OperatorStands text at) where
  pub stands-inside : at < length text
  stands-inside = inside s.written

  pub stands_read : 0x21 ≤ byte_at text at → byte_at text at ≤ 0x25 → ReadStands text at
  stands_read = is_read s.written

  -- A byte that is none of the others.
  pub stands-binary : (byte_at text at ≡ 0x20 → ⊥) → (0x21 ≤ byte_at text at → byte_at text at ≤ 0x25 → ⊥) →
      (byte_at text at ≡ 0x38 → ⊥) → (byte_at text at ≡ 0x3A → ⊥) →
      (byte_at text at ≡ 0x3B → ⊥) → (0x30 ≤ byte_at text at) × (byte_at text at ≤ 0x36)
  stands-binary = is-binary s.written
