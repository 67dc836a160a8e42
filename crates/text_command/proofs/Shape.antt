-- The bytes of a read. Assumes nothing.
use Prim.Native.Nat.{ℕ, ◌+◌, ◌≤◌, ◌<◌}
use mathlib.Core.Bool.{Bool, true, false, cond}
use mathlib.Core.List.{List}
use mathlib.Core.Path.{◌≡◌, refl, sym}
use native.Mathlib.Omega.{arith}
use borrow.Author.Tests.{ltb-true, ltb-false}
use lib.Dec.{ltb}
use lib.ListN.{length}
use Rattle.model.specs.Rules.Command.{index_of, operator_at}
use Rattle.model.specs.Rules.Word.{byte_at}
use Rattle.model.specs.Says.Written.{OperatorWritten}
use Rattle.model.specs.declared.Operator.TheVariants as Operator
use Rattle.model.specs.declared.Index.TheVariants.{Fixed}
use Rattle.model.specs.declared.Kind.{Kind}
use Rattle.model.specs.declared.Kind.TheVariants.{Now, Last, When, LastWhen, Current}
use Rattle.model.specs.declared.Sampled.{Sampled}
use Rattle.model.proofs.Texts.Written.{operator-written}
use Rattle.text_command.specs.Operator.{kind_of}

abbrev pub plain_at : List ℕ → ℕ → Sampled
plain_at text at = record { signal = byte_at text (at + 1); factor = 1; index = Fixed 0 }

abbrev pub sampled_at : List ℕ → ℕ → Sampled
sampled_at text at =
    record { signal = byte_at text (at + 1); factor = byte_at text (at + 3); index = index_of (byte_at text (at + 2)) }

-- A read by its first byte: below 23 it has a signal only.
pub record Shape (text : List ℕ) (at : ℕ) (kind : Kind) (x : Sampled) : Type 0 where
  pub kind-is : kind_of (byte_at text at) ≡ kind
  pub inside : at + 2 ≤ length text
  pub plain : byte_at text at < 0x23 → x ≡ plain_at text at
  pub wide : 0x23 ≤ byte_at text at → at + 4 ≤ length text
  pub sampled : 0x23 ≤ byte_at text at → x ≡ sampled_at text at

module _ {text : List ℕ} {at : ℕ} where
  shape_of : {kind : Kind} {x : Sampled} → OperatorWritten text at (Operator.Read kind x) → Shape text at kind x
  unfolding kind_of
  shape_of (OperatorWritten.plain Now e h b) =
      record {
        kind-is = rw b;
        inside = h;
        plain = λ l. refl;
        wide = λ l. absurd (omega arith);
        sampled = λ l.
            absurd (omega arith);
      }
  shape_of (OperatorWritten.plain Last e h b) =
      record {
        kind-is = rw b;
        inside = h;
        plain = λ l. refl;
        wide = λ l. absurd (omega arith);
        sampled = λ l.
            absurd (omega arith);
      }
  shape_of (OperatorWritten.plain When e h b) = absurd (omega arith)
  shape_of (OperatorWritten.plain LastWhen e h b) = absurd (omega arith)
  shape_of (OperatorWritten.plain Current e h b) = absurd (omega arith)
  shape_of (OperatorWritten.sampled Now e h b r i) = absurd (omega arith)
  shape_of (OperatorWritten.sampled Last e h b r i) = absurd (omega arith)
  shape_of (OperatorWritten.sampled When e h b r i) =
      record { kind-is = rw b; inside = omega arith; plain = λ l. absurd (omega arith); wide = λ l. h; sampled = λ l. refl }
  shape_of (OperatorWritten.sampled LastWhen e h b r i) =
      record { kind-is = rw b; inside = omega arith; plain = λ l. absurd (omega arith); wide = λ l. h; sampled = λ l. refl }
  shape_of (OperatorWritten.sampled Current e h b r i) =
      record { kind-is = rw b; inside = omega arith; plain = λ l. absurd (omega arith); wide = λ l. h; sampled = λ l. refl }

pub read-shape : (text : List ℕ) (at : ℕ) (kind : Kind) (x : Sampled) → operator_at text at ≡ Operator.Read kind x →
    Shape text at kind x
read-shape text at kind x e = shape_of ((operator-written text at (Operator.Read kind x)).0 (e, tt))

-- A read by whether it is plain, without a case for each: where its index stands, and its operands.
abbrev pub is_plain : List ℕ → ℕ → Bool
is_plain text at = ltb (byte_at text at) 0x23

abbrev pub index_place : List ℕ → ℕ → ℕ
index_place text at = at + cond (is_plain text at) 0 2

module _ (text : List ℕ) (at : ℕ) {kind : Kind} {x : Sampled} (h : Shape text at kind x) where
  pub place_inside : index_place text at + 2 ≤ length text
  place_inside = go (is_plain text at) refl
    where
      go : (p : Bool) → is_plain text at ≡ p → at + cond p 0 2 + 2 ≤ length text
      go true e = omega (arith, h.inside)
      go false e = omega (arith, h.wide (ltb-false _ _ e))

  pub read_is :
      record {
        signal = byte_at text (at + 1);
        factor = cond (is_plain text at) 1 (byte_at text (index_place text at + 1));
        index = index_of (cond (is_plain text at) 0 (byte_at text (index_place text at)));
      } ≡ x
  read_is = go (is_plain text at) refl
    where
      go : (p : Bool) → is_plain text at ≡ p →
          record {
            signal = byte_at text (at + 1);
            factor = cond p 1 (byte_at text (at + cond p 0 2 + 1));
            index = index_of (cond p 0 (byte_at text (at + cond p 0 2)));
          } ≡ x
      go true e = sym (h.plain (ltb-true _ _ e))
      go false e =
          let q : at + 2 + 1 ≡ at + 3 = omega arith in
          rw q (sym (h.sampled (ltb-false _ _ e)))
