-- The least factor of a text bounds the factors that reads have in it, and nothing else. Assumes nothing.
use Prim.Native.Nat.{ℕ, ◌+◌, ◌≤◌, ◌<◌}
use mathlib.Core.Bool.{Bool, true, false, cond}
use mathlib.Core.List.{List}
use mathlib.Core.Path.{◌≡◌, refl}
use native.Mathlib.Decide.{dec_lt}
use native.Mathlib.Omega.{arith}
use borrow.Author.Tests.{le-leb}
use lib.Dec.{eqb, leb}
use lib.ListN.{length}
use Rattle.model.specs.Rules.Command.{plain_read, operator_of, operator_at}
use Rattle.model.specs.Rules.Program.{is_allowed}
use Rattle.model.specs.Rules.Word.{word_at}
use Rattle.model.specs.Says.Written.{OperatorWritten}
use Rattle.model.specs.declared.Kind.{Kind}
use Rattle.model.specs.declared.Kind.TheVariants.{Now, Last, When, LastWhen, Current}
use Rattle.model.specs.declared.Operator.{Operator}
use Rattle.model.specs.declared.Operator.TheVariants as Operator
use Rattle.model.specs.declared.Sampled.{Sampled}
use Rattle.model.specs.declared.Unary.TheVariants.{Table}
use Rattle.model.proofs.Texts.Written.{operator-written}
use Rattle.text_command.specs.Operator.{kind_of, if_or_table, HasFactor, restricted, operator_from}
use Rattle.text_command.proofs.Shape.{plain_at}

module _ (least : ℕ) (text : List ℕ) (at : ℕ) where
  pub constant-kept : operator_of 0x20 text at ≡ restricted least (operator_of 0x20 text at)
  unfolding operator_of
  constant-kept = go (leb (at + 5) (length text))
    where
      go : (b : Bool) → cond b (Operator.Constant (word_at text (at + 1))) Operator.EndsEarly ≡ restricted least
          (cond b (Operator.Constant (word_at text (at + 1))) Operator.EndsEarly)
      go true = refl
      go false = refl

  pub plain-kept : (kind : Kind) → is_allowed least kind (plain_at text at) ≡ true →
      plain_read kind text at ≡ restricted least (plain_read kind text at)
  unfolding plain_read
  plain-kept kind e = go (leb (at + 2) (length text))
    where
      go : (b : Bool) → cond b (Operator.Read kind (plain_at text at)) Operator.EndsEarly ≡ restricted least
          (cond b (Operator.Read kind (plain_at text at)) Operator.EndsEarly)
      go true = rw e
      go false = refl

-- Every factor in a text is 1 at least.
module _ (text : List ℕ) (at : ℕ) where
  one-allowed : {kind : Kind} {x : Sampled} → OperatorWritten text at (Operator.Read kind x) → is_allowed 1 kind x ≡ true
  one-allowed (OperatorWritten.plain Now e h b) = refl
  one-allowed (OperatorWritten.plain Last e h b) = refl
  one-allowed (OperatorWritten.plain When e h b) = refl
  one-allowed (OperatorWritten.plain LastWhen e h b) = refl
  one-allowed (OperatorWritten.plain Current e h b) = refl
  one-allowed (OperatorWritten.sampled Now e h b r i) = refl
  one-allowed (OperatorWritten.sampled Last e h b r i) = refl
  one-allowed (OperatorWritten.sampled When e h b r i) = le-leb 1 _ r.0
  one-allowed (OperatorWritten.sampled LastWhen e h b r i) = le-leb 1 _ r.0
  one-allowed (OperatorWritten.sampled Current e h b r i) = le-leb 1 _ r.0

  pub from_one : operator_from 1 text at ≡ operator_at text at
  unfolding operator_from
  from_one = go (operator_at text at) refl
    where
      go : (o : Operator) → operator_at text at ≡ o → restricted 1 o ≡ o
      go Operator.EndsEarly e = refl
      go Operator.Unknown e = refl
      go Operator.OutOfRange e = refl
      go (Operator.Constant w) e = refl
      go (Operator.Read kind x) e = rw (one-allowed ((operator-written text at (Operator.Read kind x)).0 (e, tt)))
      go (Operator.Binary operator) e = refl
      go (Operator.Unary operator) e = refl
      go Operator.If e = refl

module _ (least b : ℕ) where
  pub plain-allowed : 0x21 ≤ b → b ≤ 0x22 → (x : Sampled) → is_allowed least (kind_of b) x ≡ true
  unfolding kind_of
  plain-allowed l h x = go (dec_lt b 0x22)
    where
      go : Dec (b < 0x22) → is_allowed least (kind_of b) x ≡ true
      go (yes p) = let e : b ≡ 0x21 = omega arith in rw e
      go (no p) = let e : b ≡ 0x22 = omega arith in rw e

  pub sampled-bounded : 0x23 ≤ b → b ≤ 0x25 → HasFactor least (kind_of b)
  unfolding kind_of
  sampled-bounded l h x = go (dec_lt b 0x24) (dec_lt b 0x25)
    where
      go : Dec (b < 0x24) → Dec (b < 0x25) → is_allowed least (kind_of b) x ≡ leb least x.factor
      go (yes p) q = let e : b ≡ 0x23 = omega arith in rw e
      go (no p) (yes q) = let e : b ≡ 0x24 = omega arith in rw e
      go (no p) (no q) = let e : b ≡ 0x25 = omega arith in rw e

-- IF and TABLE have no factor.
pub if-or-table-kept : (least b : ℕ) → if_or_table b ≡ restricted least (if_or_table b)
unfolding if_or_table
if-or-table-kept least b = go (eqb b 0x3A)
  where
    go : (t : Bool) → cond t Operator.If (Operator.Unary Table) ≡ restricted least (cond t Operator.If (Operator.Unary Table))
    go true = refl
    go false = refl
