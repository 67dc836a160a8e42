-- What a command that is read says of the text: that its bytes are there, and the ranges of its operands. Assumes nothing.
use Prim.Native.Nat.{ℕ, suc, ◌+◌, ◌-◌, ◌^◌, ◌≤◌, ◌<◌}
use mathlib.Core.Bool.{Bool, true, false, cond}
use mathlib.Core.List.{List}
use mathlib.Core.Logic.{inl, inr}
use mathlib.Core.Path.{◌≡◌, refl, subst}
use native.Mathlib.Omega.{arith}
use borrow.Author.Rules.{sfits_of}
use borrow.Author.Tests.{ltb-true, ltb-false, eqb-false}
use lib.Dec.{ltb, eqb}
use lib.IntN.{pos, negsuc}
use lib.ListN.{length}
use mir.Syntax.{w32}
use mir.Val.{SFits, sel}
use lib.Signed.{◌≤ℤ◌}
use Rattle.model.specs.Rules.Command.{index_of, declaration_at, operator_at}
use Rattle.model.specs.Rules.Width.{in_program, in_expression, read_width}
use Rattle.model.specs.Rules.Word.{byte_at, two_at, four_at, word_of, word_at, AreBytes}
use Rattle.model.specs.Says.Written.{InIndices, IsSampled, DeclarationWritten, OperatorWritten, OperatorByte}
use Rattle.model.specs.declared.Declaration.{Declaration}
use Rattle.model.specs.declared.Declaration.TheVariants as Declaration
use Rattle.model.specs.declared.Index.{Index}
use Rattle.model.specs.declared.Index.TheVariants as Index
use Rattle.model.specs.declared.Kind.{Kind}
use Rattle.model.specs.declared.Kind.TheVariants.{Now, Last, When, LastWhen, Current}
use Rattle.model.specs.declared.Operator.{Operator}
use Rattle.model.specs.declared.Operator.TheVariants as Operator
use Rattle.model.specs.declared.Sampled.{Sampled}
use Rattle.model.proofs.Pairs.Decide.{InRange}
use Rattle.model.proofs.Pairs.Lines.{Indexed}
use Rattle.model.proofs.Texts.Picks.{plain-width, sampled-width}
use Rattle.model.proofs.Texts.Written.{DeclarationDecodes, declaration-decodes, OperatorDecodes, operator-decodes, decoded}

-- Four numbers of a text are read as a word, whatever they are.
word-of : (n : ℕ) → SFits w32 (word_of n)
unfolding word_of
word-of n = go (ltb n (2 ^ 31)) refl
  where
    go : (b : Bool) → ltb n (2 ^ 31) ≡ b → SFits w32 (sel b (pos n) (negsuc (2 ^ 32 - suc n)))
    go true e = sfits_of {w = w32} (omega (arith, ltb-true n (2 ^ 31) e))
    go false e = sfits_of {w = w32} (omega (arith, ltb-false n (2 ^ 31) e))

pub word_fits : (text : List ℕ) (at : ℕ) → SFits w32 (word_at text at)
unfolding word_at
word_fits text at = word-of (four_at text at)

pub two_fits : (text : List ℕ) (at : ℕ) → AreBytes text → two_at text at < 65536
unfolding two_at
two_fits text at b = omega (arith, b at, b (at + 1))

-- The operands of a read are in range.
pub record ReadSound (x : Sampled) : Type 0 where
  pub positive : 1 ≤ x.factor
  pub bound : x.factor ≤ 240
  pub range : InRange x.factor x.index

index-range : (i n : ℕ) → n ≤ 240 → InIndices i n → InRange n (index_of i)
index-range i n most h = go (eqb i 255) refl h
  where
    go : (b : Bool) → eqb i 255 ≡ b → InIndices i n → InRange n (cond b Index.Open (Index.Fixed i))
    go true e h = tt
    go false e (inl lt) = lt
    go false e (inr q) = absurd (eqb-false i 255 e q)

-- The byte of a declaration; 0 where there is none.
abbrev pub byte_of : Declaration → ℕ
byte_of Declaration.EndsEarly = 0
byte_of Declaration.Unknown = 0
byte_of Declaration.OutOfRange = 0
byte_of Declaration.End = 0x00
byte_of (Declaration.Input period initial) = 0x10
byte_of (Declaration.Equation period initial weight) = 0x11
byte_of (Declaration.Latency mode bound) = 0x12
byte_of (Declaration.Link signal) = 0x13
byte_of (Declaration.Cap n) = 0x14
byte_of (Declaration.Tag label) = 0x15
byte_of (Declaration.Row low high result) = 0x16

-- A declaration that is read lies within the text, and its operands are in range.
module _ (text : List ℕ) (at : ℕ) where
  abbrev pub DeclarationSound : Declaration → Type 0
  DeclarationSound Declaration.EndsEarly = Unit {0}
  DeclarationSound Declaration.Unknown = Unit {0}
  DeclarationSound Declaration.OutOfRange = Unit {0}
  DeclarationSound Declaration.End = at + in_program 0x00 ≤ length text
  DeclarationSound (Declaration.Input period initial) =
      (1 ≤ period) × (period ≤ 240) × (initial ≡ word_at text (at + 2)) × (at + in_program 0x10 ≤ length text)
  DeclarationSound (Declaration.Equation period initial weight) =
      (1 ≤ period) × (period ≤ 240) × (initial ≡ word_at text (at + 2)) × (at + in_program 0x11 ≤ length text)
  DeclarationSound (Declaration.Latency mode bound) = at + in_program 0x12 ≤ length text
  DeclarationSound (Declaration.Link signal) = at + in_program 0x13 ≤ length text
  DeclarationSound (Declaration.Cap n) = at + in_program 0x14 ≤ length text
  DeclarationSound (Declaration.Tag label) = (label ≡ two_at text (at + 1)) × (at + in_program 0x15 ≤ length text)
  DeclarationSound (Declaration.Row low high result) =
      (low ≡ word_at text (at + 1)) × (high ≡ word_at text (at + 5)) × (result ≡ word_at text (at + 9)) × (low ≤ℤ high) ×
      (at + in_program 0x16 ≤ length text)

  written-sound : {c : Declaration} → DeclarationWritten text at c → DeclarationSound c
  written-sound (DeclarationWritten.end h b) = h
  written-sound (DeclarationWritten.input h b r) = (r.0, r.1, refl, h)
  written-sound (DeclarationWritten.equation h b r) = (r.0, r.1, refl, h)
  written-sound (DeclarationWritten.latency h b r) = h
  written-sound (DeclarationWritten.link h b) = h
  written-sound (DeclarationWritten.cap h b) = h
  written-sound (DeclarationWritten.tag h b) = (refl, h)
  written-sound (DeclarationWritten.row h b r) = (refl, refl, refl, r, h)

  decodes-sound : {c : Declaration} → DeclarationDecodes text at c → DeclarationSound c
  decodes-sound (DeclarationDecodes.early le) = tt
  decodes-sound (DeclarationDecodes.cut c) = tt
  decodes-sound (DeclarationDecodes.outside o) = tt
  decodes-sound (DeclarationDecodes.unknown lt u k) = tt
  decodes-sound (DeclarationDecodes.written w) = written-sound w

  pub declaration-sound : (c : Declaration) → declaration_at text at ≡ c → DeclarationSound c
  declaration-sound c e = decodes-sound (subst (DeclarationDecodes text at) e (declaration-decodes text at))

  -- A LINK.
  pub link-decoded : byte_at text at ≡ 0x13 → at + in_program 0x13 ≤ length text →
      declaration_at text at ≡ Declaration.Link (byte_at text (at + 1))
  link-decoded e le = decoded (DeclarationWritten.link le e)

  -- Its byte is its own.
  pub written_byte : {c : Declaration} → DeclarationWritten text at c → byte_at text at ≡ byte_of c
  written_byte (DeclarationWritten.end h b) = b
  written_byte (DeclarationWritten.input h b r) = b
  written_byte (DeclarationWritten.equation h b r) = b
  written_byte (DeclarationWritten.latency h b r) = b
  written_byte (DeclarationWritten.link h b) = b
  written_byte (DeclarationWritten.cap h b) = b
  written_byte (DeclarationWritten.tag h b) = b
  written_byte (DeclarationWritten.row h b r) = b

  pub written-inside : {c : Declaration} → DeclarationWritten text at c → at < length text
  written-inside (DeclarationWritten.end h b) = omega arith
  written-inside (DeclarationWritten.input h b r) = omega arith
  written-inside (DeclarationWritten.equation h b r) = omega arith
  written-inside (DeclarationWritten.latency h b r) = omega arith
  written-inside (DeclarationWritten.link h b) = omega arith
  written-inside (DeclarationWritten.cap h b) = omega arith
  written-inside (DeclarationWritten.tag h b) = omega arith
  written-inside (DeclarationWritten.row h b r) = omega arith

  -- The same of an operator.
  abbrev pub OperatorSound : Operator → Type 0
  OperatorSound Operator.EndsEarly = Unit {0}
  OperatorSound Operator.Unknown = Unit {0}
  OperatorSound Operator.OutOfRange = Unit {0}
  OperatorSound (Operator.Constant w) = (w ≡ word_at text (at + 1)) × (at + in_expression 0x20 ≤ length text)
  OperatorSound (Operator.Read kind x) =
      ReadSound x × (at + read_width kind ≤ length text) × (x.index ≡ Index.Open → Indexed kind)
  OperatorSound (Operator.Binary operator) = at + in_expression 0x30 ≤ length text
  OperatorSound (Operator.Unary operator) = at + in_expression 0x38 ≤ length text
  OperatorSound Operator.If = at + in_expression 0x3A ≤ length text

  pub operator-of : {c : Operator} → OperatorWritten text at c → OperatorByte (byte_at text at)
  operator-of (OperatorWritten.constant h b) = OperatorByte.constant b
  operator-of (OperatorWritten.plain kind e h b) = OperatorByte.read kind b
  operator-of (OperatorWritten.sampled kind e h b r i) = OperatorByte.read kind b
  operator-of (OperatorWritten.binary operator h b) = OperatorByte.binary operator b
  operator-of (OperatorWritten.unary operator h b) = OperatorByte.unary operator b
  operator-of (OperatorWritten.choose h b) = OperatorByte.choose b

  sampled-indexed : (kind : Kind) → IsSampled kind → Indexed kind
  sampled-indexed Now e = absurd e
  sampled-indexed Last e = absurd e
  sampled-indexed When e = tt
  sampled-indexed LastWhen e = tt
  sampled-indexed Current e = tt

  operator-written-sound : {c : Operator} → OperatorWritten text at c → OperatorSound c
  operator-written-sound (OperatorWritten.constant h b) = (refl, h)
  operator-written-sound (OperatorWritten.plain kind e h b) = (
    record { positive = omega arith; bound = omega arith; range = omega arith },
    omega (arith, plain-width kind e),
    λ u. let z : ◌≡◌ {A = ℕ} 0 1 = cc in absurd (omega arith),
  )
  operator-written-sound (OperatorWritten.sampled kind e h b r i) = (
    record { positive = r.0; bound = r.1; range = index-range _ _ r.1 i },
    omega (arith, sampled-width kind e),
    λ u. sampled-indexed kind e,
  )
  operator-written-sound (OperatorWritten.binary operator h b) = h
  operator-written-sound (OperatorWritten.unary operator h b) = h
  operator-written-sound (OperatorWritten.choose h b) = h

  operator-decodes-sound : {c : Operator} → OperatorDecodes text at c → OperatorSound c
  operator-decodes-sound (OperatorDecodes.early le) = tt
  operator-decodes-sound (OperatorDecodes.cut c) = tt
  operator-decodes-sound (OperatorDecodes.outside o) = tt
  operator-decodes-sound (OperatorDecodes.unknown lt u) = tt
  operator-decodes-sound (OperatorDecodes.written w) = operator-written-sound w

  pub operator-sound : (c : Operator) → operator_at text at ≡ c → OperatorSound c
  operator-sound c e = operator-decodes-sound (subst (OperatorDecodes text at) e (operator-decodes text at))
