-- Request g as statements: when a conversion is done, when it is refused, and what it keeps.
use Rattle.std.specs.Prelude.{ℕ, ◌+◌, ◌≤◌, ◌<◌, List, [], ◌∷◌, ◌++◌, ◌↔◌, ◌≡◌, ℤ, length, drop}
use Rattle.model.specs.Rules.Compile.{Pair, pair_of}
use Rattle.model.specs.Says.Grammar.{LegalWith}
use Rattle.model.specs.Rules.Image.{written_of}
use Rattle.model.specs.Rules.Outcome.{accepted, fault}
use Rattle.model.specs.Rules.Program.{Program, empty}
use Rattle.model.specs.Rules.Reads.{settled}
use Rattle.model.specs.Rules.Rewrite.{convert_of}
use Rattle.model.specs.Rules.Width.{in_program, in_expression}
use Rattle.model.specs.Rules.Word.{byte_at}
use Rattle.model.specs.Says.Written.{DeclarationWritten, OperatorWritten}
use Rattle.model.specs.declared.Declaration.{Declaration}
use Rattle.model.specs.declared.Fault.{Fault}
use Rattle.model.specs.declared.Operator.{Operator}
use Rattle.theorems_texts.specs.Enums.{BytesAt}
use Rattle.theorems_calls.specs.Exactness.{Exactly}
use Rattle.theorems_texts.specs.Stops.{Stops}
use Rattle.theorems_streams.specs.Streams.{Satisfies}

-- The factors of the earlier rule go from 1 on.
abbrev pub earlier_factor : ℕ
earlier_factor = 1

-- A read with n = 1 stands at an offset, and the byte that takes the place of its own: each WHEN and CURRENT becomes NOW, each
-- LASTWHEN becomes LAST.
pub data SingleAt (text : List ℕ) (at : ℕ) : ℕ → Type 0 where
  when : at + 4 ≤ length text → byte_at text at ≡ 0x23 → byte_at text (at + 3) ≡ 1 → SingleAt text at 0x21
  last_when : at + 4 ≤ length text → byte_at text at ≡ 0x24 → byte_at text (at + 3) ≡ 1 → SingleAt text at 0x22
  current : at + 4 ≤ length text → byte_at text at ≡ 0x25 → byte_at text (at + 3) ≡ 1 → SingleAt text at 0x21

-- A command of n bytes stands at an offset, without the expression and the LINKs that follow it.
pub data CommandAt (text : List ℕ) (at : ℕ) : ℕ → Type 0 where
  declaration : {d : Declaration} → DeclarationWritten text at d → CommandAt text at (in_program (byte_at text at))
  operator : {o : Operator} → OperatorWritten text at o → CommandAt text at (in_expression (byte_at text at))

-- What the text from an offset on is converted to, command by command: of a read with n = 1 the byte of NOW or LAST and its
-- signal stand, and of every other command all bytes.
pub data ConvertedFrom (text : List ℕ) : ℕ → List ℕ → Type 0 where
  end : {at : ℕ} → length text ≤ at → ConvertedFrom text at []
  single : {at b : ℕ} {rest : List ℕ} → SingleAt text at b → ConvertedFrom text (at + 4) rest →
      ConvertedFrom text at (b ∷ (byte_at text (at + 1) ∷ rest))
  kept : {at n : ℕ} {bytes rest : List ℕ} → CommandAt text at n → ((b : ℕ) → ¬ SingleAt text at b) → length bytes ≡ n →
      BytesAt text at bytes → ConvertedFrom text (at + n) rest → ConvertedFrom text at (bytes ++ rest)

-- A program text, converted.
abbrev pub ConvertedText : List ℕ → List ℕ → Type 0
ConvertedText old new = ConvertedFrom old 0 new

module _ (program buffer : List ℕ) where
  -- Done: a legal text by the earlier rule, whose result is n bytes and has space; the buffer past it stays.
  pub record ConvertsTo (n : ℕ) (left : List ℕ) : Type 0 where
    pub short : length program ≤ 8192
    pub declares : Program
    pub legal : LegalWith earlier_factor program declares
    pub result : List ℕ
    pub converted : ConvertedText program result
    pub is : n ≡ length result
    pub fits : n ≤ length buffer
    pub leaves : left ≡ result ++ drop n buffer

  -- Refused: 1, then 2 to 6 by the earlier rule, then 17 with the result's length.
  pub data ConvertRefusedAt : Fault → Type 0 where
    long : 8192 < length program → ConvertRefusedAt (fault 1 0)
    stopped : {f : Fault} → length program ≤ 8192 → Stops earlier_factor program 0 0 empty f → ConvertRefusedAt f
    space : {p : Program} {result : List ℕ} → length program ≤ 8192 → LegalWith earlier_factor program p →
        ConvertedText program result → length buffer < length result → ConvertRefusedAt (fault 17 (length result))

-- What a conversion answers and leaves, whole.
abbrev pub Converts : List ℕ → List ℕ → Type 0
Converts program buffer = Exactly buffer (ConvertsTo program buffer) (ConvertRefusedAt program buffer) (convert_of program buffer)

-- What the conversion of a program to a new text keeps of a pair u that it is accepted in by the earlier rule: with the same
-- schedule text the new text is accepted, with the same schedule and hypercycle; it has the same streams, and the same image with
-- its tail.
pub record ConversionKeeps (new schedule : List ℕ) (u : Pair) : Type 0 where
  pub program : Program
  pub accepts : pair_of new schedule ≡
      accepted (record { program = program; schedule = u.schedule; hypercycle = u.hypercycle })
  pub streams : (inputs X : ℕ → ℕ → ℤ) →
      Satisfies u.program (settled u.program u.schedule) inputs X ↔
      Satisfies program (settled program u.schedule) inputs X
  pub image : written_of program u.schedule u.hypercycle ≡ written_of u.program u.schedule u.hypercycle
