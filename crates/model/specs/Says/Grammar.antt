-- The grammar of both texts, as relations: which bytes are a legal program text, which a legal schedule text, and what they
-- say. No parser and no decoder is named here; a command and its operands are those that stand written.
use Rattle.std.specs.Prelude.{ℕ, suc, ◌+◌, ◌≤◌, ◌<◌, max, false, List, [], ◌∷◌, ◌⊎◌, ◌≡◌, eqb, ℤ, length}
use Rattle.model.specs.Rules.Outcome.{Parsed}
use Rattle.model.specs.Rules.Program.{
  Expr,
  constant,
  read,
  binary,
  unary,
  choose,
  input,
  equation,
  Link,
  Program,
  empty,
  with_signal,
  with_chain,
  with_cap,
  with_row,
  unlimited,
  count,
  least_factor,
}
use Rattle.model.specs.Rules.Schedule.{Put}
use Rattle.model.specs.Rules.Width.{in_program, in_expression, in_schedule, read_width}
use Rattle.model.specs.Rules.Word.{byte_at}
use Rattle.model.specs.Says.Written.{DeclarationWritten, OperatorWritten, PutWritten}
use Rattle.model.specs.declared.Binary.{Binary}
use Rattle.model.specs.declared.Declaration.TheVariants as Declaration
use Rattle.model.specs.declared.Kind.{Kind}
use Rattle.model.specs.declared.Kind.TheVariants.{Now, Last, When, LastWhen, Current}
use Rattle.model.specs.declared.Mode.{Mode}
use Rattle.model.specs.declared.Operator.TheVariants as Operator
use Rattle.model.specs.declared.Sampled.{Sampled}
use Rattle.model.specs.declared.ScheduleCommand.TheVariants as ScheduleCommand
use Rattle.model.specs.declared.Unary.{Unary}
use Rattle.model.specs.declared.Operator.{Operator}

-- How deep an expression nests; a leaf is 1.
abbrev pub depth : Expr → ℕ
depth (constant w) = 1
depth (read ρ) = 1
depth (binary operator x y) = suc (max (depth x) (depth y))
depth (unary operator x) = suc (depth x)
depth (choose x y z) = suc (max (depth x) (max (depth y) (depth z)))

-- A read whose factors go from `least` on: n of WHEN, LASTWHEN and CURRENT is not below it; NOW and LAST have none.
abbrev pub Allowed : ℕ → Kind → Sampled → Type 0
Allowed least Now x = Unit {0}
Allowed least Last x = Unit {0}
Allowed least When x = least ≤ x.factor
Allowed least LastWhen x = least ≤ x.factor
Allowed least Current x = least ≤ x.factor

-- The bytes from `at` up to `next` spell the expression, operator first.
pub data Spells (least : ℕ) (text : List ℕ) : ℕ → Expr → ℕ → Type 0 where
  constants : {at : ℕ} {w : ℤ} → OperatorWritten text at (Operator.Constant w) →
      Spells least text at (constant w) (at + in_expression 0x20)
  reads : {at : ℕ} {kind : Kind} {x : Sampled} → OperatorWritten text at (Operator.Read kind x) →
      Allowed least kind x →
      Spells least text at (read (record { place = at; kind = kind; operands = x })) (at + read_width kind)
  two : {at m n : ℕ} {operator : Binary} {x y : Expr} → OperatorWritten text at (Operator.Binary operator) →
      Spells least text (at + in_expression 0x30) x m → Spells least text m y n → Spells least text at (binary operator x y) n
  one : {at n : ℕ} {operator : Unary} {x : Expr} → OperatorWritten text at (Operator.Unary operator) →
      Spells least text (at + in_expression 0x38) x n →
      Spells least text at (unary operator x) n
  three : {at m n o : ℕ} {x y z : Expr} → OperatorWritten text at Operator.If →
      Spells least text (at + in_expression 0x3A) x m → Spells least text m y n → Spells least text n z o →
      Spells least text at (choose x y z) o

-- The LINKs from `at` up to `next`; after them stands no other. Past its end a text reads 0.
pub data SpellsLinks (text : List ℕ) : ℕ → List Link → ℕ → Type 0 where
  ends : {at : ℕ} → eqb (byte_at text at) 0x13 ≡ false → SpellsLinks text at [] at
  link : {at n : ℕ} {ls : List Link} → byte_at text at ≡ 0x13 → at + in_program 0x13 ≤ length text →
      SpellsLinks text (at + in_program 0x13) ls n →
      SpellsLinks text at (record { place = at; signal = byte_at text (at + 1) } ∷ ls) n

-- IN or EQ.
abbrev pub IsSignal : ℕ → Type 0
IsSignal b = (b ≡ 0x10) ⊎ (b ≡ 0x11)

-- A legal command from `at` up to `next`, other than END, makes q of p: at most 64 signals, 16 chains of 2 to 16 links,
-- expressions at most 16 deep, one CAP. The number after an offset is the label that a TAG directly before it gives, 0 where
-- there is none; IN and EQ take it.
pub data DeclaresOne (least : ℕ) (text : List ℕ) : ℕ → ℕ → Program → ℕ → ℕ → Program → Type 0 where
  inputs : {at label period : ℕ} {initial : ℤ} {p : Program} → count p < 64 →
      DeclarationWritten text at (Declaration.Input period initial) →
      DeclaresOne least text at label p (at + in_program 0x10) 0
      (with_signal p (record { place = at; period = period; initial = initial; body = input; label = label }))
  equations : {at label next period weight : ℕ} {initial : ℤ} {e : Expr} {p : Program} → count p < 64 →
      DeclarationWritten text at (Declaration.Equation period initial weight) → Spells least text (at + in_program 0x11) e next →
      depth e ≤ 16 →
      DeclaresOne least text at label p next 0
      (with_signal p (record { place = at; period = period; initial = initial; body = equation weight e; label = label }))
  chains : {at label next bound : ℕ} {mode : Mode} {ls : List Link} {p : Program} → length p.chains < 16 →
      DeclarationWritten text at (Declaration.Latency mode bound) → SpellsLinks text (at + in_program 0x12) ls next →
      2 ≤ length ls → length ls ≤ 16 →
      DeclaresOne least text at label p next 0 (with_chain p (record { place = at; mode = mode; bound = bound; links = ls }))
  caps : {at label n : ℕ} {p : Program} → p.cap ≡ unlimited → DeclarationWritten text at (Declaration.Cap n) →
      DeclaresOne least text at label p (at + in_program 0x14) 0 (with_cap p n)
  tags : {at label given : ℕ} {p : Program} → DeclarationWritten text at (Declaration.Tag given) →
      at + in_program 0x15 < length text → IsSignal (byte_at text (at + in_program 0x15)) →
      DeclaresOne least text at label p (at + in_program 0x15) given p
  rows : {at label : ℕ} {low high result : ℤ} {p : Program} → length p.rows < 32 →
      DeclarationWritten text at (Declaration.Row low high result) →
      DeclaresOne least text at label p (at + in_program 0x16) 0
      (with_row p (record { place = at; low = low; high = high; result = result }))

-- The commands from `at` up to END at `end`, the last byte, make q of p.
pub data Declares (least : ℕ) (text : List ℕ) : ℕ → ℕ → Program → ℕ → Program → Type 0 where
  ends : {at label : ℕ} {p : Program} → DeclarationWritten text at Declaration.End → length text ≤ at + in_program 0x00 →
      Declares least text at label p at p
  onward : {at label next given end : ℕ} {p q r : Program} → DeclaresOne least text at label p next given q →
      Declares least text next given q end r → Declares least text at label p end r

-- A legal program text, and the program that it declares.
abbrev pub LegalWith : ℕ → List ℕ → Program → Type 0
LegalWith least text p = (end : ℕ) × Declares least text 0 0 empty end p

abbrev pub LegalProgram : List ℕ → Program → Type 0
LegalProgram text p = LegalWith least_factor text p

-- The PUTs from `at` up to END, the last byte.
pub data SpellsPuts (text : List ℕ) : ℕ → List Put → ℕ → Type 0 where
  ends : {at : ℕ} → PutWritten text at ScheduleCommand.End → length text ≤ at + in_schedule 0x00 →
      SpellsPuts text at [] at
  put : {at end signal phase : ℕ} {qs : List Put} → PutWritten text at (ScheduleCommand.Put signal phase) →
      SpellsPuts text (at + in_schedule 0x40) qs end →
      SpellsPuts text at (record { place = at; signal = signal; phase = phase } ∷ qs) end

-- A legal schedule text: its PUTs, and the offset of its END.
abbrev pub LegalSchedule : List ℕ → Parsed (List Put) → Type 0
LegalSchedule text puts = SpellsPuts text 0 puts.value puts.next

-- The counts and a second CAP leave room for the command of a byte, after those of p.
pub data HasRoom (p : Program) (b : ℕ) : Type 0 where
  end : b ≡ 0x00 → HasRoom p b
  signal : IsSignal b → count p < 64 → HasRoom p b
  latency : b ≡ 0x12 → length p.chains < 16 → HasRoom p b
  cap : b ≡ 0x14 → p.cap ≡ unlimited → HasRoom p b
  tag : b ≡ 0x15 → HasRoom p b
  row : b ≡ 0x16 → length p.rows < 32 → HasRoom p b
