-- How reading a text stops (2 to 6, 11), as relations beside the grammar: what stands before the place is legal, and what
-- stands at it is cut, unknown, too many, too deep, outside its range or past END. The last index is the refusal.
use Rattle.std.specs.Prelude.{ℕ, suc, ◌+◌, ◌≤◌, ◌<◌, List, ◌≡◌, ℤ, length}
use Rattle.model.specs.Rules.Outcome.{fault}
use Rattle.model.specs.Rules.Program.{Expr, Link, Program, unlimited, count}
use Rattle.model.specs.Rules.Width.{in_program, in_expression, in_schedule}
use Rattle.model.specs.Rules.Word.{byte_at}
use Rattle.model.specs.Says.Grammar.{depth, Spells, SpellsLinks, IsSignal, DeclaresOne, HasRoom}
use Rattle.model.specs.Says.Written.{
  IsSampled,
  DeclarationWritten,
  DeclarationCut,
  DeclarationOutside,
  DeclarationByte,
  OperatorWritten,
  OperatorCut,
  OperatorOutside,
  OperatorByte,
  PutWritten,
  PutCut,
  NoPutByte,
}
use Rattle.model.specs.declared.Binary.{Binary}
use Rattle.model.specs.declared.Declaration.TheVariants as Declaration
use Rattle.model.specs.declared.Fault.{Fault}
use Rattle.model.specs.declared.Kind.{Kind}
use Rattle.model.specs.declared.Mode.{Mode}
use Rattle.model.specs.declared.Operator.{Operator}
use Rattle.model.specs.declared.Operator.TheVariants as Operator
use Rattle.model.specs.declared.Sampled.{Sampled}
use Rattle.model.specs.declared.ScheduleCommand.TheVariants as ScheduleCommand
use Rattle.model.specs.declared.Unary.{Unary}

-- How many operands follow an operator.
pub data HasOperands : Operator → ℕ → Type 0 where
  binary : {operator : Binary} → HasOperands (Operator.Binary operator) 2
  unary : {operator : Unary} → HasOperands (Operator.Unary operator) 1
  choose : HasOperands Operator.If 3

-- k expressions from `at` up to `next`, each at most d deep.
pub data SpellsOperands (least : ℕ) (text : List ℕ) (d : ℕ) : ℕ → ℕ → ℕ → Type 0 where
  none : {at : ℕ} → SpellsOperands least text d at 0 at
  more : {at m k next : ℕ} {e : Expr} → Spells least text at e m → depth e ≤ d → SpellsOperands least text d m k next →
      SpellsOperands least text d at (suc k) next

-- An expression that may nest d deep stops.
pub data StopsExpr (least : ℕ) (text : List ℕ) : ℕ → ℕ → Fault → Type 0 where
  early : {d at : ℕ} → length text ≤ at → StopsExpr least text d at (fault 2 (length text))
  unknown : {d at : ℕ} → at < length text → ¬ OperatorByte (byte_at text at) → StopsExpr least text d at (fault 3 at)
  deep : {at : ℕ} → OperatorByte (byte_at text at) → StopsExpr least text 0 at (fault 4 at)
  cut : {d at : ℕ} → OperatorCut text at → StopsExpr least text (suc d) at (fault 2 (length text))
  outside : {d at : ℕ} → OperatorOutside text at → StopsExpr least text (suc d) at (fault 5 at)
  -- A factor of WHEN, LASTWHEN or CURRENT below the least.
  single : {d at : ℕ} {kind : Kind} {x : Sampled} → OperatorWritten text at (Operator.Read kind x) → IsSampled kind →
      x.factor < least → StopsExpr least text (suc d) at (fault 5 at)
  -- The first k operands are legal, and the one after them stops. All operators are as wide as ADD.
  operand : {d at arity k next : ℕ} {o : Operator} {f : Fault} → OperatorWritten text at o → HasOperands o arity → k < arity →
      SpellsOperands least text d (at + in_expression 0x30) k next → StopsExpr least text d next f →
      StopsExpr least text (suc d) at f

-- The LINKs from `at` on stop, where `room` are allowed.
pub data StopsLinks (text : List ℕ) : ℕ → ℕ → Fault → Type 0 where
  many : {at : ℕ} → byte_at text at ≡ 0x13 → StopsLinks text 0 at (fault 4 at)
  cut : {room at : ℕ} → byte_at text at ≡ 0x13 → length text < at + in_program 0x13 →
      StopsLinks text (suc room) at (fault 2 (length text))
  link : {room at : ℕ} {f : Fault} → byte_at text at ≡ 0x13 → at + in_program 0x13 ≤ length text →
      StopsLinks text room (at + in_program 0x13) f → StopsLinks text (suc room) at f

-- The commands from `at` on, after those of p and a TAG's label, stop.
pub data Stops (least : ℕ) (text : List ℕ) : ℕ → ℕ → Program → Fault → Type 0 where
  -- A legal command, and what stands after it stops.
  onward : {at label next given : ℕ} {p q : Program} {f : Fault} → DeclaresOne least text at label p next given q →
      Stops least text next given q f → Stops least text at label p f
  -- At the command: 2, 3, then counts (64 signals, 16 chains, 32 rows) and second CAP.
  early : {at label : ℕ} {p : Program} → length text ≤ at → Stops least text at label p (fault 2 (length text))
  unknown : {at label : ℕ} {p : Program} → at < length text → ¬ DeclarationByte (byte_at text at) →
      Stops least text at label p (fault 3 at)
  signals : {at label : ℕ} {p : Program} → IsSignal (byte_at text at) → 64 ≤ count p → Stops least text at label p (fault 4 at)
  chains : {at label : ℕ} {p : Program} → byte_at text at ≡ 0x12 → 16 ≤ length p.chains →
      Stops least text at label p (fault 4 at)
  rows : {at label : ℕ} {p : Program} → byte_at text at ≡ 0x16 → 32 ≤ length p.rows →
      Stops least text at label p (fault 4 at)
  second : {at label : ℕ} {p : Program} → byte_at text at ≡ 0x14 → ¬ (p.cap ≡ unlimited) →
      Stops least text at label p (fault 5 at)
  -- Then its operands.
  cut : {at label : ℕ} {p : Program} → HasRoom p (byte_at text at) → DeclarationCut text at →
      Stops least text at label p (fault 2 (length text))
  outside : {at label : ℕ} {p : Program} → HasRoom p (byte_at text at) → DeclarationOutside text at →
      Stops least text at label p (fault 5 at)
  -- Then the expression of an EQ, the LINKs of a LAT, what stands after END, and what is not IN or EQ after a TAG.
  expression : {at label period weight : ℕ} {initial : ℤ} {p : Program} {f : Fault} → count p < 64 →
      DeclarationWritten text at (Declaration.Equation period initial weight) →
      StopsExpr least text 16 (at + in_program 0x11) f → Stops least text at label p f
  links : {at label bound : ℕ} {mode : Mode} {p : Program} {f : Fault} → length p.chains < 16 →
      DeclarationWritten text at (Declaration.Latency mode bound) → StopsLinks text 16 (at + in_program 0x12) f →
      Stops least text at label p f
  short : {at label next bound : ℕ} {mode : Mode} {ls : List Link} {p : Program} → length p.chains < 16 →
      DeclarationWritten text at (Declaration.Latency mode bound) → SpellsLinks text (at + in_program 0x12) ls next →
      length ls < 2 → Stops least text at label p (fault 5 at)
  trailing : {at label : ℕ} {p : Program} → DeclarationWritten text at Declaration.End → at + in_program 0x00 < length text →
      Stops least text at label p (fault 6 (at + in_program 0x00))
  unfollowed : {at label given : ℕ} {p : Program} → DeclarationWritten text at (Declaration.Tag given) →
      length text ≤ at + in_program 0x15 → Stops least text at label p (fault 2 (length text))
  stray : {at label given : ℕ} {p : Program} → DeclarationWritten text at (Declaration.Tag given) →
      at + in_program 0x15 < length text → ¬ IsSignal (byte_at text (at + in_program 0x15)) →
      Stops least text at label p (fault 3 at)

-- The PUTs from `at` on stop.
pub data StopsPuts (text : List ℕ) : ℕ → Fault → Type 0 where
  onward : {at signal phase : ℕ} {f : Fault} → PutWritten text at (ScheduleCommand.Put signal phase) →
      StopsPuts text (at + in_schedule 0x40) f → StopsPuts text at f
  early : {at : ℕ} → length text ≤ at → StopsPuts text at (fault 11 (length text))
  cut : {at : ℕ} → PutCut text at → StopsPuts text at (fault 11 (length text))
  unknown : {at : ℕ} → at < length text → NoPutByte (byte_at text at) → StopsPuts text at (fault 11 at)
  trailing : {at : ℕ} → PutWritten text at ScheduleCommand.End → at + in_schedule 0x00 < length text →
      StopsPuts text at (fault 11 (at + in_schedule 0x00))
