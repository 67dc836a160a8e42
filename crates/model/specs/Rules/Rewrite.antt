-- The converter, on bytes: each WHEN and CURRENT with n = 1 is written as NOW, each LASTWHEN with n = 1 as LAST, of the same
-- signal; every other byte is kept. All command bytes of a program text differ, so that one walk from command to command meets
-- declarations, operators, reads and LINKs in the order of their offsets.
use Rattle.std.specs.Prelude.{ℕ, zero, suc, ◌+◌, cond, List, [], ◌∷◌, ◌++◌, leb, eqb, length, take, drop}
use Rattle.model.specs.Rules.Command.{is_operator, declaration_at, operator_at}
use Rattle.model.specs.Rules.Machine.{Effect, Job, effect}
use Rattle.model.specs.Rules.Outcome.{Outcome, accepted, ◌▷◌, provided}
use Rattle.model.specs.Rules.Program.{parse_with}
use Rattle.model.specs.Rules.Width.{in_program, in_expression, read_width}
use Rattle.model.specs.Rules.Word.{byte_at}
use Rattle.model.specs.Says.Written.{read_byte}
use Rattle.model.specs.declared.Declaration.{Declaration}
use Rattle.model.specs.declared.Declaration.TheVariants as Declaration
use Rattle.model.specs.declared.Operator.{Operator}
use Rattle.model.specs.declared.Operator.TheVariants as Operator
use Rattle.model.specs.declared.Kind.{Kind}
use Rattle.model.specs.declared.Kind.TheVariants.{Now, Last, When, LastWhen, Current}

-- A command of either kind.
pub data Command : Type 0 where
  of_declaration : Declaration → Command
  of_operator : Operator → Command

-- The command at an offset of the program text, by its byte.
unfoldable pub command_at : List ℕ → ℕ → Command
command_at text at =
    cond (is_operator (byte_at text at)) (of_operator (operator_at text at)) (of_declaration (declaration_at text at))

-- The bytes of a command, without the expression and the LINKs that follow it; 0 where there is none.
abbrev pub declaration_width : Declaration → ℕ
declaration_width Declaration.EndsEarly = 0
declaration_width Declaration.Unknown = 0
declaration_width Declaration.OutOfRange = 0
declaration_width Declaration.End = in_program 0x00
declaration_width (Declaration.Input period initial) = in_program 0x10
declaration_width (Declaration.Equation period initial weight) = in_program 0x11
declaration_width (Declaration.Latency mode bound) = in_program 0x12
declaration_width (Declaration.Link signal) = in_program 0x13
declaration_width (Declaration.Cap n) = in_program 0x14
declaration_width (Declaration.Tag label) = in_program 0x15
declaration_width (Declaration.Row low high result) = in_program 0x16

abbrev pub operator_width : Operator → ℕ
operator_width Operator.EndsEarly = 0
operator_width Operator.Unknown = 0
operator_width Operator.OutOfRange = 0
operator_width (Operator.Constant w) = in_expression 0x20
operator_width (Operator.Read kind x) = read_width kind
operator_width (Operator.Binary operator) = in_expression 0x30
operator_width (Operator.Unary operator) = in_expression 0x38
operator_width Operator.If = in_expression 0x3A

-- The kind and the index of a read after the conversion; the factor, which is 1 if they change, and the signal stay.
abbrev pub single_kind : Kind → Kind
single_kind Now = Now
single_kind Last = Last
single_kind When = Now
single_kind LastWhen = Last
single_kind Current = Now

abbrev pub width_of : Command → ℕ
width_of (of_declaration d) = declaration_width d
width_of (of_operator o) = operator_width o

-- What stands for the bytes of an operator: of a read by 1 a shorter one. NOW and LAST have factor 1 too, and stay as they are.
abbrev pub operator_after : Operator → List ℕ → List ℕ
operator_after Operator.EndsEarly bytes = bytes
operator_after Operator.Unknown bytes = bytes
operator_after Operator.OutOfRange bytes = bytes
operator_after (Operator.Constant w) bytes = bytes
operator_after (Operator.Read kind x) bytes = cond (eqb x.factor 1) (read_byte (single_kind kind) ∷ x.signal ∷ []) bytes
operator_after (Operator.Binary operator) bytes = bytes
operator_after (Operator.Unary operator) bytes = bytes
operator_after Operator.If bytes = bytes

-- A declaration keeps its bytes.
abbrev pub bytes_after : Command → List ℕ → List ℕ
bytes_after (of_declaration d) bytes = bytes
bytes_after (of_operator o) bytes = operator_after o bytes

-- The command at `at`, rewritten.
unfoldable pub rewrite_at : List ℕ → ℕ → Command → List ℕ
rewrite_at text at c = bytes_after c (take (width_of c) (drop at text))

-- The commands from `at` on, rewritten: `left` bytes hold no more than `left` of them.
unfoldable pub rewrite_from : ℕ → List ℕ → ℕ → List ℕ
rewrite_from zero text at = []
rewrite_from (suc left) text at =
    rewrite_at text at (command_at text at) ++ rewrite_from left text (at + width_of (command_at text at))

-- A program text, rewritten.
unfoldable pub rewrite : List ℕ → List ℕ
rewrite text = rewrite_from (length text) text 0

-- The job of the converter: 1 to 6 with n = 1 allowed, then 17 where the buffer is shorter than the result; bytes past it stay.
abbrev pub convert_job : List ℕ → List ℕ → Outcome (Job ℕ ℕ)
convert_job program buffer =
    provided (leb (length program) 8192) 1 0 ▷ λ _.
    parse_with 1 program ▷ λ p.
    provided (leb (length (rewrite program)) (length buffer)) 17 (length (rewrite program)) ▷ λ _.
    accepted (record { yields = length (rewrite program); leaves = rewrite program ++ drop (length (rewrite program)) buffer })

unfoldable pub convert_of : List ℕ → List ℕ → Effect ℕ ℕ
convert_of program buffer = effect buffer (convert_job program buffer)
