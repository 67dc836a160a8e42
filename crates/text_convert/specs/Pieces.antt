-- What a command becomes, as the converter's functions hand it on.
use Rattle.std.specs.Prelude.{ℕ, List, [], ◌∷◌, cond, eqb, take, drop}
use Rattle.model.specs.Rules.Rewrite.{single_kind}
use Rattle.model.specs.Rules.Rewrite.{Command, of_declaration, of_operator, declaration_width}
use Rattle.model.specs.Rules.Width.{in_expression, read_width}
use Rattle.model.specs.Says.Written.{read_byte}
use Rattle.model.specs.declared.Operator.{Operator}
use Rattle.text_convert.specs.declared.Piece.{Piece}

-- The bytes of the text that a piece stands for, how many bytes it has, and which.
abbrev pub width_in : Piece → ℕ
width_in (Piece.Keep n) = n
width_in (Piece.Short n byte signal) = n

abbrev pub new_length : Piece → ℕ
new_length (Piece.Keep n) = n
new_length (Piece.Short n byte signal) = in_expression 0x21

abbrev pub bytes_in : Piece → List ℕ → List ℕ
bytes_in (Piece.Keep n) bytes = bytes
bytes_in (Piece.Short n byte signal) bytes = byte ∷ signal ∷ []

-- The piece of an operator; a declaration is kept.
abbrev pub operator_piece : Operator → Piece
operator_piece Operator.EndsEarly = Piece.Keep 0
operator_piece Operator.Unknown = Piece.Keep 0
operator_piece Operator.OutOfRange = Piece.Keep 0
operator_piece (Operator.Constant w) = Piece.Keep (in_expression 0x20)
operator_piece (Operator.Read kind x) =
    cond (eqb x.factor 1) (Piece.Short (read_width kind) (read_byte (single_kind kind)) x.signal) (Piece.Keep (read_width kind))
operator_piece (Operator.Binary operator) = Piece.Keep (in_expression 0x30)
operator_piece (Operator.Unary operator) = Piece.Keep (in_expression 0x38)
operator_piece Operator.If = Piece.Keep (in_expression 0x3A)

abbrev pub piece_of : Command → Piece
piece_of (of_declaration d) = Piece.Keep (declaration_width d)
piece_of (of_operator o) = operator_piece o

-- The bytes of the piece that stands for the command at `at`.
abbrev pub piece_at : List ℕ → ℕ → Piece → List ℕ
piece_at text at piece = bytes_in piece (take (width_in piece) (drop at text))
