-- What the first operator of an expression says of the rest: how wide it is, how many operands follow, and the code that stands
-- after
-- theirs.
use Rattle.std.specs.Prelude.{ℕ, Bool, true, false, List, [], ◌∷◌}
use Rattle.model.specs.Rules.Image.{binary_byte, unary_byte}
use Rattle.model.specs.Rules.Width.{in_expression, read_width}
use Rattle.model.specs.Rules.Word.{word_bytes}
use Rattle.model.specs.declared.Operator.{Operator}

pub record Lead : Type 0 where
  -- whether the command is an operator or a leaf
  pub operator : Bool
  pub width : ℕ
  pub arity : ℕ
  pub last : List ℕ

-- No command of an expression: the 1 is no width, only a step.
abbrev pub no_lead : Lead
no_lead = record { operator = false; width = 1; arity = 0; last = [] }

abbrev pub lead_of : Operator → Lead
lead_of Operator.EndsEarly = no_lead
lead_of Operator.Unknown = no_lead
lead_of Operator.OutOfRange = no_lead
lead_of (Operator.Constant w) = record { operator = true; width = in_expression 0x20; arity = 0; last = 0x50 ∷ word_bytes w }
lead_of (Operator.Read kind x) = record { operator = true; width = read_width kind; arity = 0; last = 0x51 ∷ x.signal ∷ [] }
lead_of (Operator.Binary operator) =
    record { operator = true; width = in_expression 0x30; arity = 2; last = binary_byte operator ∷ [] }
lead_of (Operator.Unary operator) =
    record { operator = true; width = in_expression 0x38; arity = 1; last = unary_byte operator ∷ [] }
lead_of Operator.If = record { operator = true; width = in_expression 0x3A; arity = 3; last = 0x3A ∷ [] }
