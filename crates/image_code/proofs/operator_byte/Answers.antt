-- `image_code::operator_byte` meets its contract. Assumes nothing.
use mathlib.Core.List.{[], ◌∷◌}
use mathlib.Core.Path.{◌≡◌, refl}
use Rattle.model.specs.declared.Binary.{Binary}
use Rattle.model.specs.declared.Operator.{Operator}
use Rattle.model.specs.declared.Unary.{Unary}
use Rattle.text_command.specs.Operator.{operands_of}
use Rattle.image_code.specs.Shape.{lead_of}
use Rattle.image_code.proofs.operator_byte.Goals as goal

-- neither of two operands nor of one
choose-byte : (o : Operator) → ((x : Binary) → o ≡ Operator.Binary x → ⊥) → ((x : Unary) → o ≡ Operator.Unary x → ⊥) →
    (operands_of o ≡ 0 → ⊥) → (lead_of o).last ≡ 0x3A ∷ []
unfolding operands_of
choose-byte Operator.EndsEarly b u h = absurd (h refl)
choose-byte Operator.Unknown b u h = absurd (h refl)
choose-byte Operator.OutOfRange b u h = absurd (h refl)
choose-byte (Operator.Constant w) b u h = absurd (h refl)
choose-byte (Operator.Read kind x) b u h = absurd (h refl)
choose-byte (Operator.Binary operator) b u h = absurd (b operator refl)
choose-byte (Operator.Unary operator) b u h = absurd (u operator refl)
choose-byte Operator.If b u h = refl

pub returns-in-Binary : goal.returns-in-Binary
returns-in-Binary c h = rw (c.in-Binary.is, c.binary_byte.ensures) refl

pub returns-in-Unary : goal.returns-in-Unary
returns-in-Unary c h = rw (c.in-Unary.is, c.unary_byte.ensures) refl

pub returns-in_default : goal.returns-in_default
returns-in_default c h = choose-byte _ c.in_default.not-Binary c.in_default.not-Unary h
