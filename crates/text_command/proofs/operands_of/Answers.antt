-- `text_command::operands_of` meets its contract. Assumes nothing.
use mathlib.Core.Path.{◌≡◌, refl}
use Rattle.model.specs.declared.Operator.{Operator}
use Rattle.model.specs.declared.Operator.TheVariants as Operator
use Rattle.model.specs.declared.Binary.{Binary}
use Rattle.model.specs.declared.Unary.{Unary}
use Rattle.text_command.specs.Operator.{operands_of}
use borrow.Author.Rules.{rules}
use Rattle.text_command.proofs.operands_of.Goals as goal

none : (o : Operator) → ((x : Binary) → o ≡ Operator.Binary x → ⊥) → ((x : Unary) → o ≡ Operator.Unary x → ⊥) →
    (o ≡ Operator.If → ⊥) → 0 ≡ operands_of o
unfolding operands_of
none Operator.EndsEarly b u i = refl
none Operator.Unknown b u i = refl
none Operator.OutOfRange b u i = refl
none (Operator.Constant w) b u i = refl
none (Operator.Read kind x) b u i = refl
none (Operator.Binary operator) b u i = absurd (b operator refl)
none (Operator.Unary operator) b u i = absurd (u operator refl)
none Operator.If b u i = absurd (i refl)

pub returns-in-Binary : goal.returns-in-Binary
unfolding operands_of
returns-in-Binary c = rw c.in-Binary.is

pub returns-in-Unary : goal.returns-in-Unary
unfolding operands_of
returns-in-Unary c = rw c.in-Unary.is

pub returns-in-If : goal.returns-in-If
unfolding operands_of
returns-in-If c = rw c.in-If.is

pub returns-in_default : goal.returns-in_default
returns-in_default c = none _ c.in_default.not-Binary c.in_default.not-Unary c.in_default.not-If
