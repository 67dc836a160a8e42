-- `text_command::lookups_of` meets its contract. Assumes nothing.
use mathlib.Core.Path.{◌≡◌, refl, sym, ap, ◌∙◌}
use native.Mathlib.Omega.{arith}
use Rattle.model.specs.declared.Operator.{Operator}
use Rattle.model.specs.declared.Operator.TheVariants as Operator
use Rattle.model.specs.declared.Unary.{Unary}
use Rattle.text_command.specs.Operator.{lookups_of}
use borrow.Author.Rules.{rules}
use Rattle.text_command.proofs.lookups_of.Goals as goal

none : (o : Operator) → ((x : Unary) → o ≡ Operator.Unary x → ⊥) → 0 ≡ lookups_of o
unfolding lookups_of
none Operator.EndsEarly h = refl
none Operator.Unknown h = refl
none Operator.OutOfRange h = refl
none (Operator.Constant w) h = refl
none (Operator.Read kind x) h = refl
none (Operator.Binary operator) h = refl
none (Operator.Unary operator) h = absurd (h operator refl)
none Operator.If h = refl

pub returns-in-Unary : goal.returns-in-Unary
unfolding lookups_of
returns-in-Unary c = (
  c.unary_lookups.ensures.0 ∙ sym (ap lookups_of c.in-Unary.is),
  c.unary_lookups.ensures.1,
)

pub returns-in_default : goal.returns-in_default
returns-in_default c = (none _ c.in_default.not-Unary, omega arith)
