-- One expression stands in another: it is the whole of it, or stands in one of its operands.
use Rattle.model.specs.Rules.Program.{Body, input, equation, Expr, binary, unary, choose}
use Rattle.model.specs.declared.Binary.{Binary}
use Rattle.model.specs.declared.Unary.{Unary}
use Rattle.model.specs.declared.Unary.TheVariants.{Table}

pub data Subexpression (part : Expr) : Expr → Type 0 where
  whole : Subexpression part part
  left : {operator : Binary} {x y : Expr} → Subexpression part x → Subexpression part (binary operator x y)
  right : {operator : Binary} {x y : Expr} → Subexpression part y → Subexpression part (binary operator x y)
  under : {operator : Unary} {x : Expr} → Subexpression part x → Subexpression part (unary operator x)
  condition : {x y z : Expr} → Subexpression part x → Subexpression part (choose x y z)
  first : {x y z : Expr} → Subexpression part y → Subexpression part (choose x y z)
  second : {x y z : Expr} → Subexpression part z → Subexpression part (choose x y z)

-- A TABLE stands in the equation of a signal.
abbrev pub LooksUp : Body → Type 0
LooksUp input = ⊥
LooksUp (equation weight e) = (operand : Expr) × Subexpression (unary Table operand) e
