-- What measuring an expression asks for, and what its answer says.
use Rattle.std.specs.Prelude.{ℕ, ◌+◌, ◌≤◌, max, List, ◌≡◌}
use Rattle.model.specs.Says.Grammar.{depth, Spells}
use Rattle.model.specs.Rules.Program.{least_factor, Expr, Signal}
use Rattle.model.specs.Rules.Report.{expr_commands, expr_height, body_commands, body_height}
use Rattle.model.specs.Says.Stands.{SpellsSignal}
use Rattle.report.specs.declared.Measure.{Measure}
use Rattle.report.specs.declared.Work.{Work}

-- An expression stands at `at` that nests at most d deep.
pub record Nests (d : ℕ) (text : List ℕ) (at : ℕ) : Type 0 where
  pub expr : Expr
  pub next : ℕ
  pub spelled : Spells least_factor text at expr next
  pub deep : depth expr ≤ d

-- The measure of an expression that ends at n.
pub record MeasureIs (e : Expr) (n : ℕ) (m : Measure) : Type 0 where
  pub goes : m.next ≡ n
  pub commands : m.commands ≡ expr_commands e
  pub height : m.height ≡ expr_height e

pub record Measures (text : List ℕ) (at : ℕ) (m : Measure) : Type 0 where
  pub tells : (e : Expr) (n : ℕ) → Spells least_factor text at e n → MeasureIs e n m

-- One expression after another, and an operator after its operands.
pub record Joined (a b r : Measure) : Type 0 where
  pub goes : r.next ≡ b.next
  pub commands : r.commands ≡ a.commands + b.commands
  pub height : r.height ≡ max a.height (b.height + 1)

pub record Operated (a r : Measure) : Type 0 where
  pub goes : r.next ≡ a.next
  pub commands : r.commands ≡ a.commands + 1
  pub height : r.height ≡ a.height

-- The work of the signal that is declared at `place`.
pub record WorkOf (text : List ℕ) (place : ℕ) (r : Work) : Type 0 where
  pub commands : (σ : Signal) → σ.place ≡ place → SpellsSignal text σ → r.commands ≡ body_commands σ.body
  pub height : (σ : Signal) → σ.place ≡ place → SpellsSignal text σ → r.height ≡ body_height σ.body
