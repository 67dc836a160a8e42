-- How far an expression reaches. Assumes nothing.
use Prim.Native.Nat.{ℕ, ◌≤◌}
use mathlib.Core.List.{List}
use lib.ListN.{length}
use Rattle.model.specs.Rules.Program.{least_factor, Expr}
use Rattle.model.specs.Says.Grammar.{Spells}
use Rattle.model.proofs.Texts.Commands.{operator-sound}
use Rattle.model.proofs.Texts.Written.{operator-decoded}

-- What spells an expression lies within the text.
module _ {text : List ℕ} where
  pub inside : {at n : ℕ} {e : Expr} → Spells least_factor text at e n → n ≤ length text
  inside (Spells.constants {at = at} e) = (operator-sound text at _ (operator-decoded e)).1
  inside (Spells.reads {at = at} e a) = (operator-sound text at _ (operator-decoded e)).1
  inside (Spells.two e u v) = inside v
  inside (Spells.one e u) = inside u
  inside (Spells.three e u v w) = inside w
