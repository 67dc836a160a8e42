-- `image_valid::tail` meets its contract. Assumes nothing.
use Prim.Native.Nat.{ℕ, ◌-◌}
use mathlib.Core.Path.{◌≡◌, ap, ◌∙◌}
use native.Mathlib.Omega.{arith}
use lib.ListN.{length, take, drop}
use Rattle.model.specs.Rules.Tail.{stretch_in}
use Rattle.image_valid.proofs.tail.Goals as goal

pub returns-in_default : goal.returns-in_default
returns-in_default c =
    let lent = c.args.lent.now in
    let none : length lent - length lent ≡ 0 = omega arith in
    ap (λ (k : ℕ). take k (drop (length lent) lent)) none ∙ ap stretch_in c.in_default.ensures

pub returns : goal.returns
returns c = ap stretch_in c.in-Ok.ensures
