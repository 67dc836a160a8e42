-- `text_convert::copy` meets its contract. Assumes nothing.
use Prim.Native.Nat.{ℕ, ◌+◌, ◌-◌}
use mathlib.Core.List.{[], ◌∷◌}
use mathlib.Core.Path.{◌≡◌, refl, subst}
use native.Mathlib.Omega.{arith}
use lib.ListN.{get_or, take, drop}
use Rattle.model.proofs.Basics.Left.{Parts, turn, done}
use Rattle.text_convert.proofs.Walk.{copy_step, take_none}
use Rattle.text_convert.proofs.copy.Goals as goal
use Rattle.text_convert.proofs.copy.Goals.{After-shared_slice_known-1}

-- the byte at i, and what comes after it
step : (c : After-shared_slice_known-1) → let text = c.args.text.now in let i = c.loop-i.i in let end = c.args.at + c.args.n in
    Parts (take (end - i) (drop i text)) (get_or text i 0 ∷ []) (take (end - (i + 1)) (drop (i + 1) text))
step c =
    let text = c.args.text.now in
    let i = c.loop-i.i in
    let end = c.args.at + c.args.n in
    let less : end - i - 1 ≡ end - (i + 1) = omega arith in
    subst (λ (k : ℕ). Parts (take (end - i) (drop i text)) (get_or text i 0 ∷ []) (take k (drop (i + 1) text))) less
    (copy_step text i (end - i) (omega (arith, c.loop-i-test.true)) (omega (arith, c.requires.0, c.loop-i.invariant.0)))

pub loop-i-preserved : goal.loop-i-preserved
loop-i-preserved c = (
  omega (arith, c.loop-i-test.true),
  turn (step c) c.loop-i.invariant.1 (record { holds = refl; ends = refl }),
)

pub returns : goal.returns
returns c = done (take_none _ _ (omega (arith, c.loop-i-test.false))) c.loop-i.invariant.1
