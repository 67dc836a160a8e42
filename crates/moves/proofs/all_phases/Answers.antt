-- `moves::all_phases` meets its contract. Assumes nothing.
use Prim.Native.Nat.{ℕ, ◌+◌, ◌-◌, ◌≤◌, ◌<◌}
use mathlib.Core.Bool.{Bool, true, false}
use mathlib.Core.List.{List}
use mathlib.Core.Path.{◌≡◌, refl, ◌∙◌}
use native.Mathlib.Omega.{arith}
use borrow.Author.Rules.{rules}
use borrow.Author.Tests.{eqb-true, eqb-false}
use lib.Dec.{eqb}
use lib.ListN.{length, get_or, set, length-set}
use lib.Seq.{get_or-set_same, get_or-set_other}
use Rattle.moves.proofs.all_phases.Goals as goal

copied : (highs periods : List ℕ) (x v : ℕ) → x < 64 → length highs ≡ 64 → v ≡ get_or periods x 0 →
    ((y : ℕ) → y < x → get_or highs y 0 ≡ get_or periods y 0) →
    (y : ℕ) → y < x + 1 → get_or (set highs x v) y 0 ≡ get_or periods y 0
copied highs periods x v lt long e h y l = go (eqb y x) refl
  where
    go : (b : Bool) → eqb y x ≡ b → get_or (set highs x v) y 0 ≡ get_or periods y 0
    go true q = rw (eqb-true y x q) (get_or-set_same highs x v 0 (omega arith) ∙ e)
    go false q = let d = eqb-false y x q in get_or-set_other highs x y v 0 d ∙ h y (omega arith)

pub loop-x-init : goal.loop-x-init
loop-x-init c = (omega arith, refl, λ y lt. absurd (omega arith))

pub loop-x-preserved : goal.loop-x-preserved
loop-x-preserved c =
    let t = c in
    let l = t.loop-x in (
      omega (arith, t.loop-x-test.true),
      length-set l.highs l.x c.from_byte.result ∙ l.invariant.1,
      copied l.highs t.args.periods.now l.x c.from_byte.result t.loop-x-test.true l.invariant.1
          c.from_byte.ensures.0 l.invariant.2,
    )

pub returns : goal.returns
returns c =
    let l = c.loop-x in
    (l.invariant.1, λ x lt. l.invariant.2 x (omega (arith, c.loop-x-test.false)))

pub bounds-periods-x : goal.bounds-periods-x
bounds-periods-x c = omega (arith, c.loop-x-test.true)

pub offset_bounds-highs-x : goal.offset_bounds-highs-x
offset_bounds-highs-x c = omega (arith, c.loop-x-test.true)

pub bounds-highs-x : goal.bounds-highs-x
bounds-highs-x c = omega (arith, c.loop-x-test.true)
