-- `text_schedule::all_put` meets its contract. Assumes nothing.
use Rattle.text_schedule.specs.Slots.{all_ranked}
use Prim.Native.Nat.{ℕ, ◌+◌, ◌-◌, ◌≤◌, ◌<◌}
use mathlib.Core.Path.{◌≡◌, sym, subst}
use mathlib.Core.Bool.{true, not}
use native.Mathlib.Omega.{arith}
use native.Mathlib.Decide.{dec_lt}
use lib.Dec.{eqb}
use lib.ListN.{get_or}
use borrow.Author.Tests.{eq-eqb, ne_eqb}
use Rattle.model.proofs.Pairs.Decide.{true-all, all-fails}
use Rattle.text_schedule.proofs.all_put.Goals as goal

none : (y : ℕ) → y < 0 → ⊥
none y h = omega arith

below : {P : ℕ → Type 0} (y x : ℕ) → Dec (y < x) → y < x + 1 → ((z : ℕ) → z < x → P z) → P x → P y
below {P} y x (yes q) h f g = f y q
below {P} y x (no q) h f g = subst P (omega arith) g

pub returns-then-ranks-x-eq64 : goal.returns-then-ranks-x-eq64
unfolding all_ranked
returns-then-ranks-x-eq64 c = sym (all-fails _ _ c.loop-x.x c.loop-x-test.true
    (rw (eq-eqb _ 64 c.if-ranks-x-eq64.true)))

pub loop-x-preserved : goal.loop-x-preserved
loop-x-preserved c =
    let l = c.loop-x in
    (omega arith, l.invariant.1, λ y h. below y l.x (dec_lt y l.x) h l.invariant.2 (rw (ne_eqb _ 64 c.if-ranks-x-eq64.false)))

pub returns : goal.returns
unfolding all_ranked
returns c = sym (true-all _ _ (λ y h. c.loop-x.invariant.2 y (omega arith)))

pub loop-x-init : goal.loop-x-init
loop-x-init c = (omega arith, c.requires, λ y h. absurd (none y h))
