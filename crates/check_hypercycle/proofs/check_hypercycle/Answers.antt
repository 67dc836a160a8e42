-- `check_hypercycle::check_hypercycle` meets its contract. Assumes nothing.
use Prim.Native.Nat.{◌+◌, ◌-◌, ◌<◌}
use mathlib.Core.Path.{◌≡◌, sym, ap, ◌∙◌}
use native.Mathlib.Omega.{arith}
use Rattle.model.specs.Rules.Outcome.{yielded_of, accepted}
use Rattle.model.specs.Rules.Rates.{is_multiple, hypercycle_of}
use Rattle.check_hypercycle.proofs.Multiples.{left_from, cycle_start, cycle-here, cycle-later, cycle-over}
use Rattle.check_hypercycle.proofs.check_hypercycle.Goals as goal

pub loop-h-init : goal.loop-h-init
loop-h-init c p n t = cycle_start p

pub returns-then-is_multiple : goal.returns-then-is_multiple
returns-then-is_multiple c p n t =
    let h = c.loop-h.h in
    let e : h - 1 + 1 ≡ h = omega (arith, c.loop-h.auto.h) in
    sym (c.loop-h.invariant p n t
    ∙ cycle-here p (h - 1) (omega (arith, c.loop-h-test.true, c.loop-h.auto.h))
    (ap (is_multiple p.signals) e ∙ sym (c.is_multiple.ensures p n t) ∙ c.if-is_multiple.true)
    ∙ ap accepted e)

pub loop-h-preserved : goal.loop-h-preserved
loop-h-preserved c p n t =
    let h = c.loop-h.h in
    let e : h - 1 + 1 ≡ h = omega (arith, c.loop-h.auto.h) in
    let next : h - 1 + 1 ≡ h + 1 - 1 = omega (arith, c.loop-h.auto.h) in
    c.loop-h.invariant p n t
    ∙ ap hypercycle_of (cycle-later p (h - 1) (omega (arith, c.loop-h-test.true, c.loop-h.auto.h))
    (ap (is_multiple p.signals) e ∙ sym (c.is_multiple.ensures p n t) ∙ c.if-is_multiple.false)
    ∙ ap (left_from p) next)

pub returns : goal.returns
returns c p n t =
    let over : c.loop-h.h - 1 ≡ 240 = omega (arith, c.loop-h-test.false, c.loop-h.auto.h-end, c.loop-h.auto.h) in
    ap yielded_of c.refuse.ensures ∙ sym (c.loop-h.invariant p n t ∙ cycle-over p _ over)
