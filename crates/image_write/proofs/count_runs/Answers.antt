-- `image_write::count_runs` meets its contract. Assumes nothing.
use Prim.Native.Nat.{ℕ, ◌<◌}
use mathlib.Core.Bool.{cond}
use mathlib.Core.Path.{refl, ap}
use native.Mathlib.Nat.{le_of_eq}
use native.Mathlib.Omega.{arith}
use lib.ListN.{length, get_or, get_or-replicate}
use Rattle.model.specs.Rules.Reads.{due}
use Rattle.text_program.specs.Tables.{rate_at}
use Rattle.model.proofs.Basics.Left.{parts-length}
use Rattle.image_write.proofs.Listed.{run-size, list-starts, list-step, list-ends}
use Rattle.image_write.proofs.count_runs.Goals as goal
use Rattle.image_write.proofs.count_runs.Goals.{After-from_byte-x}

pub loop-i-init : goal.loop-i-init
loop-i-init c =
    let a = c.args in
    let zeros : (d : ℕ) → d < 240 → _ = λ d lt. get_or-replicate {A = ℕ} 240 d 0 0 lt in (
      omega arith,
      refl,
      (λ d lt. le_of_eq (zeros d (omega (arith, c.requires.2)))),
      (λ d lt. omega (
        arith,
        zeros d (omega (arith, c.requires.2)),
        ap length (list-starts a.periods.now a.order.now a.phases.now a.n d),
      )),
    )

-- the signal of the turn
small : (w : After-from_byte-x) → w.from_byte-x.result < 64
small w =
    omega (
      arith,
      w.from_byte-x.ensures.0,
      w.requires.0.below w.loop-i.i
          w.loop-i-test.true,
    )

pub add_runs-requires : goal.add_runs-requires
add_runs-requires c =
    let w = c in
    let l = c in
    let s = c in (
      rw w.from_byte-x.ensures.0 (s.requires.1 l.loop-i.i w.loop-i-test.true),
      s.requires.2,
      l.loop-i.invariant.1,
      (λ d lt. omega (arith, l.loop-i.invariant.2 d lt, w.loop-i-test.true, s.requires.0.few)),
    )

pub loop-i-preserved : goal.loop-i-preserved
loop-i-preserved c =
    let w = c in
    let l = c in
    let lt = w.loop-i-test.true in
    let a = l.args in
    let r = c.add_runs.ensures in
    let i = l.loop-i.invariant in (
      omega (arith, lt),
      r.long,
      (λ d ld. omega (arith, r.bounded d ld, i.2 d ld)),
      (λ d ld.
          omega (
            arith,
            r.raised d ld,
            ap {B = ℕ} (λ (x : ℕ). cond (due (rate_at a.periods.now a.phases.now x) d) 1 0) w.from_byte-x.ensures.0,
            run-size a.periods.now a.phases.now d (get_or a.order.now l.loop-i.i 0),
            parts-length (list-step a.periods.now a.order.now a.phases.now a.n d l.loop-i.i lt),
            i.3 d ld,
          )),
    )

pub returns : goal.returns
returns c =
    let l = c in
    let a = l.args in
    record {
      counted = λ d ld.
          omega (
            arith,
            l.loop-i.invariant.3 d ld,
            ap length (list-ends a.periods.now a.order.now a.phases.now a.n d l.loop-i.i
                (omega (arith, c.loop-i-test.false))),
          );
    }

pub bounds-order-i : goal.bounds-order-i
bounds-order-i c = omega (arith, c.requires.0.few)

pub bounds-periods-x : goal.bounds-periods-x
bounds-periods-x c = omega (arith, small (goal.at.bounds-periods-x c).After-from_byte-x)

pub bounds-phases-x : goal.bounds-phases-x
bounds-phases-x c = omega (arith, small (goal.at.bounds-phases-x c).After-from_byte-x)
