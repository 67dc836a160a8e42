-- `report::count_commands` meets its contract. Assumes nothing.
use Prim.Native.Nat.{ℕ, ◌+◌, ◌*◌, ◌-◌, ◌≤◌, ◌<◌}
use mathlib.Core.Bool.{cond}
use mathlib.Core.Path.{◌≡◌, refl, ap, ◌∙◌}
use native.Mathlib.Nat.{le_of_eq}
use native.Mathlib.Omega.{arith}
use lib.ListN.{length, get_or, get_or-replicate}
use Rattle.model.specs.Rules.Reads.{due}
use Rattle.image_write.specs.Lists.{list_by}
use Rattle.report.specs.Counted.{work_of}
use Rattle.report.proofs.Sums.{work_left, work-starts, work-next, work-ends}
use borrow.Author.Rules.{rules}
use Rattle.report.proofs.count_commands.Goals as goal
use Rattle.report.proofs.count_commands.Goals.{After-from_byte-x}

pub loop-i-init : goal.loop-i-init
loop-i-init c =
    let a = c.args in
    let s = c.requires in
    let zeros : (d : ℕ) → d < 240 → _ = λ d lt. get_or-replicate {A = ℕ} 240 d 0 0 lt in (
      omega arith,
      refl,
      (λ d lt. le_of_eq (zeros d (omega (arith, s.2)))),
      (λ d lt. omega (
        arith,
        zeros d (omega (arith, s.2)),
        work-starts a.periods.now a.order.now a.phases.now a.commands.now a.n d,
      )),
      (λ d le lt. zeros d lt),
    )

pub bounds-order-i : goal.bounds-order-i
bounds-order-i c = omega (arith, c.requires.0.few)

-- the signal of the turn
small : (w : After-from_byte-x) → w.from_byte-x.result < 64
small w = omega (
  arith,
  w.from_byte-x.ensures.0,
  w.requires.0.below w.loop-i.i (omega arith),
)

pub add_runs-requires : goal.add_runs-requires
add_runs-requires c =
    let w = c in
    let l = c in
    let s = c in (
      rw w.from_byte-x.ensures.0 (s.requires.1 l.loop-i.i (omega arith)),
      s.requires.2,
      l.loop-i.invariant.1,
      (λ d lt. omega (arith, l.loop-i.invariant.2 d lt, s.requires.0.few)),
    )

pub loop-i-preserved : goal.loop-i-preserved
loop-i-preserved c =
    let w = c in
    let l = c in
    let a = l.args in
    let r = c.add_runs.ensures in
    let i = l.loop-i.invariant in
    let step : (d : ℕ) → _ = λ d. work-next a.periods.now a.order.now a.phases.now a.commands.now a.n d
    l.loop-i.i (omega arith) in (
      omega arith,
      r.long,
      (λ d lt. omega (arith, r.bounded d lt, i.2 d lt)),
      (λ d lt.
          omega (
            arith,
            r.raised d lt,
            ap (λ (x : ℕ). cond (due (record { period = get_or a.periods.now x 0; phase = get_or a.phases.now x 0 }) d)
                (get_or a.commands.now x 0) 0) w.from_byte-x.ensures.0,
            step d,
            i.3 d lt,
          )),
      (λ d le lt. r.beyond d le ∙ i.4 d le lt),
    )

pub returns : goal.returns
returns c =
    let l = c in
    let a = l.args in
    let i = l.loop-i.invariant in
    record {
      long = i.1;
      counted = λ d lt. omega (
        arith,
        i.3 d lt,
        work-ends a.periods.now a.order.now a.phases.now a.commands.now a.n d l.loop-i.i
            (omega arith),
      );
      rest = i.4;
    }

pub bounds-periods-x : goal.bounds-periods-x
bounds-periods-x c = omega (arith, small (goal.at.bounds-periods-x c).After-from_byte-x)

pub bounds-phases-x : goal.bounds-phases-x
bounds-phases-x c = omega (arith, small (goal.at.bounds-phases-x c).After-from_byte-x)

pub offset_bounds-commands-x : goal.offset_bounds-commands-x
offset_bounds-commands-x c = omega (arith, small (goal.at.offset_bounds-commands-x c).After-from_byte-x)

pub bounds-commands-x : goal.bounds-commands-x
bounds-commands-x c = omega (arith, small (goal.at.bounds-commands-x c).After-from_byte-x)
