-- `moves::list_signals` meets its contract. Assumes nothing.
use Prim.Native.Nat.{ℕ, ◌*◌, ◌-◌, ◌≤◌, ◌<◌}
use mathlib.Core.Bool.{Bool}
use mathlib.Core.Path.{◌≡◌, refl, ap, ◌∙◌}
use native.Mathlib.Omega.{arith}
use borrow.Author.Rules.{rules}
use lib.ListN.{length, get_or}
use Rattle.model.specs.Rules.Search.{join_below}
use Rattle.moves.specs.Listing.{TellsMoves, passing, Written}
use Rattle.moves.proofs.Entries.{wrote-start, wrote_as, join_more}
use Rattle.moves.proofs.list_signals.Goals as goal
use Rattle.moves.proofs.list_signals.Goals.{In-loop-x}

pub loop-x-init : goal.loop-x-init
loop-x-init c =
    let a = c.args in
    (omega arith, omega arith, refl, λ g tells. wrote-start (λ y. passing y (get_or a.periods.now y 0) (g y)) a.list.now)

small : (b : In-loop-x) → b.loop-x.x < 64
small b = omega (arith, b.loop-x-test.true, b.requires.0)

pub list_signal-entries-requires : goal.list_signal-entries-requires
list_signal-entries-requires c =
    let b = (goal.at.list_signal-entries-requires c).In-loop-x in
    let l = b.loop-x in
    let a = c in
    (a.requires.1, omega (arith, l.invariant.1, small b), λ f w. a.requires.2 l.x f b.loop-x-test.true w)

pub loop-x-preserved : goal.loop-x-preserved
loop-x-preserved c =
    let k = c in
    let b = c in
    let l = b.loop-x in
    let a = c in
    let done = k.list_signal-entries.ensures in (
      omega (arith, b.loop-x-test.true),
      omega (arith, l.invariant.1, done.0),
      done.1 ∙ l.invariant.2,
      λ g tells.
          wrote_as (join_more l.x (λ y. passing y (get_or a.args.periods.now y 0) (g y)))
          (done.2 _ _ (g l.x) (l.invariant.3 g tells) (λ f w. a.requires.2 l.x f b.loop-x-test.true w)
          (λ f lt. tells l.x f b.loop-x-test.true lt)),
    )

pub returns : goal.returns
returns c =
    let l = c.loop-x in
    let a = c.args in
    let e : l.x ≡ a.signals = omega (arith, l.invariant.0, c.loop-x-test.false) in
    λ g tells. wrote_as (ap (λ n. join_below n (λ y. passing y (get_or a.periods.now y 0) (g y))) e) (l.invariant.3 g tells)

pub overflow_cast-x : goal.overflow_cast-x
overflow_cast-x c = omega (arith, small (goal.at.overflow_cast-x c).In-loop-x)

pub offset_bounds-lows-x : goal.offset_bounds-lows-x
offset_bounds-lows-x c = omega (arith, small (goal.at.offset_bounds-lows-x c).In-loop-x)

pub bounds-lows-x : goal.bounds-lows-x
bounds-lows-x c = omega (arith, small (goal.at.bounds-lows-x c).In-loop-x)

pub offset_bounds-highs-x : goal.offset_bounds-highs-x
offset_bounds-highs-x c = omega (arith, small (goal.at.offset_bounds-highs-x c).In-loop-x)

pub bounds-highs-x : goal.bounds-highs-x
bounds-highs-x c = omega (arith, small (goal.at.bounds-highs-x c).In-loop-x)

pub bounds-periods-x : goal.bounds-periods-x
bounds-periods-x c = omega (arith, small (goal.at.bounds-periods-x c).In-loop-x)

pub offset_bounds-weights-x : goal.offset_bounds-weights-x
offset_bounds-weights-x c = omega (arith, small (goal.at.offset_bounds-weights-x c).In-loop-x)

pub bounds-weights-x : goal.bounds-weights-x
bounds-weights-x c = omega (arith, small (goal.at.bounds-weights-x c).In-loop-x)

pub bounds-phases-x : goal.bounds-phases-x
bounds-phases-x c = omega (arith, small (goal.at.bounds-phases-x c).In-loop-x)

pub shape_of-list : goal.shape_of-list
shape_of-list c = search (rules, c.loop-x.invariant.2)
