-- `decimal::put_line` meets its contract. Assumes nothing.
use Rattle.decimal.proofs.Puts.{spaced-more, spaced-none, line-is, put_one, put_then, put_is, put-length}
use Rattle.model.proofs.Bench.Decimals.{natural-length, decimal-length}
use Rattle.model.specs.Rules.Decimal.{natural, decimal, spaced}
use Rattle.decimal.specs.PutBytes.{PutBytes}
use Rattle.word.proofs.Locals.{kept}
use lib.Seq.{take_all}
use lib.ListN.{length, get_or, take, length-set}
use lib.IntN.{pos}
use mathlib.Core.Path.{◌≡◌, sym, ap}
use Prim.Native.Nat.{◌≤◌}
use native.Mathlib.Omega.{arith}
use Rattle.decimal.proofs.put_line.Goals as goal
use Rattle.decimal.proofs.put_line.Goals.{After-loop-w, After-w-1, At-loop-w, Start}

abbrev start : At-loop-w → Start
start l = (goal.at.At-loop-w l).Start

first : (l : At-loop-w) →
    let s = l in
    let n = l.put_natural-at in
    PutBytes s.args.out.now 0 (natural s.args.number) n.new.out n.result
first l = l.put_natural-at.ensures

size : (l : At-loop-w) → 1024 ≤ length l.loop-w.out
size l = omega (arith, (start l).requires.1, put-length (first l), put-length l.loop-w.invariant.0)

ended : (e : After-loop-w) → spaced (take e.loop-w.w-index (start (goal.at.After-loop-w e).At-loop-w).args.words.now) ≡
    spaced (start (goal.at.After-loop-w e).At-loop-w).args.words.now
ended e = ap spaced (take_all e.loop-w.w-index (start (goal.at.After-loop-w e).At-loop-w).args.words.now (omega arith))

pub put_natural-at-requires : goal.put_natural-at-requires
put_natural-at-requires c =
    omega (arith, c.requires.1, natural-length 9 c.args.number (omega (arith, c.ranges.number)))

pub loop-w-init : goal.loop-w-init
loop-w-init c = let p = c.put_natural-at.ensures in (
  record { holds = rw spaced-none; ends = rw spaced-none (omega arith); fits = p.fits },
  omega arith,
  omega
      (arith, p.ends, natural-length 9 c.args.number (omega (arith, c.ranges.number))),
)

pub bounds-out-at : goal.bounds-out-at
bounds-out-at c =
    omega (arith, size (goal.at.bounds-out-at c).At-loop-w, c.loop-w.invariant.2, c.requires.0, c.loop-w-test.true)

pub overflow_add-at : goal.overflow_add-at
overflow_add-at c = omega (arith, c.loop-w.invariant.2, c.requires.0, c.loop-w-test.true)

pub put_decimal-at-requires : goal.put_decimal-at-requires
put_decimal-at-requires c = let w = get_or c.args.words.now c.loop-w.w-index (pos 0) in
    rw (kept _ c.w-1.given)
    (simp length-set
    (omega (
      arith,
      size (goal.at.put_decimal-at-requires c).At-loop-w,
      c.loop-w.invariant.2,
      c.requires.0,
      c.loop-w-test.true,
      decimal-length w
          c.w-1.given,
    )))

pub loop-w-preserved : goal.loop-w-preserved
loop-w-preserved c =
    let w = kept _ c.w-1.given in
    let p = put_is (ap decimal w) c.put_decimal-at.ensures in (
      put_is (sym (spaced-more c.args.words.now c.loop-w.w-index c.loop-w-test.true))
          (put_then c.loop-w.invariant.0 (put_then (put_one _ _ _ (bounds-out-at (goal.at.loop-w-preserved c).After-w-1)) p)),
      omega arith,
      omega (
        arith,
        p.ends,
        c.loop-w.invariant.2,
        decimal-length (get_or c.args.words.now c.loop-w.w-index (pos 0)) c.w-1.given,
      ),
    )

pub bounds-out-at-2 : goal.bounds-out-at-2
bounds-out-at-2 c =
    omega (arith, size (goal.at.bounds-out-at-2 c).At-loop-w, c.loop-w.invariant.2, c.requires.0, c.loop-w.invariant.1)

pub overflow_add-result : goal.overflow_add-result
overflow_add-result c = omega (arith, c.loop-w.invariant.2, c.requires.0, c.loop-w.invariant.1)

pub returns : goal.returns
returns c = put_is (sym (line-is c.args.number c.args.words.now))
    (put_then (first (goal.at.returns c).At-loop-w)
    (put_then (put_is (ended c) c.loop-w.invariant.0) (put_one _ _ _ (bounds-out-at-2 c))))
