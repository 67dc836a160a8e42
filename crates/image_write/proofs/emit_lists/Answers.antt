-- `image_write::emit_lists` meets its contract. Assumes nothing.
use Prim.Native.Nat.{ℕ, ◌+◌, ◌<◌}
use mathlib.Core.List.{List}
use mathlib.Core.Path.{sym, subst}
use native.Mathlib.Omega.{arith}
use lib.ListN.{length, get_or}
use Rattle.model.specs.Rules.Image.{joined}
use Rattle.model.specs.Rules.Reads.{due}
use Rattle.model.specs.Rules.Writing.{Wrote}
use Rattle.text_program.specs.Tables.{rate_at}
use Rattle.image_write.specs.Cursors.{lists_after, Splits}
use Rattle.image_write.specs.Lists.{list_by, lists_by}
use Rattle.image_write.proofs.Cursors.{pending-same, pending-start, pending_done}
use Rattle.image_write.proofs.Listed.{list_from, list-starts, list-step, list-ends}
use Rattle.image_write.proofs.emit_lists.Goals as goal
use Rattle.image_write.proofs.emit_lists.Goals.{After-from_byte-signal, At-loop-i, Start}

-- the signal whose runs are written
module _ (w : After-from_byte-signal) where
  abbrev top : At-loop-i
  top = (goal.at.After-from_byte-signal w).At-loop-i

  abbrev s : Start
  s = (goal.at.After-from_byte-signal w).Start

  abbrev lt : top.loop-i.i < s.args.n
  lt = w.loop-i-test.true

  abbrev x : ℕ
  x = get_or s.args.order.now top.loop-i.i 0

  below : w.from_byte-signal.result < 64
  below = omega (arith, w.from_byte-signal.ensures.0, s.requires.0.0.below top.loop-i.i lt)

  timed : get_or s.args.phases.now w.from_byte-signal.result 0 < get_or s.args.periods.now w.from_byte-signal.result 0
  timed =
      subst (λ (y : ℕ). get_or s.args.phases.now y 0 < get_or s.args.periods.now y 0) (sym w.from_byte-signal.ensures.0)
      (s.requires.0.1 top.loop-i.i lt)

  abbrev left : ℕ → ℕ → List ℕ
  left i c = list_from s.args.periods.now s.args.order.now s.args.phases.now s.args.n c i

  splits : Splits (rate_at s.args.periods.now s.args.phases.now w.from_byte-signal.result) x s.args.h (left top.loop-i.i)
      (left (top.loop-i.i + 1))
  unfolding due
  splits =
      subst
      (λ (y : ℕ).
      Splits (rate_at s.args.periods.now s.args.phases.now y) x s.args.h (left top.loop-i.i)
      (left (top.loop-i.i + 1)))
      (sym w.from_byte-signal.ensures.0)
      (λ c lc.
      (list-step s.args.periods.now s.args.order.now s.args.phases.now s.args.n c top.loop-i.i lt).is)

pub loop-i-init : goal.loop-i-init
unfolding lists_by
loop-i-init c =
    let b = c in
    let f = list_by b.args.periods.now b.args.order.now b.args.phases.now b.args.n in (
      omega arith,
      b.requires.1.long,
      pending-same
          (λ d lt. sym (list-starts b.args.periods.now b.args.order.now b.args.phases.now b.args.n d))
          (pending-start f b.args.h b.args.nexts.now b.requires.1 b.args.out.now b.args.to b.requires.2),
    )

pub bounds-order-i : goal.bounds-order-i
bounds-order-i c = omega (arith, c.requires.0.0.few)

pub emit_runs-requires : goal.emit_runs-requires
emit_runs-requires c =
    let w = (goal.at.emit_runs-requires c).After-from_byte-signal in
    let l = (top w).loop-i in (
      timed w,
      (s w).requires.0.2,
      l.invariant.1,
      record {
        all =
            joined (lists_by (s w).args.periods.now (s w).args.order.now (s w).args.phases.now (s w).args.n
            (s w).args.h);
        l = (s w).args.out.now;
        after = λ d.
            length (lists_after (list_by (s w).args.periods.now (s w).args.order.now (s w).args.phases.now (s w).args.n)
            (s w).args.h d);
        old = left w l.i;
        new = left w (l.i + 1);
        pending = l.invariant.2;
        splits = splits w;
      },
    )

pub loop-i-preserved : goal.loop-i-preserved
loop-i-preserved c =
    let w = (goal.at.loop-i-preserved c).After-from_byte-signal in
    let l = (top w).loop-i in
    let e = c.emit_runs.ensures in
    (omega (arith, lt w), e.0, e.1 _ _ _ (left w l.i) (left w (l.i + 1)) l.invariant.2 (splits w))

pub offset_bounds-nexts-h : goal.offset_bounds-nexts-h
offset_bounds-nexts-h c = omega (arith, c.requires.0.2)

pub bounds-nexts-h : goal.bounds-nexts-h
bounds-nexts-h c = omega (arith, c.requires.0.2)

pub overflow_add-result : goal.overflow_add-result
overflow_add-result c =
    let l = c.loop-i in
    omega (arith, c.from_entry-size.ensures.0, l.invariant.2.last, l.invariant.2.fits)

pub returns : goal.returns
returns c =
    let l = c.loop-i in
    let b = c in
    let all = joined (lists_by b.args.periods.now b.args.order.now b.args.phases.now b.args.n b.args.h) in
    subst (λ (k : ℕ). Wrote b.args.out.now b.args.to all l.out (b.args.to + k)) (sym c.from_entry-size.ensures.0)
    (pending_done
    (λ d lt.
    list-ends b.args.periods.now b.args.order.now b.args.phases.now b.args.n d l.i
    (omega (arith, c.loop-i-test.false)))
    l.invariant.2)

pub bounds-periods-signal : goal.bounds-periods-signal
bounds-periods-signal c = below (goal.at.bounds-periods-signal c).After-from_byte-signal

pub bounds-phases-signal : goal.bounds-phases-signal
bounds-phases-signal c = below (goal.at.bounds-phases-signal c).After-from_byte-signal

pub shape_of-out : goal.shape_of-out
shape_of-out c = c.loop-i.invariant.2.size
