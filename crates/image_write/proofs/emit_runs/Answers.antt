-- `image_write::emit_runs` meets its contract. Assumes nothing.
use Prim.Native.Nat.{ℕ, ◌+◌, ◌<◌}
use mathlib.Core.List.{List, ◌∷◌}
use mathlib.Core.Path.{◌≡◌, sym, ap, ◌∙◌}
use native.Mathlib.Omega.{arith}
use lib.ListN.{length, set, length-set}
use Rattle.runs.proofs.Runs.{due-first, due-next}
use Rattle.model.specs.Rules.Reads.{Rate}
use Rattle.image_write.specs.Cursors.{Pending, Splits, Open}
use Rattle.image_write.proofs.Cursors.{
  mixed,
  first-mixed,
  last-mixed,
  run-first,
  others-mixed,
  pending-same,
  entry-inside,
  entry-small,
  pending-written,
}
use Rattle.image_write.proofs.emit_runs.Invariants.{rate}
use Rattle.image_write.proofs.emit_runs.Goals as goal
use Rattle.image_write.proofs.emit_runs.Goals.{After-from_entry-at, At-loop-c, Start}

-- the run in cycle c
module _ (w : After-from_entry-at) where
  abbrev top : At-loop-c
  top = (goal.at.After-from_entry-at w).At-loop-c

  abbrev s : Start
  s = (goal.at.After-from_entry-at w).Start

  abbrev a : Rate
  a = rate s.args.period s.args.phase

  abbrev v : a.phase < a.period
  v = s.requires.0

  abbrev c : ℕ
  c = top.loop-c.c

  abbrev lt : c < s.args.h
  lt = w.loop-c-test.true

  room : c < length top.loop-c.nexts
  room = omega (arith, top.loop-c.invariant.1, lt, s.requires.1)

  module _ (old new : ℕ → List ℕ) (splits : Splits a s.args.x s.args.h old new) where
    first : mixed old new c c ≡ s.args.x ∷ mixed old new (c + a.period) c
    first = run-first a v s.args.x s.args.h old new splits c lt top.loop-c.invariant.2

    others : (d : ℕ) → d < s.args.h → (d ≡ c → ⊥) → mixed old new c d ≡ mixed old new (c + a.period) d
    others = others-mixed a v s.args.x s.args.h old new splits c lt top.loop-c.invariant.2

  abbrev begun : Open a s.args.x s.args.h s.args.to s.args.out.now s.args.nexts.now
  begun = s.requires.3

  pending : Pending begun.all begun.l s.args.to s.args.h begun.after (mixed begun.old begun.new c)
      top.loop-c.out top.loop-c.nexts
  pending = top.loop-c.invariant.3 begun.all begun.l begun.after begun.old begun.new begun.pending begun.splits

  inside : s.args.to + w.from_entry-at.result < length top.loop-c.out
  inside =
      omega (
        arith,
        w.from_entry-at.ensures.0,
        entry-inside pending c s.args.x lt (first begun.old begun.new begun.splits)
            (others begun.old begun.new begun.splits) room,
      )

  small : w.from_entry-at.result < 65535
  small =
      omega (
        arith,
        w.from_entry-at.ensures.0,
        entry-small pending c s.args.x lt (first begun.old begun.new begun.splits)
            (others begun.old begun.new begun.splits) room,
      )

pub loop-c-init : goal.loop-c-init
loop-c-init c =
    let b = c in
    let r = rate b.args.period b.args.phase in (
      c.from_byte-c-step.ensures.0,
      b.requires.2,
      rw c.from_byte-c.ensures.0 (due-first r b.requires.0),
      λ all l after old new p q.
          rw c.from_byte-c.ensures.0
          (pending-same (first-mixed r b.requires.0 b.args.x b.args.h old new q) p),
    )

pub offset_bounds-nexts-c : goal.offset_bounds-nexts-c
offset_bounds-nexts-c c = omega (arith, c.requires.1)

pub bounds-nexts-c : goal.bounds-nexts-c
bounds-nexts-c c = omega (arith, c.requires.1)

pub overflow_add-out : goal.overflow_add-out
overflow_add-out c = omega (arith, inside c, (pending c).size, (begun c).pending.size)

-- what is written of the cycles up to the next run
written : (w : After-from_entry-at) → ((all l : List ℕ) (after : ℕ → ℕ) (old new : ℕ → List ℕ) →
    Pending all l (s w).args.to (s w).args.h after old (s w).args.out.now (s w).args.nexts.now → Splits (a w) (s w).args.x (s w).args.h old new →
    Pending all l (s w).args.to (s w).args.h after (mixed old new (c w + (a w).period))
    (set (top w).loop-c.out ((s w).args.to + w.from_entry-at.result) (s w).args.x)
    (set (top w).loop-c.nexts (c w) (w.from_entry-at.result + 1)))
written w all k after old new p q =
    let l = (top w).loop-c in
    pending-written (l.invariant.3 all k after old new p q) l.c (s w).args.x (lt w) (first w old new q)
    (others w old new q) (room w) w.from_entry-at.result w.from_entry-at.ensures.0

pub loop-c-preserved : goal.loop-c-preserved
loop-c-preserved g =
    let w = (goal.at.loop-c-preserved g).After-from_entry-at in
    let l = (top w).loop-c in (
      l.invariant.0,
      length-set l.nexts l.c _ ∙ l.invariant.1,
      rw l.invariant.0 (due-next (a w) (v w) l.c l.invariant.2),
      λ all k after old new p q.
          pending-same (λ d ld. ap (λ (j : ℕ). mixed old new (l.c + j) d) (sym l.invariant.0)) (written w all k after old new p q),
    )

pub returns-2 : goal.returns-2
returns-2 g =
    let w = (goal.at.returns-2 g).After-from_entry-at in
    let l = (top w).loop-c in (
      length-set l.nexts l.c _ ∙ l.invariant.1,
      λ all k after old new p q.
          pending-same (last-mixed (a w) (v w) (s w).args.x (s w).args.h old new q (l.c + (a w).period) (omega (arith, l.invariant.0)))
          (written w all k after old new p q),
    )

pub shape_of-out : goal.shape_of-out
shape_of-out c =
    let b = c in
    let o = b.requires.3 in
    (c.loop-c.invariant.3 o.all o.l o.after o.old o.new o.pending o.splits).size ∙ sym o.pending.size

pub returns : goal.returns
returns c =
    let b = c in
    let l = c.loop-c in
    let r = rate b.args.period b.args.phase in (
      l.invariant.1,
      λ all k after old new p q.
          pending-same (last-mixed r b.requires.0 b.args.x b.args.h old new q l.c (omega (arith, c.loop-c-test.false)))
          (l.invariant.3 all k after old new p q),
    )

pub overflow_add-nexts : goal.overflow_add-nexts
overflow_add-nexts c = omega (arith, small c)

pub overflow_cast-nexts : goal.overflow_cast-nexts
overflow_cast-nexts c = omega (arith, small c)

pub offset_bounds-nexts-c-in-loop-c : goal.offset_bounds-nexts-c-in-loop-c
offset_bounds-nexts-c-in-loop-c c = omega (arith, lt c, (s c).requires.1)

pub bounds-nexts-c-in-loop-c : goal.bounds-nexts-c-in-loop-c
bounds-nexts-c-in-loop-c c = omega (arith, lt c, (s c).requires.1)

pub bounds-out-to : goal.bounds-out-to
bounds-out-to c = inside c
