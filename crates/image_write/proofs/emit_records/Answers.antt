-- `image_write::emit_records` meets its contract. Assumes nothing.
use Prim.Native.Nat.{ℕ, ◌+◌, ◌≤◌}
use mathlib.Core.List.{List}
use mathlib.Core.Path.{◌≡◌, sym, ap, ◌∙◌}
use native.Mathlib.Omega.{arith}
use lib.ListN.{length, get_or}
use Rattle.model.specs.Rules.Image.{offsets}
use Rattle.model.specs.Rules.Program.{Signal}
use Rattle.image_write.specs.Codes.{declared_by, codes_from}
use Rattle.model.proofs.Basics.Left.{starts, room, turn, done}
use Rattle.image_write.proofs.Coded.{nth, records-start, records-next, records-at, records-end, initial-word, record-length, code-start, starts-many}
use Rattle.image_write.proofs.emit_records.Goals as goal
use Rattle.image_write.proofs.emit_records.Goals.{After-from_entry-code, After-from_entry-place, Start}

-- what the records are made of
module _ (s : Start) where
  abbrev g : List Signal
  g = declared_by s.args.text.now

  abbrev at : List ℕ
  at = offsets s.args.start (codes_from 0 g)

  many : length at ≡ length g + 1
  many = omega (arith, starts-many 0 s.args.start g)

-- where the code of signal x starts
module _ (w : After-from_entry-code) where
  abbrev s : Start
  s = (goal.at.After-from_entry-code w).Start

  abbrev x : ℕ
  x = w.loop-x.x

  within : x ≤ length (g s)
  within = omega (arith, s.requires.0.count-is, w.loop-x-test.true)

  starts-at : s.args.start + w.from_entry-code.result ≡ get_or (at s) x 0
  starts-at = ap (λ (m : ℕ). s.args.start + m) w.from_entry-code.ensures.0 ∙ s.requires.1 x within

pub loop-x-init : goal.loop-x-init
loop-x-init c =
    let b = (goal.at.loop-x-init c).Start in
    (omega arith, rw (records-start (g b) (at b)) starts)

pub offset_bounds-codes-x : goal.offset_bounds-codes-x
offset_bounds-codes-x c = omega (arith, c.requires.0.few)

pub bounds-codes-x : goal.bounds-codes-x
bounds-codes-x c = omega (arith, c.requires.0.few)

pub offset_bounds-places-x : goal.offset_bounds-places-x
offset_bounds-places-x c = omega (arith, (s c).requires.0.few, c.loop-x-test.true)

pub bounds-places-x : goal.bounds-places-x
bounds-places-x c = omega (arith, (s (goal.at.bounds-places-x c).After-from_entry-code).requires.0.few, c.loop-x-test.true)

-- where the signal is declared
stands : (d : After-from_entry-place) →
    let w = (goal.at.After-from_entry-place d).After-from_entry-code in
    (nth (g (goal.at.After-from_entry-code w).Start) (x w)).place ≡ d.from_entry-place.result
stands d =
    let w = (goal.at.After-from_entry-place d).After-from_entry-code in
    (s w).requires.0.stands (x w) w.loop-x-test.true ∙ sym d.from_entry-place.ensures.0

pub overflow_add-start : goal.overflow_add-start
overflow_add-start c =
    let w = (goal.at.overflow_add-start c).After-from_entry-code in
    omega (arith, starts-at w, code-start (s w).args.start (g (goal.at.After-from_entry-code w).Start) (x w) (within w), (s w).requires.2, (s w).well_formed.0.1)

pub put_record-end-requires : goal.put_record-end-requires
put_record-end-requires c =
    let w = (goal.at.put_record-end-requires c).After-from_entry-code in
    let b = (goal.at.put_record-end-requires c).Start in
    let l = w.loop-x in
    let lt = w.loop-x-test.true in
    let d = b.requires.0 in (
      omega (arith, (initial-word b.args.text.now (nth (g b) l.x) (d.spelled l.x lt)).1, stands (goal.at.put_record-end-requires c).After-from_entry-place),
      omega (
        arith,
        record-length (nth (g b) l.x).initial (get_or (at b) l.x 0),
        room (records-next (g b) (at b) l.x (omega (arith, d.count-is)) (omega (arith, many b, d.count-is)))
            l.invariant.1 b.requires.3,
      ),
    )

pub loop-x-preserved : goal.loop-x-preserved
loop-x-preserved c =
    let r = (goal.at.loop-x-preserved c).After-from_entry-place in
    let w = (goal.at.loop-x-preserved c).After-from_entry-code in
    let b = (goal.at.loop-x-preserved c).Start in
    let l = w.loop-x in
    let lt = w.loop-x-test.true in
    let d = b.requires.0 in (
      omega arith,
      turn
          (records-at (g b) (at b) b.args.text.now l.x _ (omega (arith, d.count-is)) (omega (arith, many b, d.count-is))
          (stands r) (d.spelled l.x lt))
          l.invariant.1 (rw (starts-at w) at c.put_record-end.ensures),
    )

pub returns : goal.returns
returns c =
    let b = (goal.at.returns c).Start in
    done (records-end (g b) (at b) c.loop-x.x (omega (arith, b.requires.0.count-is))) c.loop-x.invariant.1

pub shape_of-out : goal.shape_of-out
shape_of-out c = c.loop-x.invariant.1.size
