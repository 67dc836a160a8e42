-- `image_write::emit_codes` meets its contract. Assumes nothing.
use Prim.Native.Nat.{ℕ, ◌<◌}
use mathlib.Core.List.{List}
use mathlib.Core.Path.{◌≡◌, sym, ◌∙◌}
use native.Mathlib.Omega.{arith}
use lib.ListN.{length}
use Rattle.model.specs.Rules.Program.{Signal}
use Rattle.image_write.specs.Codes.{declared_by}
use Rattle.model.proofs.Basics.Left.{starts, room, turn, done}
use Rattle.image_write.proofs.Coded.{nth, codes-start, codes-next, codes-end}
use Rattle.image_write.proofs.emit_codes.Goals as goal
use Rattle.image_write.proofs.emit_codes.Goals.{After-from_entry-place, After-to_byte-signal, Start}

-- where signal x is declared
module _ (w : After-from_entry-place) where
  abbrev named : After-to_byte-signal
  named = (goal.at.After-from_entry-place w).After-to_byte-signal

  abbrev s : Start
  s = (goal.at.After-from_entry-place w).Start

  abbrev g : List Signal
  g = declared_by s.args.text.now

  abbrev x : ℕ
  x = named.loop-x.x

  lt : x < s.args.n
  lt = named.loop-x-test.true

  within : x < length g
  within = omega (arith, lt, s.requires.0.count-is)

  stands : (nth g x).place ≡ w.from_entry-place.result
  stands = s.requires.0.stands x lt ∙ sym w.from_entry-place.ensures.0

pub loop-x-init : goal.loop-x-init
loop-x-init c = (omega arith, rw (codes-start (declared_by c.args.text.now)) starts)

pub to_byte-signal-requires : goal.to_byte-signal-requires
to_byte-signal-requires c = omega (arith, c.requires.0.few)

pub offset_bounds-places-x : goal.offset_bounds-places-x
offset_bounds-places-x c = omega (arith, c.requires.0.few)

pub bounds-places-x : goal.bounds-places-x
bounds-places-x c = omega (arith, c.requires.0.few)

pub emit_signal-end-requires : goal.emit_signal-end-requires
emit_signal-end-requires c =
    let w = (goal.at.emit_signal-end-requires c).After-from_entry-place in
    rw (named w).to_byte-signal.ensures
    (record {
      here = record { signal = nth (g w) (x w); stands = stands w; spelled = (s w).requires.0.spelled (x w) (lt w) };
      fits = room (codes-next (g w) (x w) (within w)) (named w).loop-x.invariant.1 (s w).requires.1;
    })

pub loop-x-preserved : goal.loop-x-preserved
loop-x-preserved c =
    let w = (goal.at.loop-x-preserved c).After-from_entry-place in
    let p =
    (rw (named w).to_byte-signal.ensures at c.emit_signal-end.ensures).puts (nth (g w) (x w)) (stands w)
    ((s w).requires.0.spelled (x w) (lt w)) in (
      omega (arith, lt w),
      turn (codes-next (g w) (x w) (within w)) (named w).loop-x.invariant.1 (record { holds = p.0; ends = p.1 }),
    )

pub returns : goal.returns
returns c =
    let b = c in
    done (codes-end (declared_by b.args.text.now) c.loop-x.x (omega (arith, b.requires.0.count-is)))
    c.loop-x.invariant.1

pub shape_of-out : goal.shape_of-out
shape_of-out c = c.loop-x.invariant.1.size
