-- `image_code::emit_signal` meets its contract. Assumes nothing.
use native.Mathlib.Omega.{arith}
use mathlib.Core.Path.{sym}
use Rattle.image_code.proofs.Operands.{puts-length}
use Rattle.image_code.proofs.Signals.{place_inside, sample-room, sample-emits}
use Rattle.image_code.proofs.emit_signal.Goals as goal

pub bounds-text-place : goal.bounds-text-place
bounds-text-place c =
    let h = c.requires.here in
    (place_inside _ _ h.signal h.stands h.spelled).0

pub emit_equation-requires : goal.emit_equation-requires
emit_equation-requires c = record {
  signal_room = c.requires;
  place_value = c.if-text-place-eq17.true;
}

-- the slice is back as the call left it, for it is the one that the call gives back
pub returns-then-text-place-eq17 : goal.returns-then-text-place-eq17
returns-then-text-place-eq17 c =
    let done = c.emit_equation.ensures in
    rw (c.out-1.given.1.0 (sym done.same)) done.emits_signal

pub put_access-sample-requires : goal.put_access-sample-requires
put_access-sample-requires c = omega (arith, sample-room c.if-text-place-eq17.false c.requires)

pub put_access-code-requires : goal.put_access-code-requires
put_access-code-requires c =
    let c3 = c in
    let c5 = c in
    let c9 = c in
    let first = c3.put_access-sample.ensures in
    omega (arith, sample-room c5.if-text-place-eq17.false c9.requires, first.ends, puts-length first)

pub returns : goal.returns
returns c =
    let c6 = c in
    let c8 = c in
    sample-emits c8.if-text-place-eq17.false c6.put_access-sample.ensures c.put_access-code.ensures
