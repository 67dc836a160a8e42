-- `image_code::emit_equation` meets its contract. Assumes nothing.
use native.Mathlib.Omega.{arith}
use Rattle.image_code.proofs.Operands.{alone, emits-alone}
use Rattle.image_code.proofs.Signals.{place_inside, equation-room, store-room, equation-emits}
use Rattle.image_code.proofs.emit_equation.Goals as goal

pub overflow_add-place : goal.overflow_add-place
overflow_add-place c =
    let c4 = c in
    let h = c4.requires.signal_room.here in
    omega (arith, (place_inside _ _ h.signal h.stands h.spelled).1 c4.requires.place_value, c4.well_formed.0.1)

pub emit_expressions-value-requires : goal.emit_expressions-value-requires
emit_expressions-value-requires c =
    let c5 = c in
    record {
      rooms = rw c.in_program.ensures (alone (equation-room c5.requires.place_value c5.requires.signal_room));
      counted = c5.well_formed.0.0;
    }

pub put_access-code-requires : goal.put_access-code-requires
put_access-code-requires c =
    let c3 = c in
    let c7 = c in
    store-room c7.requires.place_value c7.requires.signal_room (emits-alone (rw c3.in_program.ensures at c.emit_expressions-value.ensures.emits_all))

pub returns : goal.returns
returns c =
    let c4 = c in
    let c6 = c in
    let c10 = c in record {
      same = c4.emit_expressions-value.ensures.same;
      emits_signal = equation-emits c10.requires.place_value (emits-alone (rw c6.in_program.ensures at c4.emit_expressions-value.ensures.emits_all))
          c.put_access-code.ensures;
    }
