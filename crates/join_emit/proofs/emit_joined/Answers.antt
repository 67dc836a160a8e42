-- `join_emit::emit_joined` meets its contract. Assumes nothing.
use native.Mathlib.Omega.{arith}
use Rattle.image_code.proofs.Operands.{puts-length}
use Rattle.join_emit.proofs.Shifted.{own_room, own-coded, emits-own, linked-room, emits-linked}
use Rattle.join_emit.proofs.emit_joined.Goals as goal

pub to_byte-signal-requires : goal.to_byte-signal-requires
to_byte-signal-requires c = c.requires.1.small

pub emit_signal-end-requires : goal.emit_signal-end-requires
emit_signal-end-requires c =
    let s = c in
    rw c.to_byte-signal.ensures (own_room c.in_default.is s.requires)

pub shift_loads-requires : goal.shift_loads-requires
shift_loads-requires c =
    let e = c in
    let n = c in
    let s = c in
    (own-coded e.in_default.is s.requires (rw n.to_byte-signal.ensures at e.emit_signal-end.ensures), s.requires.1.low)

pub returns-in_default : goal.returns-in_default
returns-in_default c =
    let d = c in
    let e = c in
    let n = c in
    emits-own e.in_default.is (rw n.to_byte-signal.ensures at e.emit_signal-end.ensures) d.shift_loads.ensures

pub put_access-load-requires : goal.put_access-load-requires
put_access-load-requires c =
    omega (arith, linked-room c.in-Some.is c.requires)

pub put_access-store-requires : goal.put_access-store-requires
put_access-store-requires c =
    let p = c in
    let i = c in
    let s = c in
    omega (arith, linked-room i.in-Some.is s.requires, p.put_access-load.ensures.ends, puts-length p.put_access-load.ensures)

pub returns : goal.returns
returns c =
    let q = c in
    let p = c in
    let i = c in
    emits-linked i.in-Some.is p.put_access-load.ensures
    (rw i.to_byte-signal.ensures at q.put_access-store.ensures)
