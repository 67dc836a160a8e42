-- `text_list::write_listing` meets its contract. Assumes nothing.
use Rattle.std.specs.Prelude.{Ok}
use Prim.Native.Nat.{◌+◌, ◌≤◌, ◌<◌}
use mathlib.Core.List.{◌∷◌, []}
use mathlib.Core.Path.{refl}
use native.Mathlib.Omega.{arith}
use lib.ListN.{length, length-set}
use Rattle.model.specs.Rules.TextForm.{listed_at, listing}
use Rattle.model.specs.Rules.Word.{AreBytes}
use Rattle.model.proofs.Basics.Left.{Left, room, turn, done}
use Rattle.text_keyword.specs.Cells.{pending_at}
use Rattle.text_keyword.specs.Written.{bytes_written}
use Rattle.text_list.proofs.Walk.{writing-starts, writing-puts, writing-room, writing-next, next-width}
use Rattle.text_list.proofs.Walk.{writing-last, fits-written}
use Rattle.text_list.specs.Puts.{PutsToken}
use Rattle.text_list.proofs.Walk.{newline-parts}
use Rattle.text_list.proofs.write_listing.Goals as goal
use Rattle.text_list.proofs.write_listing.Goals.{After-loop-at, After-unwrap-put, At-loop-at, Start}

abbrev start : At-loop-at → Start
start l = (goal.at.At-loop-at l).Start

are : (l : At-loop-at) → AreBytes (start l).args.bytes.now
are l = λ i. omega (arith, l.type_inv.bytes i)

pub list_token-requires : goal.list_token-requires
list_token-requires c =
    let l = (goal.at.list_token-requires c).At-loop-at in (
      omega arith,
      writing-room c.args.bytes.now c.args.out.now l.loop-at.at l.loop-at.pending l.loop-at.out l.loop-at.to
          l.loop-at.invariant (omega arith) c.requires,
    )

pub unwrap-put-requires : goal.unwrap-put-requires
unwrap-put-requires c =
    let l = (goal.at.unwrap-put-requires c).At-loop-at in
    writing-puts c.args.bytes.now c.args.out.now l.loop-at.at l.loop-at.pending l.loop-at.out l.loop-at.to
    l.loop-at.invariant (omega arith) _ c.list_token.result c.list_token.ensures

puts : (c : After-unwrap-put) → PutsToken (listed_at c.args.bytes.now c.loop-at.at (pending_at c.loop-at.pending)) c.loop-at.at
    c.loop-at.out c.loop-at.to c.list_token.new.out (Ok c.unwrap-put.result)
puts c = let e = c.list_token.ensures in rw c.unwrap-put.ensures at e

width : (c : After-unwrap-put) → let p = c in
    (0 < p.unwrap-put.result.width) × (p.unwrap-put.result.width ≤ 4)
width c =
    let p = c in
    let l = (goal.at.After-unwrap-put c).At-loop-at in
    next-width c.args.bytes.now c.args.out.now l.loop-at.at l.loop-at.pending l.loop-at.out l.loop-at.to
    l.loop-at.invariant (omega arith) _ p.unwrap-put.result (puts p) (are l)

pub loop-at-preserved : goal.loop-at-preserved
loop-at-preserved c =
    let l = (goal.at.loop-at-preserved c).At-loop-at in
    writing-next c.args.bytes.now c.args.out.now l.loop-at.at l.loop-at.pending l.loop-at.out l.loop-at.to
    l.loop-at.invariant (omega arith) _ c.unwrap-put.result
    (puts (goal.at.loop-at-preserved c).After-unwrap-put) (are l)

-- the newline
last : (e : After-loop-at) → let l = (goal.at.After-loop-at e).At-loop-at in
    let s = e in
    Left s.args.out.now 0 (bytes_written (listing s.args.bytes.now)) l.loop-at.out l.loop-at.to (10 ∷ [])
last e =
    let l = (goal.at.After-loop-at e).At-loop-at in
    let s = e in
    writing-last s.args.bytes.now s.args.out.now l.loop-at.at l.loop-at.pending l.loop-at.out l.loop-at.to
    l.loop-at.invariant (omega arith)

space : (e : After-loop-at) → e.loop-at.to + 1 ≤ length e.loop-at.out
space e =
    room newline-parts (last e) (fits-written e.args.bytes.now e.args.out.now e.requires)

pub returns : goal.returns
returns c = done refl (turn newline-parts (last c) (record { holds = refl; ends = refl }))

pub loop-at-init : goal.loop-at-init
loop-at-init c = writing-starts c.args.bytes.now
    c.args.out.now c.requires

pub overflow_add-at : goal.overflow_add-at
overflow_add-at c = omega (arith, width (goal.at.overflow_add-at c).After-unwrap-put)

pub loop-at-smaller : goal.loop-at-smaller
loop-at-smaller c = omega (arith, width (goal.at.loop-at-smaller c).After-unwrap-put)

pub bounds-out-to : goal.bounds-out-to
bounds-out-to c = omega (arith, space c)

pub overflow_add-result : goal.overflow_add-result
overflow_add-result c = omega (arith, space c, c.loop-at.invariant.remains.size)

pub shape_of-out : goal.shape_of-out
shape_of-out c = simp length-set c.loop-at.invariant.remains.size
