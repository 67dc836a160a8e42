-- `machine::run_list` meets its contract. Assumes nothing.
use mathlib.Core.Path.{refl}
use Prim.Native.Nat.{◌+◌, ◌≤◌}
use native.Mathlib.Omega.{arith}
use Rattle.model.specs.Rules.Machine.{list_of}
use Rattle.image_valid.proofs.Parts.{Head, Lists, head, lists, inside, formed}
use Rattle.machine.proofs.run_list.Goals as goal
use Rattle.machine.proofs.run_list.Goals.{After-list_offset-to, Start}

abbrev start : After-list_offset-to → Start
start o = (goal.at.After-list_offset-to o).Start

top : (s : Start) → Head s.args.image.now
top s = head _ (formed _ s.requires.0).good

listed : (s : Start) → Lists s.args.image.now
listed s = lists _ (formed _ s.requires.0).listed

rises : (o : After-list_offset-to) → o.list_offset-from.result ≤ o.list_offset-to.result
rises o = let s = (goal.at.After-list_offset-to o).Start in rw (o.list_offset-from.ensures, o.list_offset-to.ensures)
    ((listed s).rising s.args.c s.requires.1)

pub list_offset-from-requires : goal.list_offset-from-requires
list_offset-from-requires c = let s = c in
    ((formed _ s.requires.0).good, c.from_byte-n.ensures.0, omega (arith, s.requires.1))

pub overflow_add-c : goal.overflow_add-c
overflow_add-c c = let s = (goal.at.overflow_add-c c).Start in omega (arith, s.requires.1, (top s).hyper)

pub list_offset-to-requires : goal.list_offset-to-requires
list_offset-to-requires c = let s = c in
    ((formed _ s.requires.0).good, c.from_byte-n.ensures.0, omega (arith, s.requires.1))

pub slice_bounds-result-count : goal.slice_bounds-result-count
slice_bounds-result-count c = rises (goal.at.slice_bounds-result-count c).After-list_offset-to

pub slice_bounds-result-start : goal.slice_bounds-result-start
slice_bounds-result-start c = rises (goal.at.slice_bounds-result-start c).After-list_offset-to

pub slice_bounds-result-end : goal.slice_bounds-result-end
slice_bounds-result-end c = let s = (goal.at.slice_bounds-result-end c).Start in
    rw c.list_offset-to.ensures (inside _ (listed s) (s.args.c + 1) (omega (arith, s.requires.1)))

pub returns : goal.returns
unfolding list_of
returns c = let o = c in rw (← o.list_offset-to.ensures, ← o.list_offset-from.ensures) refl

pub bounds-image-1 : goal.bounds-image-1
bounds-image-1 c = omega (arith, (top (goal.at.bounds-image-1 c).Start).four)
