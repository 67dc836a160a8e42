-- `machine::table_of` meets its contract. Assumes nothing.
use Prim.Native.Nat.{◌≤◌}
use mathlib.Core.Path.{refl}
use native.Mathlib.Omega.{arith}
use Rattle.image_valid.proofs.Parts.{Head, TablePart, head, table, formed}
use Rattle.machine.specs.Runnable.{table_in}
use Rattle.machine.proofs.table_of.Goals as goal
use Rattle.machine.proofs.table_of.Goals.{After-code_offset-to, Start}

abbrev start : After-code_offset-to → Start
start o = (goal.at.After-code_offset-to o).Start

top : (s : Start) → Head s.args.image.now
top s = head _ (formed _ s.requires).good

tabled : (s : Start) → TablePart s.args.image.now
tabled s = table _ (formed _ s.requires).tabled

rises : (o : After-code_offset-to) → o.table_offset-from.result ≤ o.code_offset-to.result
rises o = omega (arith, o.table_offset-from.ensures, o.code_offset-to.ensures, (tabled (goal.at.After-code_offset-to o).Start).code)

pub slice_bounds-result-count : goal.slice_bounds-result-count
slice_bounds-result-count c = rises (goal.at.slice_bounds-result-count c).After-code_offset-to

pub slice_bounds-result-start : goal.slice_bounds-result-start
slice_bounds-result-start c = rises (goal.at.slice_bounds-result-start c).After-code_offset-to

pub slice_bounds-result-end : goal.slice_bounds-result-end
slice_bounds-result-end c = let s = (goal.at.slice_bounds-result-end c).Start in
    omega (arith, c.code_offset-to.ensures, (tabled s).code, (tabled s).within)

pub returns : goal.returns
unfolding table_in
returns c = let o = c in rw (← o.code_offset-to.ensures, ← o.table_offset-from.ensures) refl

pub bounds-image-0 : goal.bounds-image-0
bounds-image-0 c = omega (arith, (top (goal.at.bounds-image-0 c).Start).four)

pub bounds-image-1 : goal.bounds-image-1
bounds-image-1 c = omega (arith, (top (goal.at.bounds-image-1 c).Start).four)

pub table_offset-from-requires : goal.table_offset-from-requires
table_offset-from-requires c = let s = c in
    ((formed _ s.requires).good, c.from_byte-n.ensures.0, c.from_byte-h.ensures.0)

pub code_offset-to-requires : goal.code_offset-to-requires
code_offset-to-requires c = let s = c in
    ((formed _ s.requires).good, c.from_byte-n.ensures.0)
