-- `machine::run_signals` meets its contract. Assumes nothing.
use mathlib.Core.Path.{◌≡◌, refl, sym, ap, ap₂, ◌∙◌}
use mathlib.Core.Bool.{true}
use mathlib.Core.List.{List}
use Prim.Native.Nat.{ℕ, ◌+◌, ◌≤◌, ◌<◌}
use native.Mathlib.Omega.{arith}
use lib.Dec.{ltb}
use lib.IntN.{ℤ}
use lib.ListN.{length, drop, set, length-set, length-take, length-drop}
use mir.Syntax.{w32}
use mir.Val.{to_z, of_z}
use Rattle.model.specs.Rules.Machine.{
  stretch,
  count_of,
  row_count,
  rows_in,
  code_offset,
  head_ok,
  code_of,
  code_ok,
  run_code,
  run_signals,
  count_code,
  count_signals,
}
use Rattle.model.specs.Rules.Table.{Row}
use Rattle.model.specs.Rules.Word.{byte_at}
use Rattle.model.proofs.Images.Counts.{signals-fit}
use Rattle.word.proofs.Locals.{kept}
use Rattle.image_valid.proofs.Parts.{CodePart, codes, formed}
use Rattle.machine.proofs.Lists.{signals-next, signals-done, counts-next, counts-done}
use Rattle.machine.proofs.Tables.{Served, served}
use Rattle.machine.proofs.run_signals.Goals as goal
use Rattle.machine.proofs.run_signals.Goals.{After-code_offset-to, After-run_code-run, At-loop-x, Start}

abbrev start : At-loop-x → Start
start l = (goal.at.At-loop-x l).Start

good : (s : Start) → head_ok s.args.image.now ≡ true
good s = (formed _ s.requires.image_value.0).good

abbrev turn : After-code_offset-to → At-loop-x
turn o = (goal.at.After-code_offset-to o).At-loop-x

-- the signal of the turn, and its code: a stretch of the image, and well formed
abbrev signal : After-code_offset-to → ℕ
signal o = byte_at (start (goal.at.After-code_offset-to o).At-loop-x).args.list.now (turn o).loop-x.x-index

taken : (o : After-code_offset-to) → (turn o).loop-x.x-index < length (start (goal.at.After-code_offset-to o).At-loop-x).args.list.now
taken o = o.loop-x-test.true

record Part (image : List ℕ) (n x from to : ℕ) : Type 0 where
  ordered : from ≤ to
  within : to ≤ length image
  formed : code_ok (ltb 0 (row_count image)) (stretch image from to) n x ≡ true
  part : stretch image from to ≡ code_of image x
  short : length (stretch image from to) ≤ length image

part : (image : List ℕ) (n x from to : ℕ) → CodePart image x → n ≡ count_of image → from ≡ code_offset image x →
    to ≡ code_offset image (x + 1) → Part image n x from to
unfolding code_of
part image n x from to p e f t =
    record {
      ordered = rw (f, t) p.ordered;
      within = rw t p.within;
      formed = rw (e, f, t) p.formed;
      part =
          rw (f, t);
      short = simp (length-take, length-drop) (omega arith);
    }

this : (o : After-code_offset-to)
    → Part (start (goal.at.After-code_offset-to o).At-loop-x).args.image.now (start (goal.at.After-code_offset-to o).At-loop-x).args.n (signal o) o.code_offset-from.result
    o.code_offset-to.result
this o =
    let s = o in
    let image = s.args.image.now in
    let own = o.from_byte-own.ensures.0 in
    part _ _ _ _ _ (codes image (formed image s.requires.image_value.0).coded (signal o)
    (rw (← s.requires.image_value.1) (s.requires.by_index (turn o).loop-x.x-index (taken o)))) s.requires.image_value.1
    (o.code_offset-from.ensures ∙ ap (code_offset image) own)
    (o.code_offset-to.ensures ∙ ap (λ (k : ℕ). code_offset image (k + 1)) own)

pub code_offset-from-requires : goal.code_offset-from-requires
code_offset-from-requires c = let l = (goal.at.code_offset-from-requires c).At-loop-x in let s = (goal.at.code_offset-from-requires c).Start in
    (good s, l.from_byte-count.ensures.0 ∙ s.requires.image_value.1)

pub code_offset-to-requires : goal.code_offset-to-requires
code_offset-to-requires c = let l = (goal.at.code_offset-to-requires c).At-loop-x in let s = (goal.at.code_offset-to-requires c).Start in
    (good s, l.from_byte-count.ensures.0 ∙ s.requires.image_value.1)

-- the table
tabled : (s : Start) → Served s.args.image.now s.args.table.now
tabled s = served _ _ s.requires.image_value.0 s.requires.image_value.2

pub run_code-run-requires : goal.run_code-run-requires
run_code-run-requires c =
    let o = (goal.at.run_code-run-requires c).After-code_offset-to in
    let l = (goal.at.run_code-run-requires c).At-loop-x in
    let s = (goal.at.run_code-run-requires c).Start in (
      rw (tabled s).counted (this o).formed,
      omega (arith, l.loop-x.invariant.1, s.requires.n_in_bounds.0),
      s.requires.n_in_bounds.1,
      s.requires.by_index l.loop-x.x-index (taken o),
      omega (arith, (this o).short, s.requires.n_in_bounds.2),
      (tabled s).good,
    )

pub overflow_add-own-in-loop-x : goal.overflow_add-own-in-loop-x
overflow_add-own-in-loop-x c = let o = c in omega (arith, o.from_byte-own.ensures.1)

pub offset_bounds-state-own : goal.offset_bounds-state-own
offset_bounds-state-own c = let o = c in omega (arith, o.from_byte-own.ensures.1)

pub bounds-state-own : goal.bounds-state-own
bounds-state-own c =
    let o = (goal.at.bounds-state-own c).After-code_offset-to in
    let l = (goal.at.bounds-state-own c).At-loop-x in
    let s = c in
    omega (arith, o.from_byte-own.ensures.0, l.loop-x.invariant.1, s.requires.n_in_bounds.0, s.requires.by_index l.loop-x.x-index (taken o))

-- the commands of the turn's code
counted : (r : After-run_code-run) → let o = (goal.at.After-run_code-run r).After-code_offset-to in
    r.run_code-run.result.count ≡ count_code (code_of (start (goal.at.After-code_offset-to o).At-loop-x).args.image.now (signal o))
counted r = r.run_code-run.ensures.1 ∙ ap count_code (this (goal.at.After-run_code-run r).After-code_offset-to).part

counts : (r : After-run_code-run) → let l = (goal.at.After-run_code-run r).At-loop-x in let a = (start l).args in
    l.loop-x.total + r.run_code-run.result.count + count_signals a.image.now (drop (l.loop-x.x-index + 1) a.list.now) ≡
    count_signals a.image.now a.list.now
counts r =
    let o = (goal.at.After-run_code-run r).After-code_offset-to in
    let l = (goal.at.After-run_code-run r).At-loop-x in
    omega (
      arith,
      counted r,
      counts-next (start l).args.image.now (start l).args.list.now l.loop-x.x-index (taken o),
      l.loop-x.invariant.3,
    )

pub overflow_add-total : goal.overflow_add-total
overflow_add-total c =
    let r = (goal.at.overflow_add-total c).After-run_code-run in
    let s = c in
    omega (arith, counts r, signals-fit s.args.image.now s.args.list.now s.requires.n_in_bounds.2 s.requires.n_in_bounds.3)

pub loop-x-preserved : goal.loop-x-preserved
loop-x-preserved c =
    let r = (goal.at.loop-x-preserved c).After-run_code-run in
    let o = (goal.at.loop-x-preserved c).After-code_offset-to in
    let l = (goal.at.loop-x-preserved c).At-loop-x in
    let a = (start l).args in
    let word : to_z w32 (of_z w32 r.run_code-run.result.word) ≡ run_code (rows_in a.image.now)
    (code_of a.image.now (signal o))
    l.loop-x.state a.samples.now =
    kept r.run_code-run.result.word c.struct_told-1.given.0.1 ∙ r.run_code-run.ensures.0 ∙
    ap₂ (λ (rows : List Row) (x : List ℕ). run_code rows x l.loop-x.state a.samples.now) (tabled (goal.at.At-loop-x l).Start).rows
    (this o).part in (
      ap₂ (λ (k : ℕ) (w : ℤ). run_signals a.image.now (drop (l.loop-x.x-index + 1) a.list.now) a.samples.now
          (set l.loop-x.state (k + 1) w))
          o.from_byte-own.ensures.0 word
          ∙ sym (signals-next a.image.now a.list.now l.loop-x.x-index a.samples.now l.loop-x.state (taken o)) ∙
          l.loop-x.invariant.0,
      simp length-set l.loop-x.invariant.1,
      omega arith,
      counts r,
    )

pub returns : goal.returns
returns c =
    let l = (goal.at.returns c).At-loop-x in
    let a = (start l).args in record {
      count = omega (arith, counts-done a.image.now a.list.now l.loop-x.x-index c.loop-x-test.false, l.loop-x.invariant.3);
      left = sym (signals-done a.image.now a.list.now l.loop-x.x-index a.samples.now l.loop-x.state c.loop-x-test.false) ∙
          l.loop-x.invariant.0;
    }

pub loop-x-init : goal.loop-x-init
loop-x-init c = (refl, refl, omega arith, omega arith)

pub overflow_add-own : goal.overflow_add-own
overflow_add-own c = omega (arith, c.from_byte-own.ensures.1)

pub slice_bounds-run_code-count : goal.slice_bounds-run_code-count
slice_bounds-run_code-count c = (this c).ordered

pub slice_bounds-run_code-start : goal.slice_bounds-run_code-start
slice_bounds-run_code-start c = (this c).ordered

pub slice_bounds-run_code-end : goal.slice_bounds-run_code-end
slice_bounds-run_code-end c = (this c).within

pub shape_of-state : goal.shape_of-state
shape_of-state c = c.loop-x.invariant.1
