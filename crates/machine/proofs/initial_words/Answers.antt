-- `machine::initial_words` meets its contract. Assumes nothing.
use mir.Syntax.{w32}
use mir.Val.{to_z, of_z}
use mathlib.Core.Path.{◌≡◌, refl, ap, ap₂, ◌∙◌}
use Prim.Native.Nat.{ℕ, ◌+◌, ◌*◌, ◌<◌}
use native.Mathlib.Omega.{arith}
use lib.IntN.{ℤ, pos}
use lib.ListN.{length, set, length-set}
use Rattle.model.specs.Rules.Machine.{count_of}
use Rattle.model.specs.Rules.Word.{word_at}
use mathlib.Core.List.{List}
use Rattle.word.proofs.Locals.{kept}
use Rattle.image_valid.proofs.Parts.{Head, head, formed}
use Rattle.machine.proofs.Lists.{begun, begun-none, begun_more, begun_all}
use mathlib.Core.List.{List}
use Rattle.machine.proofs.initial_words.Goals as goal
use Rattle.machine.proofs.initial_words.Goals.{At-loop-x, Start}

abbrev start : At-loop-x → Start
start l = (goal.at.At-loop-x l).Start

top : (s : Start) → Head s.args.image.now
top s = head _ (formed _ s.requires.0).good

long : (l : At-loop-x) → length l.loop-x.state ≡ length (start l).args.state.now
long l = l.loop-x.invariant.1 ∙ length-set (start l).args.state.now 0 (pos 0)

pub loop-x-init : goal.loop-x-init
loop-x-init c = let s = c in
    (begun-none s.args.image.now s.args.state.now (omega (arith, s.requires.2)), refl, omega arith)

pub record_at-requires : goal.record_at-requires
record_at-requires c = omega (arith, (top (goal.at.record_at-requires c).Start).signals, (start (goal.at.record_at-requires c).At-loop-x).requires.1)

pub word_at-requires : goal.word_at-requires
word_at-requires c =
    let s = (goal.at.word_at-requires c).Start in
    omega (arith, s.requires.1, (top s).fixed, c.record_at.ensures)

pub overflow_add-x : goal.overflow_add-x
overflow_add-x c = omega (arith, (top (goal.at.overflow_add-x c).Start).signals)

pub offset_bounds-state-x : goal.offset_bounds-state-x
offset_bounds-state-x c = omega (arith, (top (goal.at.offset_bounds-state-x c).Start).signals)

pub bounds-state-x : goal.bounds-state-x
bounds-state-x c = let l = (goal.at.bounds-state-x c).At-loop-x in omega (arith, long l, (start l).requires.2)

pub loop-x-preserved : goal.loop-x-preserved
loop-x-preserved c =
    let l = (goal.at.loop-x-preserved c).At-loop-x in
    let s = c in
    let image = s.args.image.now in
    let x = l.loop-x.x in
    let word : to_z w32 (of_z w32 c.word_at.result) ≡ word_at image (4 + 6 * x) = kept _ c.word_at.type_inv ∙
    c.word_at.ensures ∙ ap (word_at image) c.record_at.ensures in
    let room : x + 1 < length (set s.args.state.now 0 (pos 0)) =
    omega (arith, length-set s.args.state.now 0 (pos 0), s.requires.2) in (
      ap₂ (λ (t : List ℤ) (w : ℤ). set t (x + 1) w) l.loop-x.invariant.0 word ∙
          begun_more image x (set s.args.state.now 0 (pos 0)) room,
      length-set l.loop-x.state (x + 1) (to_z w32 (of_z w32 c.word_at.result)) ∙ l.loop-x.invariant.1,
      omega arith,
    )

pub returns : goal.returns
returns c =
    let l = (goal.at.returns c).At-loop-x in
    let s = c in
    let image = s.args.image.now in
    let e : l.loop-x.x ≡ count_of image = omega (arith, s.requires.1) in
    l.loop-x.invariant.0 ∙ ap (λ (k : ℕ). begun image k (set s.args.state.now 0 (pos 0))) e ∙
    begun_all image s.args.state.now

pub shape_of-state : goal.shape_of-state
shape_of-state c = long (goal.at.shape_of-state c).At-loop-x
