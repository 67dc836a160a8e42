-- `rows::first_meeting` meets its contract. Assumes nothing.
use Rattle.std.specs.Prelude.{Some, None}
use mathlib.Core.Path.{◌≡◌, sym, ap, ap₂, ◌∙◌}
use mathlib.Core.Bool.{Bool, false, not}
use mathlib.Core.List.{List}
use Prim.Native.Nat.{ℕ, ◌-◌, ◌≤◌, ◌<◌}
use native.Mathlib.Omega.{arith}
use borrow.Author.Count.{below_more}
use Rattle.model.specs.Rules.Search.{all_below}
use Rattle.model.proofs.Pairs.Decide.{first-below}
use Rattle.model.specs.Rules.Cover.{apart, meets_earlier}
use Rattle.model.specs.Rules.Table.{row_at}
use Rattle.rows.specs.Rows.{text_row, text_rows}
use Rattle.rows.proofs.Loops.{text_at}
use Rattle.model.proofs.Rows.Area.{all_same}
use Rattle.rows.proofs.first_meeting.Invariants.{test}
use Rattle.rows.proofs.first_meeting.Goals as goal

meets : (text offsets : List ℕ) (count n : ℕ) → n < count → (t : Bool) → t ≡ all_below n
    (λ m. apart (text_row text offsets m) (text_row text offsets n)) →
    test text offsets count n ≡ not t
unfolding meets_earlier
meets text offsets count n l t e =
    ap not (all_same n (λ m. apart (row_at (text_rows text offsets count) m) (row_at (text_rows text offsets count) n))
    (λ m. apart (text_row text offsets m) (text_row text offsets n))
    (λ k b. ap₂ apart (text_at text offsets count k (omega arith)) (text_at text offsets count n l)) ∙ sym e)

pub loop-n-init : goal.loop-n-init
loop-n-init c = (omega arith, λ k l. absurd (omega arith))

pub apart_from_earlier-requires : goal.apart_from_earlier-requires
apart_from_earlier-requires c =
    let s = c in
    let t = c.loop-n-test.true in
    (omega (arith, s.requires.0), λ m b. s.requires.1 m (omega arith))

pub returns-then-not-apart_from_earlier : goal.returns-then-not-apart_from_earlier
returns-then-not-apart_from_earlier c =
    let a = c in
    let l = c in
    let s = c in
    let t = a.loop-n-test.true in
    let b : l.loop-n.n < s.args.count = omega arith in
    sym (first-below s.args.count (test s.args.text.now s.args.offsets.now s.args.count) (Some l.loop-n.n) (
      omega arith,
      omega arith,
      meets s.args.text.now s.args.offsets.now s.args.count l.loop-n.n b
          a.apart_from_earlier.result a.apart_from_earlier.ensures ∙ ap not c.if-not-apart_from_earlier.true,
      λ m x y. l.loop-n.invariant.1 m y,
    ))

pub loop-n-preserved : goal.loop-n-preserved
loop-n-preserved c =
    let a = c in
    let l = c in
    let s = c in
    let t = a.loop-n-test.true in
    let b : l.loop-n.n < s.args.count = omega arith in (
      omega arith,
      below_more _ _ l.loop-n.invariant.1
          (meets s.args.text.now s.args.offsets.now s.args.count l.loop-n.n b a.apart_from_earlier.result
          a.apart_from_earlier.ensures ∙ ap not c.if-not-apart_from_earlier.false),
    )

pub returns : goal.returns
returns c =
    let l = c in
    let s = c in
    let t = c.loop-n-test.false in
    sym (first-below s.args.count (test s.args.text.now s.args.offsets.now s.args.count) None
    (λ m x y. l.loop-n.invariant.1 m (omega arith)))
