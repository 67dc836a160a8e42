-- `rows::find_start` meets its contract. Assumes nothing.
use Rattle.std.specs.Prelude.{Some, None}
use mathlib.Core.Path.{◌≡◌, sym, ap, ◌∙◌}
use mathlib.Core.Bool.{Bool, true, false}
use mathlib.Core.List.{List}
use Prim.Native.Nat.{ℕ, ◌-◌, ◌≤◌, ◌<◌}
use native.Mathlib.Omega.{arith}
use borrow.Author.Count.{below_more}
use borrow.Author.Rules.{rules, sfits_of}
use lib.IntN.{ℤ}
use lib.ListN.{length}
use mir.Facts.{to_z-of_z}
use mir.Syntax.{w64}
use mir.Val.{to_z, of_z}
use Rattle.model.specs.Rules.Word.{eq_z}
use Rattle.model.proofs.Pairs.Decide.{first-below}
use Rattle.model.specs.Rules.Cover.{starting_at}
use Rattle.model.specs.Rules.Table.{Row, row_at}
use Rattle.rows.specs.Rows.{text_row, text_rows}
use Rattle.word.proofs.Locals.{kept, eq_z-other}
use Rattle.rows.proofs.Loops.{same-long, text-length, text_at}
use Rattle.model.proofs.Rows.Levels.{true-eq_z}
use Rattle.rows.proofs.find_start.Invariants.{test}
use Rattle.rows.proofs.find_start.Goals as goal
use Rattle.rows.proofs.find_start.Goals.{After-long, At-loop-n}

module _ (text offsets : List ℕ) (count : ℕ) (z : ℤ) where
  same : (n : ℕ) → n < count → eq_z (row_at (text_rows text offsets count) n).low z ≡ test text offsets z n
  same n l = ap (λ (r : Row). eq_z r.low z) (text_at text offsets count n l)

  hit : (n : ℕ) → n < count → ((k : ℕ) → k < n → test text offsets z k ≡ false) → test text offsets z n ≡ true →
      starting_at (text_rows text offsets count) z ≡ Some n
  unfolding starting_at
  hit n l h e =
      let len = text-length text offsets count in
      first-below (length (text_rows text offsets count)) (λ n. eq_z (row_at (text_rows text offsets count) n).low z) (Some n)
      (omega arith, omega arith, same n l ∙ e, λ m a b. same m (omega arith) ∙ h m b)

  miss : ((k : ℕ) → k < count → test text offsets z k ≡ false) → starting_at (text_rows text offsets count) z ≡ None
  unfolding starting_at
  miss h =
      let len = text-length text offsets count in
      first-below (length (text_rows text offsets count)) (λ n. eq_z (row_at (text_rows text offsets count) n).low z) None
      (λ m a b. let l : m < count = omega arith in same m l ∙ h m l)

-- `long(low)` is the row's low
low-is : (a : After-long) → a.long.result ≡ (text_row a.args.text.now a.args.offsets.now a.loop-n.n).low
low-is a = a.long.ensures ∙ kept _ a.low_of-low.type_inv ∙ a.low_of-low.ensures

-- no row before row n starts at the edge
none : (l : At-loop-n) → (k : ℕ) → k < l.loop-n.n → test l.args.text.now l.args.offsets.now l.args.edge k ≡ false
none l k b = ap (λ (z : ℤ). test l.args.text.now l.args.offsets.now z k) (sym (to_z-of_z l.ranges.edge)) ∙ l.loop-n.invariant.1 k b

pub loop-n-init : goal.loop-n-init
loop-n-init c = (omega arith, λ k l. absurd (omega arith))

pub low_of-low-requires : goal.low_of-low-requires
low_of-low-requires c =
    let s = c in
    (omega (arith, s.requires.0, c.loop-n-test.true), s.requires.1 c.loop-n.n (omega (arith, c.loop-n-test.true)))

pub long-requires : goal.long-requires
long-requires c = search rules

pub returns-then-long-edge : goal.returns-then-long-edge
returns-then-long-edge c =
    sym (hit c.args.text.now c.args.offsets.now c.args.count c.args.edge c.loop-n.n
    (omega (arith, c.loop-n-test.true)) (none (goal.at.returns-then-long-edge c).At-loop-n)
    (true-eq_z _ _ (sym (low-is (goal.at.returns-then-long-edge c).After-long)
    ∙ same-long (sfits_of {w = w64} c.long.type_inv) c.ranges.edge c.if-long-edge.true)))

pub loop-n-preserved : goal.loop-n-preserved
loop-n-preserved c = (
  omega (arith, c.loop-n-test.true),
  below_more _ _ c.loop-n.invariant.1
      (eq_z-other _ _ (λ q. c.if-long-edge.false (ap (of_z w64) (low-is (goal.at.loop-n-preserved c).After-long ∙ q ∙ to_z-of_z c.ranges.edge)))),
)

pub returns : goal.returns
returns c =
    sym (miss c.args.text.now c.args.offsets.now c.args.count c.args.edge
    (λ k b. none (goal.at.returns c).At-loop-n k (omega (arith, c.loop-n-test.false))))
