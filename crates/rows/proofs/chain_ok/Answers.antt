-- `rows::chain_ok` meets its contract. Assumes nothing.
use mathlib.Core.Path.{◌≡◌, refl, sym, ap, ◌∙◌}
use mathlib.Core.Bool.{true, false}
use mathlib.Core.List.{List}
use Prim.Native.Nat.{ℕ, ◌+◌, ◌-◌, ◌≤◌, ◌<◌}
use native.Mathlib.Omega.{arith}
use borrow.Author.Rules.{rules, sfits_of}
use lib.Dec.{eqb}
use lib.IntN.{suc_ℤ}
use lib.ListN.{length}
use lib.Signed.{lt_z, le_z}
use mir.Syntax.{w64}
use mir.Facts.{to_z-of_z}
use mir.Val.{of_z, SFits}
use Rattle.model.specs.Rules.Search.{all_below}
use Rattle.model.specs.Rules.Word.{eq_z}
use Rattle.model.specs.Rules.Cover.{edge, greatest_word}
use Rattle.model.specs.Rules.Table.{Row, row_at, rows_from}
use Rattle.word.proofs.Locals.{kept, eq_z-other}
use Rattle.rows.proofs.Loops.{same_test, by_bits, bits_by, fits_by, edge-next, low-wrong, high-wrong, last-edge}
use Rattle.model.proofs.Pairs.Decide.{all_none, all_more}
use Rattle.model.proofs.Rows.Area.{follows, rows-length, rows_at}
use Rattle.model.proofs.Basics.Order.{below-not, below_fails}
use Rattle.model.proofs.Rows.Levels.{true-eq_z}
use Rattle.rows.proofs.chain_ok.Goals as goal
use Rattle.rows.proofs.chain_ok.Goals.{After-long, After-word_at-high, After-word_at-low, In-loop-i, Start}

-- the rows, and the words of row i
abbrev rows : Start → List Row
rows s = rows_from s.args.image.now s.args.start s.args.count

inside : (l : In-loop-i) → l.loop-i.i < length (rows (goal.at.In-loop-i l).Start)
inside l = let s = l in rw (rows-length s.args.image.now s.args.start s.args.count) (omega arith)

low-is : (a : After-word_at-low) →
    (row_at (rows (goal.at.After-word_at-low a).Start) a.loop-i.i).low ≡ a.word_at-low.result
low-is a =
    let l = a in
    let s = a in
    ap (λ (r : Row). r.low) (rows_at s.args.image.now s.args.start s.args.count l.loop-i.i
    (omega (arith, a.loop-i-test.true)))
    ∙ sym a.word_at-low.ensures

high_is : (a : After-word_at-high) →
    (row_at (rows (goal.at.After-word_at-high a).Start) a.loop-i.i).high ≡ a.word_at-high.result
high_is a =
    let l = a in
    let s = a in
    ap (λ (r : Row). r.high) (rows_at s.args.image.now s.args.start s.args.count l.loop-i.i
    (omega (arith, a.loop-i-test.true)))
    ∙ sym a.word_at-high.ensures

-- `long(low)`, by its bits
low-long : (a : After-long) → a.long.result ≡ a.word_at-low.result
low-long a = a.long.ensures ∙ kept _ a.word_at-low.type_inv

pub loop-i-init : goal.loop-i-init
loop-i-init c = (omega arith, all_none _, refl)

pub overflow_mul-at : goal.overflow_mul-at
overflow_mul-at c = omega (arith, c.requires)

pub overflow_add-at : goal.overflow_add-at
overflow_add-at c = omega (arith, c.requires)

pub word_at-low-requires : goal.word_at-low-requires
word_at-low-requires c = omega (arith, c.requires)

pub overflow_add-at-in-loop-i : goal.overflow_add-at-in-loop-i
overflow_add-at-in-loop-i c = omega (arith, c.requires)

pub word_at-high-requires : goal.word_at-high-requires
word_at-high-requires c = omega (arith, c.requires)

pub long-requires : goal.long-requires
long-requires c = search rules

pub returns-then-long-edge : goal.returns-then-long-edge
returns-then-long-edge c =
    let p = goal.at.returns-then-long-edge c in
    sym (low-wrong (rows p.Start) c.loop-i.i (inside p.In-loop-i)
    (eq_z-other _ _ (λ q. c.if-long-edge.true
    (ap (of_z w64) (low-long p.After-long ∙ sym (low-is p.After-word_at-low) ∙ q) ∙ bits_by c.loop-i.auto.edge c.loop-i.invariant.2))))

pub returns-then-high-low : goal.returns-then-high-low
returns-then-high-low c =
    let p = goal.at.returns-then-high-low c in
    let t : lt_z c.word_at-high.result c.word_at-low.result ≡ true =
    rw (kept c.word_at-high.result c.word_at-high.type_inv, kept c.word_at-low.result c.word_at-low.type_inv) at c.if-high-low.true in
    sym (high-wrong (rows p.Start) c.loop-i.i (inside p.In-loop-i)
    (rw (low-is p.After-word_at-low, high_is p.After-word_at-high) (below-not c.word_at-high.result c.word_at-low.result t)))

pub after-edge-requires : goal.after-edge-requires
after-edge-requires c = search rules

pub loop-i-preserved : goal.loop-i-preserved
loop-i-preserved c =
    let p = goal.at.loop-i-preserved c in
    let i = c.loop-i.i in
    let low = low-is p.After-word_at-low in
    let high = high_is p.After-word_at-high in
    let next : c.after-edge.result ≡ edge (rows p.Start) (i + 1) =
    c.after-edge.ensures ∙ ap suc_ℤ (kept _ c.word_at-high.type_inv ∙ sym high) ∙ sym (edge-next (rows p.Start) i) in
    let starts : eq_z (row_at (rows p.Start) i).low (edge (rows p.Start) i) ≡ true =
    true-eq_z _ _ (low ∙ sym (low-long p.After-long) ∙
    by_bits c.loop-i.invariant.2 (sfits_of {w = w64} c.long.type_inv) c.if-long-edge.false) in
    let t : lt_z c.word_at-high.result c.word_at-low.result ≡ false =
    rw (kept c.word_at-high.result c.word_at-high.type_inv, kept c.word_at-low.result c.word_at-low.type_inv) at c.if-high-low.false in
    let upright : le_z (row_at (rows p.Start) i).low (row_at (rows p.Start) i).high ≡ true =
    rw (low, high) (below_fails c.word_at-high.result c.word_at-low.result t) in (
      omega (arith, c.loop-i-test.true),
      all_more i (follows (rows p.Start)) c.loop-i.invariant.1 (rw (starts, upright)),
      to_z-of_z (sfits_of {w = w64} c.after-edge.type_inv) ∙ next,
    )

pub returns : goal.returns
returns c =
    let r = rows (goal.at.returns c).Start in
    let n : c.loop-i.i ≡ length r =
    (let k : c.loop-i.i ≡ c.args.count = omega (arith, c.loop-i-test.false) in k ∙ sym
    (rows-length c.args.image.now c.args.start c.args.count)) in
    let e = c.loop-i.invariant.2 in
    ap (λ (b : ℕ). eqb b 2147483648) (sym (bits_by c.loop-i.auto.edge e))
    ∙ same_test (fits_by c.loop-i.auto.edge e) (sfits_of {w = w64} {z = suc_ℤ greatest_word} (omega arith))
    ∙ ap (λ k. eq_z (edge r k) (suc_ℤ greatest_word)) n
    ∙ sym (last-edge r (rw (← n) c.loop-i.invariant.1))
