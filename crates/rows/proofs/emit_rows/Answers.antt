-- `rows::emit_rows` meets its contract. Assumes nothing.
use mathlib.Core.Path.{◌≡◌, refl, sym, ap, ◌∙◌}
use mathlib.Core.List.{List}
use Prim.Native.Nat.{ℕ, ◌+◌, ◌-◌, ◌*◌, ◌%◌, ◌≤◌, ◌<◌}
use native.Mathlib.Omega.{arith}
use borrow.Author.Rules.{rules, sfits_of}
use lib.IntN.{ℤ, suc_ℤ}
use lib.ListN.{length, take, set, get_or, length-set}
use lib.Seq.{sets, length-sets}
use mir.Facts.{to_z-of_z}
use mir.Syntax.{w64}
use mir.Val.{to_z, of_z, SFits}
use Rattle.model.specs.Rules.Search.{found_or, join_from}
use Rattle.model.specs.Rules.Cover.{starting_at, edge}
use Rattle.model.specs.Rules.Table.{Row, row_at, row_from, by_low, row_bytes}
use Rattle.rows.specs.Rows.{text_row, text_rows}
use Rattle.rows.proofs.Edges.{next_row, one_more, all-written, row-bytes}
use Rattle.word.proofs.Locals.{kept}
use Rattle.rows.proofs.Loops.{text-length, text_at, edge-next}
use Rattle.model.proofs.Rows.Area.{rows_bytes}
use Rattle.model.proofs.Rows.Rule.{sorted, length-same}
use Rattle.rows.proofs.emit_rows.Invariants.{in_order}
use Rattle.rows.proofs.emit_rows.Goals as goal
use Rattle.rows.proofs.emit_rows.Goals.{After-start_index-n, At-loop-i, Start}

order-length : (text offsets : List ℕ) (count : ℕ) → length (in_order text offsets count) ≡ count
order-length text offsets count = sym (length-same (sorted (text_rows text offsets count))) ∙ text-length text offsets count

abbrev rows : Start → List Row
rows s = text_rows s.args.text.now s.args.offsets.now s.args.count

-- the length of the output stays
same : (l : At-loop-i) → length l.loop-i.out ≡ length l.args.out.now
same l = ap length l.loop-i.invariant.1 ∙ simp (length-sets, length-set)

-- the row found is the next one
found : (a : After-start_index-n) → let r = rows (goal.at.After-start_index-n a).Start in
    (a.start_index-n.result < length r) × (row_at r a.start_index-n.result ≡ row_at (by_low r) a.loop-i.i)
found a =
    let r = rows (goal.at.After-start_index-n a).Start in
    let t = a.loop-i-test.true in
    let k = order-length a.args.text.now a.args.offsets.now a.args.count in
    next_row r a.requires.1 (a.requires.2 (omega arith)) a.loop-i.i (omega arith) a.start_index-n.result
    (a.start_index-n.ensures ∙ ap (λ (z : ℤ). found_or 0 (starting_at r z)) a.loop-i.invariant.2)

below : (a : After-start_index-n) → a.start_index-n.result < a.args.count
below a =
    let f = (found a).0 in
    omega (arith, text-length a.args.text.now a.args.offsets.now a.args.count)

row-is : (a : After-start_index-n) →
    text_row a.args.text.now a.args.offsets.now a.start_index-n.result ≡
    row_at (by_low (rows (goal.at.After-start_index-n a).Start)) a.loop-i.i
row-is a = sym (text_at a.args.text.now a.args.offsets.now a.args.count a.start_index-n.result (below a)) ∙ (found a).1

placed : (a : After-start_index-n) →
    (a.start_index-n.result < 32) × (get_or a.args.offsets.now a.start_index-n.result 0 + 13 ≤ length a.args.text.now)
placed a = (omega (arith, below a, a.requires.0.0), a.requires.0.1 a.start_index-n.result (below a))

pub overflow_cast-out : goal.overflow_cast-out
overflow_cast-out c = search rules

pub bounds-out-to : goal.bounds-out-to
bounds-out-to c = omega (arith, c.requires.3)

pub loop-i-init : goal.loop-i-init
unfolding join_from
loop-i-init c = (omega arith, refl, refl)

pub start_index-n-requires : goal.start_index-n-requires
start_index-n-requires c = c.requires.0

pub offset_of-requires : goal.offset_of-requires
offset_of-requires c = (placed (goal.at.offset_of-requires c).After-start_index-n).0

pub overflow_add-offset_of : goal.overflow_add-offset_of
overflow_add-offset_of c = omega (arith, (placed (goal.at.overflow_add-offset_of c).After-start_index-n).1, c.offset_of.ensures)

pub overflow_add-to : goal.overflow_add-to
overflow_add-to c = omega (arith, c.requires.3)

pub overflow_mul-i : goal.overflow_mul-i
overflow_mul-i c = omega (arith, c.requires.3, c.loop-i-test.true)

pub overflow_add-to-in-loop-i : goal.overflow_add-to-in-loop-i
overflow_add-to-in-loop-i c = omega (arith, c.requires.3, c.loop-i-test.true)

pub put_row-requires : goal.put_row-requires
put_row-requires c =
    let p = goal.at.put_row-requires c in
    let t = c.loop-i-test.true in
    (omega (arith, (placed p.After-start_index-n).1, c.offset_of.ensures), omega (arith, c.requires.3, same p.At-loop-i))

pub high_of-requires : goal.high_of-requires
high_of-requires c = placed (goal.at.high_of-requires c).After-start_index-n

pub after-edge-requires : goal.after-edge-requires
after-edge-requires c = search rules

pub loop-i-preserved : goal.loop-i-preserved
loop-i-preserved c =
    let p = goal.at.loop-i-preserved c in
    let t = c.loop-i-test.true in
    let i = c.loop-i.i in
    let order = by_low (rows p.Start) in
    let k = order-length c.args.text.now c.args.offsets.now c.args.count in
    let is = row-is p.After-start_index-n in
    let bytes : row_bytes (row_from c.args.text.now 0 (c.offset_of.result + 1)) ≡ row_bytes (row_at order i) =
    ap (λ (n : ℕ). row_bytes (row_from c.args.text.now 0 (n + 1))) c.offset_of.ensures ∙ row-bytes _ _ _ ∙ ap row_bytes is in
    let next : c.after-edge.result ≡ edge order (i + 1) =
    c.after-edge.ensures ∙ ap suc_ℤ (kept _ c.high_of.type_inv ∙ c.high_of.ensures ∙ ap (λ (r : Row). r.high) is) ∙ sym
    (edge-next order i) in (
      omega arith,
      c.put_row.ensures ∙ ap (sets c.loop-i.out (c.args.to + 1 + 12 * i)) bytes
          ∙ one_more _ c.loop-i.out (c.args.to + 1) i order (omega arith) c.loop-i.invariant.1,
      to_z-of_z (sfits_of {w = w64} c.after-edge.type_inv) ∙ next,
    )

pub shape_of-out : goal.shape_of-out
shape_of-out c = same (goal.at.shape_of-out c).At-loop-i

pub returns : goal.returns
returns c =
    let order = by_low (rows (goal.at.returns c).Start) in
    let t = c.loop-i-test.false in
    let e : c.loop-i.i ≡ c.args.count = omega arith in
    c.loop-i.invariant.1
    ∙ ap (λ (n : ℕ). sets (set c.args.out.now c.args.to (c.args.count % 256)) (c.args.to + 1) (rows_bytes 0 (take n order))) e
    ∙ all-written c.args.out.now c.args.to c.args.count order
    (order-length c.args.text.now c.args.offsets.now c.args.count) c.requires.0.0
