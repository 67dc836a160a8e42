-- `image_write::emit_table` meets its contract. Assumes nothing.
use mathlib.Core.Path.{◌≡◌}
use native.Mathlib.Omega.{arith}
use Prim.Native.Nat.{ℕ, ◌+◌, ◌*◌, ◌≤◌}
use mathlib.Core.List.{List}
use lib.ListN.{length}
use Rattle.model.proofs.Rows.Area.{sorted-bytes}
use Rattle.rows.specs.Rows.{text_rows}
use Rattle.rows.proofs.Loops.{text-length}
use Rattle.image_write.specs.Rows.{table_by}
use Rattle.image_write.proofs.emit_table.Goals as goal
use Rattle.image_write.proofs.emit_table.Goals.{After-emit_rows}

size : (text offsets : List ℕ) (count : ℕ) → length (table_by text offsets count) ≡ 1 + 12 * count
size text offsets count = omega (arith, sorted-bytes (text_rows text offsets count), text-length text offsets count)

pub emit_rows-requires : goal.emit_rows-requires
emit_rows-requires c =
    let s = c in
    let t = s.requires.0 in (
      t.placed,
      t.upright,
      t.covers,
      omega (
        arith,
        s.requires.1,
        size s.args.text.now s.args.offsets.now
            s.args.count,
      ),
    )

-- so many bytes were lent
within : (c : After-emit_rows) → let s = c in
    s.args.to + (1 + 12 * s.args.count) ≤ length s.args.out.now
within c =
    let s = c in
    omega (arith, s.requires.1, size s.args.text.now s.args.offsets.now s.args.count)

pub returns : goal.returns
returns c =
    let r = c in
    let s = c in
    record {
      holds = r.emit_rows.ensures;
      ends = omega (arith, size s.args.text.now s.args.offsets.now s.args.count);
    }

pub overflow_add-result : goal.overflow_add-result
overflow_add-result c = omega (arith, within (goal.at.overflow_add-result c).After-emit_rows)

pub overflow_mul-result : goal.overflow_mul-result
overflow_mul-result c = omega (arith, within (goal.at.overflow_mul-result c).After-emit_rows)

pub overflow_add-result-2 : goal.overflow_add-result-2
overflow_add-result-2 c = omega (arith, within (goal.at.overflow_add-result-2 c).After-emit_rows)
