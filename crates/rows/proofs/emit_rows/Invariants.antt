-- `rows::emit_rows` meets its contract. Assumes nothing.
use mathlib.Core.Path.{◌≡◌, refl, sym, ap, ◌∙◌}
use mathlib.Core.List.{List}
use Prim.Native.Nat.{ℕ, ◌+◌, ◌-◌, ◌*◌, ◌%◌, ◌≤◌, ◌<◌}
use native.Mathlib.Omega.{arith}
use borrow.Author.Rules.{rules, sfits_of}
use lib.IntN.{ℤ, suc_ℤ}
use lib.ListN.{length, take, set, get_or, length-set}
use lib.Seq.{sets, length-sets}
use mir.Facts.{to_z-of_z}
use mir.Syntax.{w64}
use mir.Val.{to_z, of_z, SFits}
use Rattle.model.specs.Rules.Search.{found_or, join_from}
use Rattle.model.specs.Rules.Cover.{starting_at, edge}
use Rattle.model.specs.Rules.Table.{Row, row_at, row_from, by_low, row_bytes}
use Rattle.rows.specs.Rows.{text_row, text_rows}
use Rattle.rows.proofs.Edges.{next_row, one_more, all-written, row-bytes}
use Rattle.word.proofs.Locals.{kept}
use Rattle.rows.proofs.Loops.{text-length, text_at, edge-next}
use Rattle.model.proofs.Rows.Area.{rows_bytes}
use Rattle.model.proofs.Rows.Rule.{sorted, length-same}
use Rattle.rows.proofs.emit_rows.Given as goal

abbrev pub in_order : List ℕ → List ℕ → ℕ → List Row
in_order text offsets count = by_low (text_rows text offsets count)

abbrev pub invariant-loop-i : goal.invariant-loop-i
invariant-loop-i l =
    (l.i ≤ l.count) × (l.out ≡ sets l.initial.out (l.to + 1) (rows_bytes 0 (take l.i (in_order l.text l.offsets l.count)))) ×
    (l.edge ≡ edge (in_order l.text l.offsets l.count) l.i)
