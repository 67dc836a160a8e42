-- `rows::find_start` meets its contract. Assumes nothing.
use Rattle.std.specs.Prelude.{Some, None}
use mathlib.Core.Path.{◌≡◌, sym, ap, ◌∙◌}
use mathlib.Core.Bool.{Bool, true, false}
use mathlib.Core.List.{List}
use Prim.Native.Nat.{ℕ, ◌-◌, ◌≤◌, ◌<◌}
use native.Mathlib.Omega.{arith}
use borrow.Author.Count.{below_more}
use borrow.Author.Rules.{rules, sfits_of}
use lib.IntN.{ℤ}
use lib.ListN.{length}
use mir.Facts.{to_z-of_z}
use mir.Syntax.{w64}
use mir.Val.{to_z, of_z}
use Rattle.model.specs.Rules.Word.{eq_z}
use Rattle.model.proofs.Pairs.Decide.{first-below}
use Rattle.model.specs.Rules.Cover.{starting_at}
use Rattle.model.specs.Rules.Table.{Row, row_at}
use Rattle.rows.specs.Rows.{text_row, text_rows}
use Rattle.word.proofs.Locals.{kept, eq_z-other}
use Rattle.rows.proofs.Loops.{same-long, text-length, text_at}
use Rattle.model.proofs.Rows.Levels.{true-eq_z}
use Rattle.rows.proofs.find_start.Given as goal

abbrev pub test : List ℕ → List ℕ → ℤ → ℕ → Bool
test text offsets z n = eq_z (text_row text offsets n).low z

abbrev pub invariant-loop-n : goal.invariant-loop-n
invariant-loop-n l = (l.n ≤ l.count) × ((k : ℕ) → k < l.n → test l.text l.offsets l.edge k ≡ false)
