-- `rows::no_gap` meets its contract. Assumes nothing.
use mathlib.Core.Path.{◌≡◌, sym, ap, ◌∙◌}
use mathlib.Core.Bool.{Bool, true, false}
use mathlib.Core.List.{List}
use Prim.Native.Nat.{ℕ, ◌-◌, ◌≤◌, ◌<◌}
use native.Mathlib.Omega.{arith}
use borrow.Author.Tests.{not-true, not-false}
use lib.ListN.{length}
use Rattle.model.specs.Rules.Search.{is_found, all_below}
use Rattle.model.specs.Rules.Cover.{starting_at, continues, no_gap, least_word}
use Rattle.model.specs.Rules.Table.{Row, row_at}
use Rattle.rows.specs.Rows.{text_rows}
use Rattle.model.proofs.Pairs.Decide.{all_none, all_more, all-fails}
use Rattle.rows.proofs.Loops.{text-length, text_at}
use Rattle.rows.proofs.no_gap.Given as goal

abbrev pub test : List Row → ℕ → Bool
test rows n = continues rows (row_at rows n).high

abbrev pub invariant-loop-n : goal.invariant-loop-n
invariant-loop-n l = (l.n ≤ l.count) × (all_below l.n (test (text_rows l.text l.offsets l.count)) ≡ true)
