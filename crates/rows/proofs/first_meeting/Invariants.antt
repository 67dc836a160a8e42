-- `rows::first_meeting` meets its contract. Assumes nothing.
use Rattle.std.specs.Prelude.{Some, None}
use mathlib.Core.Path.{◌≡◌, sym, ap, ap₂, ◌∙◌}
use mathlib.Core.Bool.{Bool, false, not}
use mathlib.Core.List.{List}
use Prim.Native.Nat.{ℕ, ◌-◌, ◌≤◌, ◌<◌}
use native.Mathlib.Omega.{arith}
use borrow.Author.Count.{below_more}
use Rattle.model.specs.Rules.Search.{all_below}
use Rattle.model.proofs.Pairs.Decide.{first-below}
use Rattle.model.specs.Rules.Cover.{apart, meets_earlier}
use Rattle.model.specs.Rules.Table.{row_at}
use Rattle.rows.specs.Rows.{text_row, text_rows}
use Rattle.rows.proofs.Loops.{text_at}
use Rattle.model.proofs.Rows.Area.{all_same}
use Rattle.rows.proofs.first_meeting.Given as goal

abbrev pub test : List ℕ → List ℕ → ℕ → ℕ → Bool
test text offsets count n = meets_earlier (text_rows text offsets count) n

abbrev pub invariant-loop-n : goal.invariant-loop-n
invariant-loop-n l = (l.n ≤ l.count) × ((k : ℕ) → k < l.n → test l.text l.offsets l.count k ≡ false)
