-- `rows::look_up` meets its contract. Assumes nothing.
use mathlib.Core.Path.{◌≡◌, refl, sym, ap, subst, ◌∙◌}
use mathlib.Core.Bool.{Bool, true, false, cond, ◌&&◌, true≢false}
use mathlib.Core.List.{List}
use mathlib.Core.Logic.{◌⊎◌, ⊎_elim}
use Prim.Native.Nat.{ℕ, ◌+◌, ◌-◌, ◌*◌, ◌≤◌, ◌<◌}
use native.Mathlib.Nat.{eq-or-lt_of_le}
use native.Mathlib.Omega.{arith}
use borrow.Author.Count.{below_more}
use borrow.Author.Rules.{rules}
use lib.IntN.{ℤ}
use lib.ListN.{length}
use lib.Signed.{le_z, lt_z}
use mir.Facts.{to_z-of_z}
use mir.Syntax.{w32}
use mir.Val.{to_z, of_z, SFits}
use Rattle.model.specs.Rules.Word.{byte_at}
use Rattle.model.specs.Rules.Table.{contains, table_word, area_rows}
use Rattle.model.proofs.Basics.Order.{below-not, below_fails}
use Rattle.model.proofs.Basics.Tests.{by}
use Rattle.model.proofs.Rows.Area.{area-true}
use Rattle.word.proofs.Locals.{kept}
use Rattle.rows.proofs.Scan.{row, at_row, all-rows, hit, miss, later-high}
use Rattle.model.proofs.Rows.Sorted.{InOrder, first-high}
use Rattle.rows.proofs.look_up.Given as goal

-- those of the first i rows whose high is below the word, and that the next one's is not
pub record Passed (area : List ℕ) (w : ℤ) (below i : ℕ) : Type 0 where
  pub few : below ≤ i
  pub lower : (k : ℕ) → k < below → le_z w (row area k).high ≡ false
  pub next : below < i → le_z w (row area below).high ≡ true

abbrev pub invariant-loop-i : goal.invariant-loop-i
invariant-loop-i l = (l.i ≤ l.count) × Passed l.area l.w l.below l.i
