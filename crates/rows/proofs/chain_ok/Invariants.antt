-- `rows::chain_ok` meets its contract. Assumes nothing.
use mathlib.Core.Path.{◌≡◌, refl, sym, ap, ◌∙◌}
use mathlib.Core.Bool.{true, false}
use mathlib.Core.List.{List}
use Prim.Native.Nat.{◌+◌, ◌-◌, ◌≤◌, ◌<◌}
use native.Mathlib.Omega.{arith}
use borrow.Author.Rules.{rules, sfits_of}
use lib.IntN.{suc_ℤ}
use lib.ListN.{length}
use lib.Signed.{lt_z, le_z}
use mir.Syntax.{w64}
use mir.Val.{of_z, SFits}
use Rattle.model.specs.Rules.Search.{all_below}
use Rattle.model.specs.Rules.Word.{eq_z}
use Rattle.model.specs.Rules.Cover.{edge, greatest_word}
use Rattle.model.specs.Rules.Table.{Row, row_at, rows_from}
use Rattle.word.proofs.Locals.{kept, eq_z-other}
use Rattle.rows.proofs.Loops.{same-long, same_test, edge-next, low-wrong, high-wrong, last-edge}
use Rattle.model.proofs.Pairs.Decide.{all_none, all_more}
use Rattle.model.proofs.Rows.Area.{follows, rows-length, rows_at}
use Rattle.model.proofs.Basics.Order.{below-not, below_fails}
use Rattle.model.proofs.Rows.Levels.{true-eq_z}
use Rattle.rows.proofs.chain_ok.Given as goal

abbrev pub invariant-loop-i : goal.invariant-loop-i
invariant-loop-i l =
    (l.i ≤ l.count) × (all_below l.i (follows (rows_from l.image l.start l.count)) ≡ true) ×
    (l.edge ≡ edge (rows_from l.image l.start l.count) l.i)
