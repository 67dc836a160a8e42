-- `rows::apart_from_earlier` meets its contract. Assumes nothing.
use mathlib.Core.Path.{◌≡◌, sym, ap, ◌∙◌}
use mathlib.Core.Bool.{Bool, true}
use mathlib.Core.List.{List}
use Prim.Native.Nat.{ℕ, ◌-◌, ◌≤◌}
use native.Mathlib.Omega.{arith}
use borrow.Author.Tests.{not-true, not-false}
use Rattle.model.specs.Rules.Search.{all_below}
use Rattle.model.specs.Rules.Cover.{apart}
use Rattle.rows.specs.Rows.{text_row}
use Rattle.model.proofs.Pairs.Decide.{all_none, all_more, all-fails}
use Rattle.rows.proofs.apart_from_earlier.Given as goal

abbrev pub test : List ℕ → List ℕ → ℕ → ℕ → Bool
test text offsets n m = apart (text_row text offsets m) (text_row text offsets n)

abbrev pub invariant-loop-m : goal.invariant-loop-m
invariant-loop-m l = (l.m ≤ l.n) × (all_below l.m (test l.text l.offsets l.n) ≡ true)
