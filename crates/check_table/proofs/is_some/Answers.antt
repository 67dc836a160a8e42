-- `check_table::is_some` meets its contract. Assumes nothing.
use Prim.Native.Nat.{ℕ, ◌+◌, ◌≤◌, ◌<◌}
use mathlib.Core.Bool.{true}
use mathlib.Core.Path.{◌≡◌, sym, ap}
use lib.Dec.{ltb}
use native.Mathlib.Omega.{arith}
use borrow.Author.Tests.{lt-ltb}
use Rattle.check_table.proofs.is_some.Goals as goal

some-rows : (rows lookups : ℕ) → 0 < rows → true ≡ ltb 0 (rows + lookups)
some-rows rows lookups h = sym (lt-ltb 0 (rows + lookups) (omega arith))

no_rows : (rows lookups : ℕ) → rows ≤ 0 → ltb 0 lookups ≡ ltb 0 (rows + lookups)
no_rows rows lookups h = let e : lookups ≡ rows + lookups = omega arith in ap (ltb 0) e

pub returns-then-rows-gt0 : goal.returns-then-rows-gt0
returns-then-rows-gt0 c = some-rows _ _ c.if-rows-gt0.true

pub returns : goal.returns
returns c = no_rows _ _ c.if-rows-gt0.false
