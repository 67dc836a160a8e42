-- The rows of a program by its tables, and when they are judged. Assumes nothing.
use Prim.Native.Nat.{ℕ, ◌+◌}
use mathlib.Core.Bool.{Bool, cond}
use mathlib.Core.List.{List}
use mathlib.Core.Path.{◌≡◌}
use native.Mathlib.Omega.{arith}
use lib.Dec.{ltb}
use Rattle.model.specs.Rules.Cover.{covering, tabled}
use Rattle.model.specs.Rules.Outcome.{accepted}
use Rattle.model.specs.Rules.Program.{Program}
use Rattle.model.proofs.Rows.Spelled.{rows_inside, rows-spelled}
use Rattle.model.proofs.Texts.Legal.{stands}
use Rattle.rows.specs.Rows.{text_rows, Placed}
use Rattle.text_program.specs.Tables.{TablesOf, Stands}
use Rattle.text_program.specs.declared.Tables.{Tables}

module _ {text reads : List ℕ} {t : Tables} {p : Program} (known : Stands text reads t p) where
  abbrev h : TablesOf p t
  h = known.tables-are

  pub rows-placed : Placed text t.offsets t.rows
  rows-placed =
      let l = (stands text p known.declares).1 in
      let n = h.counts.rows_are in
      (omega (arith, l.few_rows), λ k lt. rows_inside l t.offsets h.offsets k (omega arith))

  pub rows_are : text_rows text t.offsets t.rows ≡ p.rows
  unfolding text_rows
  rows_are = rw (← h.counts.rows_are) (rows-spelled (stands text p known.declares).1 t.offsets h.offsets)

  -- Neither a row nor a TABLE, or one of them.
  pub tabled-by : (b : Bool) → ltb 0 (t.rows + t.lookups) ≡ b → tabled p ≡ cond b (covering p.rows) (accepted tt)
  unfolding tabled
  tabled-by b f = rw (h.counts.rows_are, ← h.lookups-are, f)
