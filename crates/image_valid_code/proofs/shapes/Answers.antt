-- `image_valid_code::shapes` meets its contract. Assumes nothing.
use Prim.Native.Nat.{ℕ, ◌<◌}
use mathlib.Core.Bool.{Bool, true, false}
use mathlib.Core.List.{List}
use mathlib.Core.Path.{◌≡◌, refl, sym, subst, ◌∙◌}
use native.Mathlib.Omega.{arith}
use borrow.Author.Tests.{eqb-true, eqb-false}
use lib.Dec.{eqb}
use lib.ListN.{length, get_or, set}
use lib.Seq.{get_or-set_same, get_or-set_other}
use Rattle.model.proofs.Texts.Picks.{byte_inside}
use Rattle.image_valid_code.specs.Shape.{shape_of, Shapes}
use Rattle.image_valid_code.proofs.shapes.Goals as goal

-- The shape of every other byte is the same.
other : (b : ℕ) → eqb b 0x3B ≡ false → shape_of false b ≡ shape_of true b
unfolding shape_of
other b e = rw e

-- A table that has an entry for LOAD has one for TABLE.
long : (table : List ℕ) → Shapes false table → 0x3B < length table
unfolding shape_of
long table h = omega (arith, byte_inside table 0x51 (omega (arith, h.entry 0x51 (omega arith))))

with_rows : (table : List ℕ) → Shapes false table → Shapes true (set table 0x3B 64)
unfolding shape_of
with_rows table h = record { entry = λ b lt. go b lt (eqb b 0x3B) refl }
  where
    go : (b : ℕ) → b < 256 → (t : Bool) → eqb b 0x3B ≡ t → get_or (set table 0x3B 64) b 0 ≡ shape_of true b
    go b lt true e = rw (eqb-true b 0x3B e) (get_or-set_same table 0x3B 64 0 (long table h))
    go b lt false e = get_or-set_other table 0x3B b 64 0 (eqb-false b 0x3B e) ∙ h.entry b lt ∙ other b e

pub returns-then-not-rows : goal.returns-then-not-rows
returns-then-not-rows c =
    subst (λ (b : Bool). Shapes b c.plain_shapes-table.result) (sym (c.if-not-rows.true))
    c.plain_shapes-table.ensures

pub returns : goal.returns
returns c =
    subst (λ (b : Bool). Shapes b (set c.plain_shapes-table.result 0x3B 64)) (sym (c.if-not-rows.false))
    (with_rows _ c.plain_shapes-table.ensures)
