-- `image_valid::table_ok` meets its contract. Assumes nothing.
use Prim.Native.Nat.{ℕ, ◌+◌, ◌*◌}
use mathlib.Core.Bool.{Bool, true, false, ◌&&◌}
use mathlib.Core.List.{List}
use mathlib.Core.Path.{◌≡◌, sym, ap, ap₂, ◌∙◌}
use native.Mathlib.Omega.{arith}
use lib.Dec.{eqb}
use lib.ListN.{get_or}
use Rattle.model.specs.Rules.Cover.{area_ok}
use Rattle.model.specs.Rules.Machine.{table_offset, code_offset, table_ok}
use Rattle.image_valid.proofs.Parts.{AreaPart, area}
use Rattle.image_valid.proofs.table_ok.Goals as goal
use Rattle.image_valid.proofs.table_ok.Goals.{Else-not-area_ok}

-- the test, by its parts
by-area : (image : List ℕ) (at : ℕ) (b : Bool) → at ≡ table_offset image → area_ok image at ≡ b →
    table_ok image ≡ (b && eqb (code_offset image 0) (at + 1 + 12 * get_or image at 0))
unfolding table_ok
by-area image at b e h = rw (← e, h)

-- the area is one
good : (e : Else-not-area_ok) → AreaPart e.args.image.now e.args.at
good e = area _ _ (sym e.area_ok.ensures ∙ e.if-not-area_ok.false)

pub returns-then-not-area_ok : goal.returns-then-not-area_ok
returns-then-not-area_ok c =
    let s = c in
    sym (by-area s.args.image.now s.args.at false s.requires.2
    (sym c.area_ok.ensures ∙ c.if-not-area_ok.true))

pub returns : goal.returns
returns c =
    let w = c in
    let e = c in
    let s = c in
    ap₂ eqb c.code_offset.ensures (ap (λ (n : ℕ). s.args.at + 1 + 12 * n) w.from_byte-count.ensures.0) ∙
    sym (by-area s.args.image.now s.args.at true s.requires.2
    (sym e.area_ok.ensures ∙ e.if-not-area_ok.false))

pub bounds-image-at : goal.bounds-image-at
bounds-image-at c = (good (goal.at.bounds-image-at c).Else-not-area_ok).inside

pub overflow_add-end : goal.overflow_add-end
overflow_add-end c = omega (arith, (good (goal.at.overflow_add-end c).Else-not-area_ok).inside)

pub overflow_mul-end : goal.overflow_mul-end
overflow_mul-end c = omega (arith, c.from_byte-count.ensures.1)

pub overflow_add-end-2 : goal.overflow_add-end-2
overflow_add-end-2 c = omega (arith, (good (goal.at.overflow_add-end-2 c).Else-not-area_ok).inside, c.from_byte-count.ensures.1)
