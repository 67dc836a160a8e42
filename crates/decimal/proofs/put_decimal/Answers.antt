-- `decimal::put_decimal` meets its contract. Assumes nothing.
use Rattle.decimal.proofs.Puts.{decimal-minus, decimal-plus, put_one, put_then, put_is}
use Rattle.model.specs.Rules.Decimal.{natural, decimal}
use Rattle.word.proofs.Locals.{of-local, minus}
use Rattle.model.specs.Rules.Word.{bits_of}
use lib.ListN.{length, length-set}
use mathlib.Core.Path.{◌≡◌, sym, ap, ◌∙◌}
use mathlib.Core.List.{◌∷◌}
use Prim.Native.Nat.{ℕ, ◌+◌, ◌-◌}
use native.Mathlib.Omega.{arith}
use Rattle.decimal.proofs.put_decimal.Goals as goal
use Rattle.decimal.proofs.put_decimal.Goals.{Else-w-lt0, Then-w-lt0}

same : (t : Then-w-lt0) → t.bits-bits.result ≡ bits_of t.args.w
same t = of-local t.ranges.w t.bits-bits.ensures

negative : (t : Then-w-lt0) → decimal t.args.w ≡
    45 ∷ natural (4294967295 - t.bits-bits.result + 1)
negative t =
    let s = t in
    decimal-minus s.args.w s.ranges.w.sfits t.if-w-lt0.true ∙
    ap (λ (n : ℕ). 45 ∷ natural (4294967295 - n + 1)) (sym (same t))

positive : (e : Else-w-lt0) → decimal e.args.w ≡ natural e.bits-bits.result
positive e =
    let s = e in
    decimal-plus s.args.w s.ranges.w.sfits e.if-w-lt0.false ∙
    ap natural (sym (of-local s.ranges.w e.bits-bits.ensures))

pub bounds-out-at : goal.bounds-out-at
bounds-out-at c = let s = c in omega (arith, s.requires, ap length (negative c))

pub overflow_add-digits : goal.overflow_add-digits
overflow_add-digits c = let s = c in omega (arith, s.requires, ap length (negative c))

pub overflow_add-size : goal.overflow_add-size
overflow_add-size c =
    let s = c in
    let m = minus s.ranges.w c.if-w-lt0.true in
    omega (arith, same c, m.out, m.small)

pub put_natural-requires : goal.put_natural-requires
put_natural-requires c =
    let t = c in
    let s = c in
    simp length-set (omega (arith, s.requires, ap length (negative (goal.at.put_natural-requires t).Then-w-lt0)))

pub returns-then-w-lt0 : goal.returns-then-w-lt0
returns-then-w-lt0 c =
    let t = c in
    put_is (sym (negative (goal.at.returns-then-w-lt0 t).Then-w-lt0)) (put_then (put_one _ _ _ (bounds-out-at (goal.at.returns-then-w-lt0 t).Then-w-lt0)) c.put_natural.ensures)

pub put_natural-requires-2 : goal.put_natural-requires-2
put_natural-requires-2 c =
    let e = c in
    let s = c in
    omega (arith, s.requires, ap length (positive (goal.at.put_natural-requires-2 e).Else-w-lt0))

pub returns : goal.returns
returns c = put_is (sym (positive (goal.at.returns c).Else-w-lt0)) c.put_natural-2.ensures
