-- `check_rates::period_rule` meets its contract. Assumes nothing.
use Prim.Native.Nat.{ℕ, ◌*◌, ◌≤◌, ◌<◌}
use mathlib.Core.Bool.{cond}
use mathlib.Core.Path.{◌≡◌, refl, ap}
use native.Mathlib.Nat.{mul-le-mul_right}
use native.Mathlib.Omega.{arith}
use borrow.Author.Rules.{rules}
use lib.Dec.{eqb}
use Rattle.model.specs.Rules.Rates.{period_rule}
use Rattle.model.specs.declared.Kind.{Kind}
use Rattle.model.specs.declared.Kind.TheVariants.{Now, Last, When, LastWhen, Current}
use Rattle.check_rates.specs.Rates.{factor_of}
use Rattle.read_rule.specs.Lines.{is_current}
use Rattle.check_rates.proofs.period_rule.Goals as goal

-- the product of two bytes
small_product : (a b : ℕ) → a < 256 → b < 256 → a * b ≤ 65025
small_product a b h g = let f : a * b ≤ 255 * b = mul-le-mul_right b (omega arith) in omega arith

-- the longer period is the factor times the shorter
one_product : (kind : Kind) (w r n : ℕ) →
    eqb (cond (is_current kind) w r) (factor_of kind n * cond (is_current kind) r w) ≡ period_rule kind w r n
one_product Now w r n = ap (eqb r) (omega arith)
one_product Last w r n = ap (eqb r) (omega arith)
one_product When w r n = refl
one_product LastWhen w r n = refl
one_product Current w r n = refl

pub overflow_mul-result : goal.overflow_mul-result
overflow_mul-result c =
    let shorter = c.from_byte-shorter in
    let factor = c.from_byte-factor in
    omega (arith, small_product factor.result shorter.result factor.ensures.1 shorter.ensures.1)

pub returns : goal.returns
returns c =
    let l = c in
    let f = c in
    let a = f.args in
    rw (
      l.from_byte-longer.ensures.0,
      f.from_byte-factor.ensures.0,
      c.from_byte-shorter.ensures.0,
      l.select.ensures,
      c.select-2.ensures,
      f.factor_of.ensures,
      l.is_current-current.ensures,
    )
    (one_product a.kind a.w a.r a.n)
