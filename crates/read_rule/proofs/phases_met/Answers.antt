-- `read_rule::phases_met` meets its contract. Assumes nothing.
use Prim.Native.Nat.{◌+◌, ◌*◌, ◌-◌, ◌≤◌}
use mathlib.Core.Bool.{Bool, true, cond, beq}
use mathlib.Core.Logic.{◌↔◌}
use mathlib.Core.Path.{◌≡◌, sym, ap, subst, ◌∙◌}
use native.Mathlib.Omega.{arith}
use borrow.Author.Rules.{rules}
use Rattle.model.specs.Rules.Reads.{writer_first}
use Rattle.read_rule.specs.Lines.{is_before, line_in, number_at}
use Rattle.model.specs.Says.Feasible.{Between}
use Rattle.read_rule.specs.Reads.{rate_in, moved_met}
use Rattle.read_rule.specs.declared.Line.{Line}
use Rattle.read_rule.specs.declared.Phases.{Phases}
use Rattle.read_rule.proofs.Searches.{small_product}
use Rattle.read_rule.proofs.Lines.{wrong, counted-moves, other-moves}
use Rattle.read_rule.proofs.phases_met.Goals as goal
use Rattle.read_rule.proofs.phases_met.Goals.{After-is_current, After-number_at-number, Start}

-- the line, and what is cut off at its ends
module _ (e : After-is_current) where
  abbrev start : Start
  start = e.before.before.before.before.before.before.before.before

  abbrev l : Line
  l = e.line_of-line.result

  abbrev right : Bool
  right = beq start.args.before (writer_first start.args.kind)

  line-is : l ≡ line_in start.args.kind start.args.w start.args.r
  line-is = e.line_of-line.ensures.is

  cut : e.either-wrong.result ≡ wrong right
  cut =
      e.either-wrong.ensures.0 ∙
      ap (λ t. wrong (beq start.args.before t)) e.wants_first.ensures

  low-cut : e.either-low_end.result ≡ cond (is_before start.args.kind) 0 (wrong right)
  low-cut =
      e.either-low_end.ensures.0 ∙
      (λ j. cond (e.is_before.ensures j) 0 (cut j))

  high_cut : e.either-high_end.result ≡ cond (is_before start.args.kind) (wrong right) 0
  high_cut = e.either-high_end.ensures.0 ∙ (λ j. cond (e.is_before-2.ensures j) (cut j) 0)

  one : e.either-wrong.result ≤ 256
  one = e.either-wrong.ensures.1 (omega arith) (omega arith)

  low_small : e.either-low_end.result ≤ 256
  low_small = e.either-low_end.ensures.1 (omega arith) one

  high_small : e.either-high_end.result ≤ 256
  high_small = e.either-high_end.ensures.1 one (omega arith)

  stretch-small : start.args.index * l.stride ≤ 65536
  stretch-small =
      small_product start.args.index l.stride (omega (arith, start.requires))
      e.line_of-line.ensures.small.stride-small

pub overflow_mul-stretch : goal.overflow_mul-stretch
overflow_mul-stretch c = omega (arith, stretch-small c.before.before)

pub overflow_add-base : goal.overflow_add-base
overflow_add-base c =
    let e = c in
    omega (
      arith,
      stretch-small e.before.before.before,
      e.line_of-line.ensures.small.ahead_small,
    )

pub overflow_add-first : goal.overflow_add-first
overflow_add-first c =
    let e = c in
    omega (arith, low_small e.before.before.before.before, e.line_of-line.ensures.small.cycle-small)

pub overflow_add-cut : goal.overflow_add-cut
overflow_add-cut c =
    let e = c in
    omega (
      arith,
      stretch-small e.before.before.before.before.before,
      high_small e.before.before.before.before.before,
      e.line_of-line.ensures.small.ahead_small,
    )

pub returns-then-reader-is_current : goal.returns-then-reader-is_current
returns-then-reader-is_current c =
    let k = c in
    let e = k in
    let a = (start e.before.before.before.before.before.before.before).args in
    let p = line-is e.before.before.before.before.before.before.before in
    let low = c.minus.ensures ∙ (λ j. (p j).cycle + low-cut e.before.before.before.before.before.before.before j - ((p j).ahead + a.index * (p j).stride)) in
    let high = c.minus-then-reader-is_current.ensures ∙ (λ j. (p j).cycle + (p j).step - ((p j).ahead + a.index * (p j).stride + high_cut e.before.before.before.before.before.before.before j)) in
    let lf = e.line_of-line.ensures in
    let turned = ap (λ t. beq a.reader t) (sym e.is_current.ensures) ∙ k.if-reader-is_current.true in
    λ n f pos rule vw vr lt b.
    subst (λ (o : Phases). Between o.low f o.high ↔
    (moved_met a.reader a.kind (rate_in a.w) (rate_in a.r) a.index a.before f ≡ true))
    (λ j. record { low = sym low j; high = sym high j })
    (counted-moves a.w a.r vw vr lf.read_byte lf.reader-byte a.reader a.kind n a.index f a.before
    turned pos rule lt b)

number_small : (c : After-number_at-number) → c.number_at-number.result ≤ 66048
number_small c =
    let e = c in
    omega (
      arith,
      c.number_at-number.ensures,
      stretch-small e.before.before,
      e.line_of-line.ensures.small.origin-small,
    )

pub overflow_add-last : goal.overflow_add-last
overflow_add-last c = omega (arith, number_small c, high_small c.before.before)

pub overflow_add-last-2 : goal.overflow_add-last-2
overflow_add-last-2 c = omega (arith, number_small c, high_small c.before.before)

pub overflow_add-number : goal.overflow_add-number
overflow_add-number c = omega (arith, number_small c.before)

pub returns : goal.returns
returns c =
    let m = c in
    let e = m in
    let a = (start e.before.before.before.before).args in
    let p = line-is e.before.before.before.before in
    let number = m.number_at-number.ensures ∙ (λ j. number_at (p j) a.index) in
    let low = c.minus-2.ensures ∙ (λ j. number j + high_cut e.before.before.before.before j + 1 - (p j).step) in
    let high = c.minus-3.ensures ∙ (λ j. number j + 1 - low-cut e.before.before.before.before j) in
    let lf = e.line_of-line.ensures in
    let turned = ap (λ t. beq a.reader t) (sym e.is_current.ensures) ∙ m.if-reader-is_current.false in
    λ n f pos rule vw vr lt b.
    subst (λ (o : Phases). Between o.low f o.high ↔
    (moved_met a.reader a.kind (rate_in a.w) (rate_in a.r) a.index a.before f ≡ true))
    (λ j. record { low = sym low j; high = sym high j })
    (other-moves a.w a.r vw vr lf.read_byte lf.reader-byte a.reader a.kind n a.index f a.before
    turned pos rule lt b)
