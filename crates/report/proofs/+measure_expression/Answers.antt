-- `report::measure_expression` meets its contract: the measure of the recursion is the depth that is still allowed.
-- Assumes
-- nothing.
use borrow.Author.Rules.{rules}
use native.Mathlib.Omega.{arith}
use mathlib.Core.Path.{◌≡◌, refl, sym, ap, ◌∙◌}
use mathlib.Core.List.{List}
use Prim.Native.Nat.{ℕ, ◌+◌, ◌-◌, ◌≤◌, ◌<◌}
use lib.ListN.{length}
use Rattle.model.specs.Rules.Command.{operator_at}
use Rattle.model.specs.declared.Operator.{Operator}
use Rattle.image_code.specs.Shape.{lead_of}
use Rattle.image_code.proofs.Operands.{spells-stands, no-operator, spans}
use Rattle.report.specs.Measure.{Nests}
use Rattle.report.proofs.Operands.{
  NestsAll,
  Small,
  positive,
  operands,
  operator-stands,
  first-nests,
  rest-nests,
  small,
  measures-one,
  measures-more,
  measures-last,
  measures-leaf,
}
use borrow.Enum.Refused.{opened}
use Rattle.report.proofs.+measure_expression.Goals as goal
use Rattle.report.proofs.+measure_expression.Goals.{After-measure_expression-second, After-measure_expression-second-in-If, After-operator_at-decoded}

-- where the command is known
module _ (t : ℕ) (c : After-operator_at-decoded t) where
  abbrev text : List ℕ
  text = c.args.text.now.now

  abbrev at : ℕ
  at = c.args.at

  abbrev depth : ℕ
  depth = c.args.depth

  nests : Nests depth text at
  nests = c.requires.0

  short : length text ≤ 8192
  short = c.requires.1

  module _ (o : Operator) (e : c.operator_at-decoded.result ≡ o) where
    is : operator_at text at ≡ o
    is = sym c.operator_at-decoded.ensures ∙ e

    some : 0 < depth
    some = positive o is nests

    inside : at + (lead_of o).width ≤ length text
    inside = (spans text at o is (operator-stands o is nests)).1

    all : NestsAll (depth - 1) text (at + (lead_of o).width) (lead_of o).arity
    all = operands o is nests

pub operator_at-decoded-requires : goal.operator_at-decoded-requires
operator_at-decoded-requires t c = spells-stands c.requires.0.spelled

pub overflow_add-at : goal.overflow_add-at
overflow_add-at t c = omega (
  arith,
  inside t (goal.at.overflow_add-at t c).After-operator_at-decoded _ c.in-Constant.is,
  short t (goal.at.overflow_add-at t c).After-operator_at-decoded,
)

pub overflow_add-at-in-Read : goal.overflow_add-at-in-Read
overflow_add-at-in-Read t c = omega (
  arith,
  inside t (goal.at.overflow_add-at-in-Read t c).After-operator_at-decoded _ c.in-Read.is,
  c.of_read.ensures,
  short t (goal.at.overflow_add-at-in-Read t c).After-operator_at-decoded,
)

pub overflow_add-at-in-Binary : goal.overflow_add-at-in-Binary
overflow_add-at-in-Binary t c = omega
    (arith, inside t (goal.at.overflow_add-at-in-Binary t c).After-operator_at-decoded _ c.in-Binary.is, short t (goal.at.overflow_add-at-in-Binary t c).After-operator_at-decoded)

pub overflow_sub-depth : goal.overflow_sub-depth
overflow_sub-depth t c = omega (arith, some t (goal.at.overflow_sub-depth t c).After-operator_at-decoded _ c.in-Binary.is)

pub measure_expression-first-requires : goal.measure_expression-first-requires
measure_expression-first-requires t c =
    let c3 = (goal.at.measure_expression-first-requires t c).After-operator_at-decoded in
    rw c.in_expression-in-Binary.ensures (
      (omega (arith, some t c3 _ c.in-Binary.is)),
      (first-nests (all t c3 _ c.in-Binary.is), short t c3),
    )

pub overflow_sub-depth-in-Binary : goal.overflow_sub-depth-in-Binary
overflow_sub-depth-in-Binary t c =
    omega (arith, some t (goal.at.overflow_sub-depth-in-Binary t c).After-operator_at-decoded _ c.in-Binary.is)

pub measure_expression-second-requires : goal.measure_expression-second-requires
measure_expression-second-requires t c =
    let c4 = (goal.at.measure_expression-second-requires t c).After-operator_at-decoded in (
      (omega (arith, some t c4 _ c.in-Binary.is)),
      (
        first-nests (rest-nests (all t c4 _ c.in-Binary.is)
            (rw c.in_expression-in-Binary.ensures at c.measure_expression-first.ensures)),
        short t c4,
      ),
    )

-- the operands of an operator with two
two : (t : ℕ) (c : After-measure_expression-second t) →
    let c5 = (goal.at.After-measure_expression-second t c).After-operator_at-decoded in
    Small (text t c5) (at t c5 + 1) c.measure_expression-first.result ×
    Small (text t c5) c.measure_expression-first.result.next c.measure_expression-second.result
two t c =
    let a = all t (goal.at.After-measure_expression-second t c).After-operator_at-decoded _ c.in-Binary.is in (
      small (first-nests a) (rw c.in_expression-in-Binary.ensures at c.measure_expression-first.ensures),
      small (first-nests (rest-nests a
          (rw c.in_expression-in-Binary.ensures at c.measure_expression-first.ensures)))
          c.measure_expression-second.ensures,
    )

pub joined-operands-requires : goal.joined-operands-requires
joined-operands-requires t c = let s = two t c in let l = short t (goal.at.joined-operands-requires t c).After-operator_at-decoded in (
  omega (arith, s.0.fits, s.0.within),
  omega (arith, s.1.fits, s.1.within),
  omega (arith, s.1.low, s.1.fits, s.1.within),
)

pub operated-requires : goal.operated-requires
operated-requires t c = let s = two t (goal.at.operated-requires t c).After-measure_expression-second in
    omega (
      arith,
      c.joined-operands.ensures.commands,
      s.0.fits,
      s.0.within,
      s.1.fits,
      s.1.within,
      short t (goal.at.operated-requires t c).After-operator_at-decoded,
    )

pub overflow_add-at-in-Unary : goal.overflow_add-at-in-Unary
overflow_add-at-in-Unary t c =
    omega (arith, inside t (goal.at.overflow_add-at-in-Unary t c).After-operator_at-decoded _ c.in-Unary.is, short t (goal.at.overflow_add-at-in-Unary t c).After-operator_at-decoded)

pub overflow_sub-depth-in-Unary : goal.overflow_sub-depth-in-Unary
overflow_sub-depth-in-Unary t c = omega (arith, some t (goal.at.overflow_sub-depth-in-Unary t c).After-operator_at-decoded _ c.in-Unary.is)

pub measure_expression-operand-requires : goal.measure_expression-operand-requires
measure_expression-operand-requires t c =
    let c3 = (goal.at.measure_expression-operand-requires t c).After-operator_at-decoded in
    rw c.in_expression-in-Unary.ensures (
      (omega (arith, some t c3 _ c.in-Unary.is)),
      (first-nests (all t c3 _ c.in-Unary.is), short t c3),
    )

pub operated-requires-in-Unary : goal.operated-requires-in-Unary
operated-requires-in-Unary t c = let s =
    small (first-nests (all t (goal.at.operated-requires-in-Unary t c).After-operator_at-decoded _ c.in-Unary.is))
    (rw c.in_expression-in-Unary.ensures at c.measure_expression-operand.ensures) in
    omega (arith, s.fits, s.within, short t (goal.at.operated-requires-in-Unary t c).After-operator_at-decoded)

pub overflow_add-at-in-If : goal.overflow_add-at-in-If
overflow_add-at-in-If t c =
    omega (arith, inside t (goal.at.overflow_add-at-in-If t c).After-operator_at-decoded _ c.in-If.is, short t (goal.at.overflow_add-at-in-If t c).After-operator_at-decoded)

pub overflow_sub-depth-in-If : goal.overflow_sub-depth-in-If
overflow_sub-depth-in-If t c = omega (arith, some t (goal.at.overflow_sub-depth-in-If t c).After-operator_at-decoded _ c.in-If.is)

pub measure_expression-condition-requires : goal.measure_expression-condition-requires
measure_expression-condition-requires t c =
    let c3 = (goal.at.measure_expression-condition-requires t c).After-operator_at-decoded in
    rw c.in_expression-in-If.ensures (
      (omega (arith, some t c3 _ c.in-If.is)),
      (first-nests (all t c3 _ c.in-If.is), short t c3),
    )

pub overflow_sub-depth-in-If-2 : goal.overflow_sub-depth-in-If-2
overflow_sub-depth-in-If-2 t c =
    omega (arith, some t (goal.at.overflow_sub-depth-in-If-2 t c).After-operator_at-decoded _ c.in-If.is)

pub measure_expression-first-requires-in-If : goal.measure_expression-first-requires-in-If
measure_expression-first-requires-in-If t c =
    let c4 = (goal.at.measure_expression-first-requires-in-If t c).After-operator_at-decoded in (
      (omega (arith, some t c4 _ c.in-If.is)),
      (
        first-nests (rest-nests (all t c4 _ c.in-If.is)
            (rw c.in_expression-in-If.ensures at c.measure_expression-condition.ensures)),
        short t c4,
      ),
    )

pub overflow_sub-depth-in-If-3 : goal.overflow_sub-depth-in-If-3
overflow_sub-depth-in-If-3 t c =
    omega (arith, some t (goal.at.overflow_sub-depth-in-If-3 t c).After-operator_at-decoded _ c.in-If.is)

pub measure_expression-second-requires-in-If : goal.measure_expression-second-requires-in-If
measure_expression-second-requires-in-If t c =
    let c3 = c in
    let c5 = (goal.at.measure_expression-second-requires-in-If t c).After-operator_at-decoded in (
      (omega (arith, some t c5 _ c3.in-If.is)),
      (
        first-nests (rest-nests (rest-nests
            (all t c5 _ c3.in-If.is)
            (rw c.in_expression-in-If.ensures at c.measure_expression-condition.ensures))
            c.measure_expression-first-in-If.ensures),
        short t c5,
      ),
    )

-- the operands of IF
three : (t : ℕ) (c : After-measure_expression-second-in-If t) →
    Small (text t (goal.at.After-measure_expression-second-in-If t c).After-operator_at-decoded)
    (at t (goal.at.After-measure_expression-second-in-If t c).After-operator_at-decoded + 1) c.measure_expression-condition.result ×
    Small (text t (goal.at.After-measure_expression-second-in-If t c).After-operator_at-decoded) c.measure_expression-condition.result.next
    c.measure_expression-first-in-If.result ×
    Small (text t (goal.at.After-measure_expression-second-in-If t c).After-operator_at-decoded) c.measure_expression-first-in-If.result.next
    c.measure_expression-second-in-If.result
three t c =
    let c3 = c in
    let c4 = c in
    let c6 = (goal.at.After-measure_expression-second-in-If t c).After-operator_at-decoded in
    let a = all t c6 _ c4.in-If.is in
    let b = rest-nests a (rw c3.in_expression-in-If.ensures at c.measure_expression-condition.ensures) in (
      small (first-nests a) (rw c3.in_expression-in-If.ensures at c.measure_expression-condition.ensures),
      small (first-nests b) c.measure_expression-first-in-If.ensures,
      small (first-nests (rest-nests b c.measure_expression-first-in-If.ensures)) c.measure_expression-second-in-If.ensures,
    )

pub joined-choices-requires : goal.joined-choices-requires
joined-choices-requires t c = let s = three t c in let l = short t (goal.at.joined-choices-requires t c).After-operator_at-decoded in (
  omega (arith, s.1.fits, s.1.within),
  omega (arith, s.2.fits, s.2.within),
  omega (arith, s.2.low, s.2.fits, s.2.within),
)

pub joined-operands-requires-in-If : goal.joined-operands-requires-in-If
joined-operands-requires-in-If t c = let s = three t (goal.at.joined-operands-requires-in-If t c).After-measure_expression-second-in-If in let l =
    short t (goal.at.joined-operands-requires-in-If t c).After-operator_at-decoded in let j = c.joined-choices.ensures in (
      omega (arith, s.0.fits, s.0.within),
      omega (arith, j.commands, s.1.fits, s.1.within, s.2.fits, s.2.within),
      omega (arith, j.height, s.1.low, s.1.fits, s.1.within, s.2.low, s.2.fits, s.2.within),
    )

pub operated-requires-in-If : goal.operated-requires-in-If
operated-requires-in-If t c = let s = three t (goal.at.operated-requires-in-If t c).After-measure_expression-second-in-If in
    omega (
      arith,
      c.joined-operands-in-If.ensures.commands,
      c.joined-choices.ensures.commands,
      s.0.fits,
      s.0.within,
      s.1.fits,
      s.1.within,
      s.2.fits,
      s.2.within,
      short t (goal.at.operated-requires-in-If t c).After-operator_at-decoded,
    )

pub returns-in-Constant : goal.returns-in-Constant
returns-in-Constant t c =
    let c4 = (goal.at.returns-in-Constant t c).After-operator_at-decoded in
    measures-leaf _ (is t c4 _ c.in-Constant.is) refl
    (c.leaf.ensures.0 ∙ ap (λ (k : ℕ). at t c4 + k) c.in_expression.ensures) c.leaf.ensures.1
    c.leaf.ensures.2

pub returns-in-Read : goal.returns-in-Read
returns-in-Read t c =
    let c3 = c in
    let c5 = (goal.at.returns-in-Read t c).After-operator_at-decoded in
    measures-leaf _ (is t c5 _ c3.in-Read.is) refl
    (c.leaf-in-Read.ensures.0 ∙ ap (λ (k : ℕ). at t c5 + k) c.of_read.ensures) c.leaf-in-Read.ensures.1
    c.leaf-in-Read.ensures.2

pub returns-in-Binary : goal.returns-in-Binary
returns-in-Binary t c =
    let c3 = c in
    let c4 = c in
    let c5 = c in
    let c7 = (goal.at.returns-in-Binary t c).After-operator_at-decoded in
    measures-last _ (is t c7 _ c5.in-Binary.is) (omega arith)
    (measures-more (rw c4.in_expression-in-Binary.ensures at
    c3.measure_expression-first.ensures) (measures-one c.measure_expression-second.ensures)
    c.joined-operands.ensures) c.operated.ensures

pub returns-in-Unary : goal.returns-in-Unary
returns-in-Unary t c = measures-last _
    (is t (goal.at.returns-in-Unary t c).After-operator_at-decoded _ c.in-Unary.is) (omega arith)
    (measures-one (rw c.in_expression-in-Unary.ensures at c.measure_expression-operand.ensures))
    c.operated-in-Unary.ensures

pub returns-in-If : goal.returns-in-If
returns-in-If t c =
    let c3 = c in
    let c4 = c in
    let c5 = c in
    let c6 = c in
    let c7 = c in
    let c9 = (goal.at.returns-in-If t c).After-operator_at-decoded in
    measures-last _ (is t c9 _ c7.in-If.is) (omega arith)
    (measures-more (rw c6.in_expression-in-If.ensures at c5.measure_expression-condition.ensures)
    (measures-more c4.measure_expression-first-in-If.ensures
    (measures-one c3.measure_expression-second-in-If.ensures) c.joined-choices.ensures)
    c.joined-operands-in-If.ensures) c.operated-in-If.ensures

pub returns-in_default : goal.returns-in_default
returns-in_default t c = absurd (no-operator c.operator_at-decoded.result c.in_default.in_default-own.keys6
    (operator-stands _ (is t (goal.at.returns-in_default t c).After-operator_at-decoded _ refl) (nests t (goal.at.returns-in_default t c).After-operator_at-decoded)))
