-- `image_code::emit_expressions` meets its contract: the measure is the depth that is still allowed. Assumes nothing.
use Prim.Native.Nat.{ℕ, suc, ◌+◌, ◌-◌, ◌^◌, ◌≤◌, ◌<◌}
use mathlib.Core.List.{List}
use mathlib.Core.Path.{◌≡◌, refl, sym, ap, subst, ◌∙◌}
use native.Mathlib.Omega.{arith}
use lib.ListN.{length}
use Rattle.model.specs.Rules.Command.{operator_at}
use Rattle.model.specs.declared.Operator.{Operator}
use Rattle.text_command.specs.Operator.{operands_of}
use Rattle.image_code.specs.Code.{Rooms, EmitsAll}
use Rattle.image_code.specs.Shape.{lead_of}
use Rattle.image_code.proofs.Operands.{
  Room,
  Emits,
  spells-stands,
  rooms,
  positive,
  operator-stands,
  first-room,
  rest-rooms,
  after-rooms,
  without,
  arity-is,
  one-wide,
  emits_none,
  emits-more,
  emits-last,
  spans,
}
use Rattle.image_code.proofs.+emit_expressions.Goals as goal
use Rattle.image_code.proofs.+emit_expressions.Goals.{After-operands_of-operands, In-loop-i, Joined-operands-eq0, Start, then-operands-eq0, else-operands-eq0}

-- in a turn
module _ (t : ℕ) (b : In-loop-i t) where
  abbrev start : Start t
  start = (goal.at.In-loop-i t b).Start

  abbrev text : List ℕ
  text = start.args.text.now.now

  abbrev depth : ℕ
  depth = start.args.depth

  abbrev out : List ℕ
  out = b.loop-i.out.now

  abbrev here : ℕ
  here = b.loop-i.done.next

  abbrev from : ℕ
  from = b.loop-i.done.end

  abbrev left : ℕ
  left = start.args.number - b.loop-i.i

  abbrev rest : ℕ
  rest = start.args.number - (b.loop-i.i + 1)

  one_more : suc rest ≡ left
  one_more = omega (arith, b.loop-i-test.true)

  counted : length text < 2 ^ 64
  counted = start.requires.counted

  all : Rooms depth text here (length out) from (suc rest) 0
  all = subst (λ n. Rooms depth text here (length out) from n 0) (sym one_more) b.loop-i.invariant.0

  room : Room depth text here (length out) from
  room = first-room all

-- where the operator is known
module _ (t : ℕ) (o : After-operands_of-operands t) where
  abbrev turn : In-loop-i t
  turn = (goal.at.After-operands_of-operands t o).In-loop-i

  abbrev operator : Operator
  operator = o.operator_at-operator.result

  is : operator_at (text t turn) (here t turn) ≡ operator
  is = sym o.operator_at-operator.ensures

  lead : Rooms (depth t turn - 1) (text t turn) (here t turn + (lead_of operator).width) (length (out t turn)) (from t turn)
      (lead_of operator).arity (length (lead_of operator).last)
  lead = rooms operator is (room t turn)

  some : 0 < depth t turn
  some = positive operator is (room t turn)

  inside : here t turn + (lead_of operator).width ≤ length (text t turn)
  inside = (spans (text t turn) (here t turn) operator is (operator-stands operator is (room t turn))).1

  module _ (h : o.operands_of-operands.result ≡ 0 → ⊥) where
    operands : operands_of operator ≡ 0 → ⊥
    operands e = h (o.operands_of-operands.ensures ∙ e)

    -- its operands stand behind it
    behind : Rooms (depth t turn - 1) (text t turn) (here t turn + 1) (length (out t turn)) (from t turn) (operands_of operator)
        (length (lead_of operator).last)
    behind = rw (one-wide operator operands, arity-is operator) at lead

-- one expression is written, by either branch
one : (t : ℕ) (j : Joined-operands-eq0 t) →
    let b = (goal.at.Joined-operands-eq0 t j).In-loop-i in
    Emits (text t b) (here t b) (out t b) (from t b) j.if-operands-eq0.out.now j.if-operands-eq0.done.next j.if-operands-eq0.done.end
one t j =
    let o = (goal.at.Joined-operands-eq0 t j).After-operands_of-operands in
    elim j.if-operands-eq0.branch [
      | then-operands-eq0 x ↦
          let e : (lead_of (operator t o)).arity ≡ 0 =
          arity-is (operator t o) ∙ sym o.operands_of-operands.ensures ∙ x.if-operands-eq0.true in
          rw (x.out-is, x.done-is) (emits-last (operator t o) (is t o) (rw e emits_none) x.put_leaf-done.ensures)
      | else-operands-eq0 y ↦
          let h = operands t o y.if-operands-eq0.false in
          let ws = rw (sym (one-wide (operator t o) h), sym (arity-is (operator t o))) at
          (rw (y.in_expression.ensures, o.operands_of-operands.ensures) at y.emit_expressions-before.ensures.emits_all) in
          rw (y.out-is, y.done-is) (emits-last (operator t o) (is t o) ws (rw (sym (y.operator_byte.ensures h)) at
          y.put_operator-done.ensures))
    ]

-- in the same slice
same : (t : ℕ) (j : Joined-operands-eq0 t) → j.if-operands-eq0.out.ghost_name ≡ j.loop-i.out.ghost_name
same t j =
    elim j.if-operands-eq0.branch [
      | then-operands-eq0 x ↦ rw x.out-is refl
      | else-operands-eq0 y ↦ rw y.out-is y.emit_expressions-before.ensures.same
    ]

pub loop-i-init : goal.loop-i-init
loop-i-init t c =
    let z : c.args.number - 0 ≡ c.args.number = omega arith in rw z (c.requires.rooms, refl, λ l next end w. w)

pub operator_at-operator-requires : goal.operator_at-operator-requires
operator_at-operator-requires t c = spells-stands (room t (goal.at.operator_at-operator-requires t c).In-loop-i).spelled

pub put_leaf-done-requires : goal.put_leaf-done-requires
put_leaf-done-requires t c =
    let o = (goal.at.put_leaf-done-requires t c).After-operands_of-operands in
    let b = (goal.at.put_leaf-done-requires t c).In-loop-i in
    record {
      operator = operator-stands (operator t o) (is t o) (room t b);
      leaf = arity-is (operator t o) ∙ sym o.operands_of-operands.ensures ∙ c.if-operands-eq0.true;
      counted = omega (arith, inside t o, counted t b);
      fits = omega (arith, (lead t o).fits);
    }

pub overflow_add-first : goal.overflow_add-first
overflow_add-first t c =
    let o = (goal.at.overflow_add-first t c).After-operands_of-operands in
    let one = one-wide (operator t o) (operands t o c.if-operands-eq0.false) in
    omega (arith, inside t o, one, counted t (goal.at.After-operands_of-operands t o).In-loop-i, c.in_expression.ensures)

pub overflow_sub-depth : goal.overflow_sub-depth
overflow_sub-depth t c = omega (arith, some t (goal.at.overflow_sub-depth t c).After-operands_of-operands)

pub emit_expressions-before-requires : goal.emit_expressions-before-requires
emit_expressions-before-requires t c =
    let o = (goal.at.emit_expressions-before-requires t c).After-operands_of-operands in
    let h = c.if-operands-eq0.false in (
      omega (arith, some t o, c.decreases),
      (
        rw (c.in_expression.ensures, o.operands_of-operands.ensures) (without (behind t o h)),
        counted t (goal.at.After-operands_of-operands t o).In-loop-i,
      ),
    )

pub put_operator-done-requires : goal.put_operator-done-requires
put_operator-done-requires t c =
    let e = c in
    let k = c in
    let o = (goal.at.put_operator-done-requires t c).After-operands_of-operands in
    let h = k.if-operands-eq0.false in
    let ws = rw (k.in_expression.ensures, o.operands_of-operands.ensures) at e.emit_expressions-before.ensures.emits_all in
    omega (arith, after-rooms (behind t o h) ws, ap length (c.operator_byte.ensures (operands t o h)))

pub loop-i-preserved : goal.loop-i-preserved
loop-i-preserved t c =
    let b = (goal.at.loop-i-preserved t c).In-loop-i in
    let l = b.loop-i in (
      rest-rooms (all t b) (one t c),
      same t c ∙ l.invariant.1,
      λ m next end w. l.invariant.2 m next end
          (subst (λ n. EmitsAll (text t b) (here t b) n (out t b) (from t b) m next end) (one_more t b) (emits-more (one t c) w)),
    )

pub returns : goal.returns
returns t c =
    let l = c.loop-i in
    let z : c.args.number - l.i ≡ 0 = omega (arith, c.loop-i-test.false) in
    record {
      same = l.invariant.1;
      emits_all = l.invariant.2 _ _ _ (rw z emits_none);
    }
