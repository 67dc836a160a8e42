-- `text_program::read_expressions` meets its contract: the measure is the depth that is still allowed. Assumes nothing.
use Rattle.std.specs.Prelude.{Result, Ok}
use Prim.Native.Nat.{ℕ, suc, ◌+◌, ◌-◌, ◌≤◌, ◌<◌}
use mathlib.Core.Bool.{true}
use mathlib.Core.List.{List}
use mathlib.Core.Path.{◌≡◌, refl, sym, ap, subst, ◌∙◌}
use native.Mathlib.Omega.{arith}
use Rattle.std.proofs.lemmas.Grind.{common_steps}
use lib.IntN.{ℤ}
use lib.ListN.{length}
use Rattle.model.specs.Rules.Outcome.{Outcome, ◌▷◌, provided, Parsed}
use Rattle.model.specs.Rules.Program.{Expr, constant, read, is_allowed, node, parse_expr}
use Rattle.model.specs.Rules.Width.{read_width}
use Rattle.model.specs.declared.Kind.{Kind}
use Rattle.model.specs.declared.Operator.{Operator}
use Rattle.model.specs.declared.Sampled.{Sampled}
use Rattle.text_command.specs.Operator.{operands_of, lookups_of}
use Rattle.text_program.specs.Walks.{outline_of, outlines, leaf_of, WalkRoom, Walks}
use Rattle.text_program.specs.declared.Walk.{Walk}
use Rattle.model.specs.declared.Fault.{Fault}
use Rattle.text_program.proofs.Operators.{parse-node, operator-inside, read-allowed}
use Rattle.text_program.proofs.Outlines.{leaf-outline, operator-outline, walks-operated}
use Rattle.text_program.proofs.Walks.{walks-none, walks-stop, walks-first, walks-deep, parsed-spans, ahead}
use Rattle.text_program.proofs.+read_expressions.Goals as goal
use Rattle.text_program.proofs.+read_expressions.Goals.{
  Joined-operands-eq0,
  then-operands-eq0+in-Ok,
  else-operands-eq0+in-Ok-below,
}
use Rattle.text_program.proofs.+read_expressions.Goals.{After-operands_of-operands, In-loop, Start}

-- in a turn
module _ (t : ℕ) (b : In-loop t) where
  abbrev start : Start t
  start = (goal.at.In-loop t b).Start

  abbrev text : List ℕ
  text = start.args.text.now.now

  abbrev least : ℕ
  least = start.args.least

  abbrev depth : ℕ
  depth = start.args.depth

  abbrev walk : Walk
  walk = b.loop.walk

  -- how many expressions are left after this one
  abbrev left : ℕ
  left = start.args.number - (b.loop.counter + 1)

  abbrev table : List ℕ
  table = b.loop.reads

  room : WalkRoom (length text) walk.at walk.reads walk.code walk.lookups (length table)
  room = b.loop.invariant.0

  answers : (l' : List ℕ) (r : Result Walk Fault) →
      Walks (outlines (parse_expr least depth text) (suc left) walk.at) table walk.reads walk.code walk.lookups
      l' r →
      Walks (outlines (parse_expr least depth text) start.args.number start.args.at) start.args.reads.now
      start.args.count start.args.to start.args.looks l' r
  answers l' r w =
      let z : suc left ≡ start.args.number - b.loop.counter = omega (arith, b.loop-test.true) in
      b.loop.invariant.2 l' r
      (subst (λ n. Walks (outlines (parse_expr least depth text) n walk.at) table walk.reads walk.code walk.lookups
      l' r) z w)

-- where the operator is known, and the depth is not 0
module _ (t : ℕ) (o : After-operands_of-operands t) where
  abbrev turn : In-loop t
  turn = (goal.at.After-operands_of-operands t o).In-loop

  abbrev at : ℕ
  at = (walk t turn).at

  abbrev operator : Operator
  operator = o.operator_from-operator.result

  abbrev sub : ℕ → Outcome (Parsed Expr)
  sub n = parse_expr (least t turn) (depth t turn - 1) (text t turn) n

  step : parse_expr (least t turn) (depth t turn) (text t turn) at ≡ node (least t turn) sub (text t turn) at operator
  step =
      parse-node (least t turn) (depth t turn) (text t turn) at o.if-depth-eq0.false ∙
      ap (node (least t turn) sub (text t turn) at) (sym o.operator_from-operator.ensures)

  constant-inside : (z : ℤ) → operator ≡ Operator.Constant z → at + 5 ≤ length (text t turn)
  unfolding node
  constant-inside z e =
      (parsed-spans (least t turn) (depth t turn) (text t turn) at (constant z) (at + 5)
      (step ∙ ap (node (least t turn) sub (text t turn) at) e)).inside

  allowed : (kind : Kind) (x : Sampled) → operator ≡ Operator.Read kind x → is_allowed (least t turn) kind x ≡ true
  allowed kind x e = read-allowed (least t turn) (text t turn) at (sym o.operator_from-operator.ensures ∙ e)

  read-inside : (kind : Kind) (x : Sampled) → operator ≡ Operator.Read kind x → at + read_width kind ≤ length (text t turn)
  unfolding node ◌▷◌ provided
  read-inside kind x e =
      (parsed-spans (least t turn) (depth t turn) (text t turn) at (read (record { place = at; kind = kind; operands = x }))
      (at + read_width kind) (step ∙ ap (node (least t turn) sub (text t turn) at) e ∙ rw (allowed kind x e) refl)).inside

  -- An operator with operands stands in the text.
  inside : (o.operands_of-operands.result ≡ 0 → ⊥) → at < length (text t turn)
  unfolding operands_of
  inside h =
      operator-inside (least t turn) (text t turn) at (sym o.operator_from-operator.ensures)
      (λ e. h (o.operands_of-operands.ensures ∙ ap operands_of (sym e)))

  -- One expression is read: a leaf, or an operator with its operands.
  abbrev Reads : List ℕ → Result Walk Fault → Type 0
  Reads l' r =
      Walks (outline_of (parse_expr (least t turn) (depth t turn) (text t turn) at)) (table t turn) (walk t turn).reads
      (walk t turn).code (walk t turn).lookups l' r

  leaf-read : {l' : List ℕ} {r : Result Walk Fault} → o.operands_of-operands.result ≡ 0 →
      Walks (leaf_of (length (text t turn)) at operator) (table t turn) (walk t turn).reads (walk t turn).code
      (walk t turn).lookups l' r →
      Reads l' r
  leaf-read z w =
      let e = ap outline_of step ∙
      leaf-outline sub (least t turn) (text t turn) at operator (sym o.operands_of-operands.ensures ∙ z)
      allowed in
      rw e w

  operator-read : {l' : List ℕ} {r : Result Walk Fault} → (o.operands_of-operands.result ≡ 0 → ⊥) →
      Walks (outlines sub (operands_of operator) (at + 1)) (table t turn) (walk t turn).reads ((walk t turn).code + 1)
      ((walk t turn).lookups + lookups_of operator) l' r →
      Reads l' r
  operator-read h w =
      let e = ap outline_of step ∙ operator-outline sub (least t turn) (text t turn) at operator
      (λ z. h (o.operands_of-operands.ensures ∙ z)) in
      rw e (walks-operated _ _ w)

-- where either branch has gone on
one : (t : ℕ) (j : Joined-operands-eq0 t) → let o = (goal.at.Joined-operands-eq0 t j).After-operands_of-operands in
    (r : Result Walk Fault) × (r ≡ Ok j.if-operands-eq0.walk) × Reads t o j.if-operands-eq0.reads r
one t j =
    let o = (goal.at.Joined-operands-eq0 t j).After-operands_of-operands in
    elim j.if-operands-eq0.branch [
      | then-operands-eq0+in-Ok x ↦
          rw (x.walk-is, x.reads-is)
          (x.read_leaf-leaf.result, x.in-Ok.is, leaf-read t o x.if-operands-eq0.true x.read_leaf-leaf.ensures)
      | else-operands-eq0+in-Ok-below y ↦
          rw (y.walk-is, y.reads-is) (
            y.read_expressions-below.result,
            y.in-Ok-below.is,
            operator-read t o y.if-operands-eq0.false
                (rw (o.operands_of-operands.ensures, y.in_expression.ensures, y.in_code.ensures, y.lookups_of.ensures.0) at
                y.read_expressions-below.ensures),
          )
    ]

pub returns-then-depth-eq0 : goal.returns-then-depth-eq0
returns-then-depth-eq0 t c =
    let b = (goal.at.returns-then-depth-eq0 t c).In-loop in
    answers t b _ _ (walks-deep _ _ _ _ _ c.if-depth-eq0.true c.too_deep.ensures)

pub read_leaf-leaf-requires : goal.read_leaf-leaf-requires
read_leaf-leaf-requires t c =
    let o = (goal.at.read_leaf-leaf-requires t c).After-operands_of-operands in
    record { left = room t (turn t o); constant-inside = constant-inside t o; read-inside = read-inside t o }

pub overflow_add-walk : goal.overflow_add-walk
overflow_add-walk t c =
    let o = (goal.at.overflow_add-walk t c).After-operands_of-operands in
    omega (arith, inside t o c.if-operands-eq0.false, (room t (turn t o)).short, c.in_expression.ensures)

pub overflow_add-walk-else-operands-eq0 : goal.overflow_add-walk-else-operands-eq0
overflow_add-walk-else-operands-eq0 t c =
    let o = (goal.at.overflow_add-walk-else-operands-eq0 t c).After-operands_of-operands in
    let h = room t (turn t o) in
    omega (arith, inside t o c.if-operands-eq0.false, h.short, h.small, c.in_code.ensures)

pub overflow_add-walk-else-operands-eq0-2 : goal.overflow_add-walk-else-operands-eq0-2
overflow_add-walk-else-operands-eq0-2 t c =
    let o = (goal.at.overflow_add-walk-else-operands-eq0-2 t c).After-operands_of-operands in
    let h = room t (turn t o) in
    omega (arith, inside t o c.if-operands-eq0.false, h.short, h.rare, c.lookups_of.ensures.1)

pub returns-in_default : goal.returns-in_default
returns-in_default t c =
    let o = (goal.at.returns-in_default t c).After-operands_of-operands in
    answers t (turn t o) _ _
    (walks-stop _ _ _ (leaf-read t o c.if-operands-eq0.true c.read_leaf-leaf.ensures) c.in_default.is)

pub returns-in_default-below : goal.returns-in_default-below
returns-in_default-below t c =
    let o = (goal.at.returns-in_default-below t c).After-operands_of-operands in
    answers t (turn t o) _ _
    (walks-stop _ _ _
    (operator-read t o c.if-operands-eq0.false
    (rw (o.operands_of-operands.ensures, c.in_expression.ensures, c.in_code.ensures, c.lookups_of.ensures.0) at
    c.read_expressions-below.ensures)) c.in_default-below.is)

pub loop-preserved : goal.loop-preserved
loop-preserved t j =
    let b = (goal.at.loop-preserved t j).In-loop in
    let o = one t j in (
      (ahead (least t b) (text t b) (depth t b) (room t b) o.2 o.1).left,
      grind (arith, common_steps),
      λ l' r w. answers t b l' r (walks-first _ _ _ o.2 o.1 w),
    )

pub returns : goal.returns
returns t c =
    let l = c.loop in
    let z : c.args.number - l.counter ≡ 0 = omega (arith, c.loop-test.false) in
    l.invariant.2 _ _ (rw z (walks-none _ _ refl))
