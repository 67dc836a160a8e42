-- `run_code::run_code` meets its contract. Assumes nothing.
use mathlib.Core.Path.{◌≡◌, sym, ap, ◌∙◌}
use mathlib.Core.Bool.{Bool}
use mathlib.Core.List.{List, ◌∷◌}
use Prim.Native.Nat.{ℕ, ◌+◌, ◌-◌, ◌≤◌, ◌<◌}
use native.Mathlib.Omega.{arith}
use borrow.Author.Rules.{rules}
use lib.Dec.{ltb}
use lib.IntN.{ℤ, pos}
use lib.ListN.{length, get_or}
use mir.Syntax.{w32}
use mir.Val.{to_z, of_z}
use Rattle.model.specs.Rules.Machine.{operator_code, code_ok, run_from, run_code, count_code, on_two}
use Rattle.model.specs.Rules.Table.{Row, area_rows}
use Rattle.model.specs.Rules.Word.{byte_at, binary_word}
use Rattle.model.specs.declared.Code.{Code}
use Rattle.model.specs.declared.Code.TheVariants as Code
use Rattle.model.specs.declared.Unary.TheVariants.{Negate, Table}
use Rattle.model.proofs.Images.Counts.{code-most}
use Rattle.run_stack.specs.View.{view}
use Rattle.word.proofs.Locals.{kept}
use Rattle.run_code.proofs.Commands.{
  Goes,
  Command,
  Leaf,
  leaf,
  leaf-some,
  moved,
  shifted,
  more,
  store,
  negate,
  table,
  choose,
  combine,
  ended,
  last,
  negated,
  chosen,
  combined,
  operator-code,
}
use Rattle.run_code.proofs.run_code.Goals as goal
use Rattle.run_code.proofs.run_code.Goals.{After-binary_of, After-binary_of-in_default, After-leaf_length, At-loop-at, In-56, In-58, In-59, In-80-to-82, In-95, In_default, in_default-via-then-byte-lt80, in_default-via-else-byte-lt80+else-byte-lt83, Start, Then-next-lt55}

-- the command of a turn, by the arm that its byte came to
abbrev start : At-loop-at → Start
start l = (goal.at.At-loop-at l).Start

-- an operator is one byte
one : (l : At-loop-at) → l.in_code-operator_width.result ≡ 1
one l = l.in_code-operator_width.ensures

abbrev code : At-loop-at → List ℕ
code l = (start l).args.code.now

abbrev rows : At-loop-at → List Row
rows l = area_rows (start l).args.table.now 0

abbrev tabled : At-loop-at → Bool
tabled l = ltb 0 (byte_at (start l).args.table.now 0)

abbrev stored : At-loop-at → ℤ
stored l = run_code (rows l) (code l) (start l).args.state.now (start l).args.samples.now

abbrev Here : At-loop-at → Code → Type 0
Here l k =
    let a = (start l).args in
    Command (tabled l) (rows l) (code l) a.n a.own a.state.now a.samples.now (stored l) (count_code (code l))
    l.loop-at.count
    l.loop-at.at (view l.loop-at.stack) l.loop-at.stack.height k

at_store : (m : In-95)
    → let l = m in (l.loop-at.at + 2 ≤ length (code (goal.at.In-95 l).At-loop-at)) ×
    Here (goal.at.In-95 l).At-loop-at (Code.Store (byte_at (code (goal.at.In-95 l).At-loop-at) (l.loop-at.at + 1)))
at_store m = store _ _ _ _ _ _ _ m.loop-at-test.true m.loop-at.invariant m.in-95.is

at-negate : (m : In-56) → Here (goal.at.In-56 m).At-loop-at (Code.Unary Negate)
at-negate m = negate _ _ _ _ _ _ _ m.loop-at-test.true m.loop-at.invariant m.in-56.is

at_table : (m : In-59) → Here (goal.at.In-59 m).At-loop-at (Code.Unary Table)
at_table m = table _ _ _ _ _ _ _ m.loop-at-test.true m.loop-at.invariant m.in-59.is

at-if : (m : In-58) → Here (goal.at.In-58 m).At-loop-at Code.If
at-if m = choose _ _ _ _ _ _ _ m.loop-at-test.true m.loop-at.invariant m.in-58.is

-- no leaf
other : (j : In_default) (k : ℕ) → 0x50 ≤ k → k < 0x53
    → let l = j in byte_at (code (goal.at.In_default l).At-loop-at) l.loop-at.at ≡ k → ⊥
other j k lo hi e = elim j.in_default.branch [
  | in_default-via-then-byte-lt80 w ↦ omega arith
  | in_default-via-else-byte-lt80+else-byte-lt83 w ↦ omega arith
]

at-binary : (j : In_default)
    → let l = j in let b = byte_at (code (goal.at.In_default l).At-loop-at) l.loop-at.at in (0x30 ≤ b) × (b ≤ 0x36) ×
    Here (goal.at.In_default l).At-loop-at (operator_code b)
at-binary j =
    combine _ _ _ _ _ _ _ j.loop-at-test.true j.loop-at.invariant (other j 0x50 (omega arith) (omega arith))
    (other j 0x51 (omega arith) (omega arith)) (other j 0x52 (omega arith) (omega arith))
    (λ e. omega arith) (λ e. omega arith) (λ e. omega arith) (λ e. omega arith)

-- the operator is the one that the byte commands
at-operator : (o : After-binary_of-in_default) →
    Here (goal.at.After-binary_of-in_default o).At-loop-at (Code.Binary o.binary_of-in_default.result)
at-operator o =
    let h = at-binary (goal.at.After-binary_of-in_default o).In_default in rw (operator-code _ h.0 h.1, ← o.binary_of-in_default.ensures) at h.2

-- a leaf
abbrev turn : In-80-to-82 → At-loop-at
turn t = (goal.at.In-80-to-82 t).At-loop-at

at_leaf : (t : In-80-to-82) → let l = t in let a = (start (goal.at.In-80-to-82 l).At-loop-at).args in
    Leaf (tabled (goal.at.In-80-to-82 l).At-loop-at) (rows (goal.at.In-80-to-82 l).At-loop-at) (code (goal.at.In-80-to-82 l).At-loop-at) a.n a.own a.state.now a.samples.now (stored (goal.at.In-80-to-82 l).At-loop-at) (count_code (code (goal.at.In-80-to-82 l).At-loop-at))
    l.loop-at.count l.loop-at.at
    (view l.loop-at.stack) l.loop-at.stack.height
at_leaf t =
    let l = t in
    let s = t in
    leaf _ _ _ _ _ _ _ t.loop-at-test.true l.loop-at.invariant s.requires.1 s.requires.2 s.requires.3
    (omega arith) (omega (arith, t.in-80-to-82))

-- what follows it
abbrev leaf-of : After-leaf_length → In-80-to-82
leaf-of o = (goal.at.After-leaf_length o).In-80-to-82

abbrev Follows : After-leaf_length → Code → Type 0
Follows o k =
    let l = o in
    let a = (start (goal.at.After-leaf_length l).At-loop-at).args in
    Command (tabled (goal.at.After-leaf_length l).At-loop-at) (rows (goal.at.After-leaf_length l).At-loop-at) (code (goal.at.After-leaf_length l).At-loop-at) a.n a.own a.state.now a.samples.now (stored (goal.at.After-leaf_length l).At-loop-at) (count_code (code (goal.at.After-leaf_length l).At-loop-at))
    (l.loop-at.count + 1)
    (l.loop-at.at + o.leaf_length.result)
    (o.leaf_word-word.result ∷ view l.loop-at.stack) (l.loop-at.stack.height + 1) k

follows : (o : After-leaf_length) → let l = o in let a = (start (goal.at.After-leaf_length l).At-loop-at).args in
    Goes (tabled (goal.at.After-leaf_length l).At-loop-at) (rows (goal.at.After-leaf_length l).At-loop-at) (code (goal.at.After-leaf_length l).At-loop-at) a.n a.own a.state.now a.samples.now (stored (goal.at.After-leaf_length l).At-loop-at) (count_code (code (goal.at.After-leaf_length l).At-loop-at))
    (l.loop-at.count + 1)
    (l.loop-at.at + o.leaf_length.result)
    (o.leaf_word-word.result ∷ view l.loop-at.stack) (l.loop-at.stack.height + 1)
follows o =
    let l = o in
    shifted _ _ _ _ _ _ _ (ap (λ (k : ℕ). l.loop-at.at + k) o.leaf_length.ensures)
    (ap (λ (w : ℤ). w ∷ view l.loop-at.stack) o.leaf_word-word.ensures)
    (at_leaf (goal.at.After-leaf_length o).In-80-to-82).next

inside : (o : After-leaf_length) →
    (turn (goal.at.After-leaf_length o).In-80-to-82).loop-at.at + o.leaf_length.result < length (code (goal.at.After-leaf_length o).At-loop-at)
inside o = more _ _ _ _ _ _ _ (follows o)

then-binary : (t : Then-next-lt55) → let o = t in
    let l = t in let b = byte_at (code (goal.at.Then-next-lt55 l).At-loop-at) (l.loop-at.at + o.leaf_length.result) in (0x30 ≤ b) × (b ≤ 0x36) ×
    Follows (goal.at.Then-next-lt55 o).After-leaf_length (operator_code b)
then-binary t =
    let o = t in
    combine _ _ _ _ _ _ _ (inside (goal.at.Then-next-lt55 o).After-leaf_length) (follows (goal.at.Then-next-lt55 o).After-leaf_length) (λ e. omega (arith, t.if-next-lt55.true)) (λ e. omega (arith, t.if-next-lt55.true))
    (λ e. omega (arith, t.if-next-lt55.true))
    (λ e. omega (arith, t.if-next-lt55.true)) (λ e. omega (arith, t.if-next-lt55.true)) (λ e. omega (arith, t.if-next-lt55.true))
    (λ e. omega (arith, t.if-next-lt55.true))

then-operator : (o : After-binary_of) →
    Follows (goal.at.After-binary_of o).After-leaf_length (Code.Binary o.binary_of.result)
then-operator o =
    let h = then-binary (goal.at.After-binary_of o).Then-next-lt55 in rw (operator-code _ h.0 h.1, ← o.binary_of.ensures) at h.2

-- no more commands have run than the code has bytes
few : (l : At-loop-at) → l.loop-at.count ≤ 65535
few l = omega (arith, l.loop-at.invariant.counts, code-most (code l), (start l).requires.4)

pub loop-at-init : goal.loop-at-init
unfolding code_ok run_code count_code
loop-at-init c =
    let s = c in
    let code = s.args.code.now in
    record {
      left = length code;
      good = rw c.new-stack.ensures.1 s.requires.0;
      runs = ap (run_from (length code) (area_rows s.args.table.now 0) code s.args.state.now s.args.samples.now 0)
          c.new-stack.ensures.0;
      counts = omega arith;
      most = omega (arith, c.new-stack.ensures.1);
    }

pub pop-popped-requires : goal.pop-popped-requires
pop-popped-requires c = (omega (arith, (last _ _ _ _ _ _ _ (at_store c).1).0), c.loop-at.invariant.most)

pub returns-in-95 : goal.returns-in-95
returns-in-95 c =
    let p = c in
    let ends = last _ _ _ _ _ _ _ (at_store (goal.at.returns-in-95 p).In-95).1 in (
      kept p.pop-popped.result.word c.struct_told-1.given.0.1 ∙
          sym (ap (λ (s : List ℤ). get_or s 0 (pos 0)) p.pop-popped.ensures.0) ∙ ends.1,
      ends.2,
    )

pub negate-stack-requires : goal.negate-stack-requires
negate-stack-requires c = ((negated _ _ _ _ _ _ _ Negate (at-negate c)).0, c.loop-at.invariant.most)

pub loop-at-preserved-in-56 : goal.loop-at-preserved-in-56
loop-at-preserved-in-56 c =
    rw (one (goal.at.loop-at-preserved-in-56 c).At-loop-at)
    (moved _ _ _ _ _ _ _ c.negate-stack.ensures.0 c.negate-stack.ensures.1
    (negated _ _ _ _ _ _ _ Negate (at-negate (goal.at.loop-at-preserved-in-56 c).In-56)).1)

pub look_up-stack-requires : goal.look_up-stack-requires
look_up-stack-requires c = (
  (negated _ _ _ _ _ _ _ Table (at_table c)).0,
  c.loop-at.invariant.most,
  (start (goal.at.look_up-stack-requires c).At-loop-at).requires.5,
)

pub loop-at-preserved-in-59 : goal.loop-at-preserved-in-59
loop-at-preserved-in-59 c =
    rw (one (goal.at.loop-at-preserved-in-59 c).At-loop-at)
    (moved _ _ _ _ _ _ _ c.look_up-stack.ensures.0 c.look_up-stack.ensures.1
    (negated _ _ _ _ _ _ _ Table (at_table (goal.at.loop-at-preserved-in-59 c).In-59)).1)

pub choose-stack-requires : goal.choose-stack-requires
choose-stack-requires c = ((chosen _ _ _ _ _ _ _ (at-if c)).0, c.loop-at.invariant.most)

pub loop-at-preserved-in-58 : goal.loop-at-preserved-in-58
loop-at-preserved-in-58 c =
    rw (one (goal.at.loop-at-preserved-in-58 c).At-loop-at)
    (moved _ _ _ _ _ _ _ c.choose-stack.ensures.0 (omega (arith, c.choose-stack.ensures.1))
    (chosen _ _ _ _ _ _ _ (at-if (goal.at.loop-at-preserved-in-58 c).In-58)).1)

pub leaf_word-word-requires : goal.leaf_word-word-requires
leaf_word-word-requires c = (c.in-80-to-82.if-byte-lt80-own.false, omega (arith, c.in-80-to-82.if-byte-lt83-own.true), (at_leaf c).reads)

pub overflow_add-count-then-next-eq95 : goal.overflow_add-count-then-next-eq95
overflow_add-count-then-next-eq95 c = omega (arith, few (goal.at.overflow_add-count-then-next-eq95 c).At-loop-at)

pub returns-then-next-eq95 : goal.returns-then-next-eq95
returns-then-next-eq95 c =
    let o = c in
    let ends = last _ _ _ _ _ _ _ (store _ _ _ _ _ _ _ (inside (goal.at.returns-then-next-eq95 o).After-leaf_length) (follows (goal.at.returns-then-next-eq95 o).After-leaf_length) c.if-next-eq95.true).1 in
    (kept _ o.leaf_word-word.type_inv ∙ ends.1, ends.2)

pub binary_with-stack-requires : goal.binary_with-stack-requires
binary_with-stack-requires c = (
  omega (arith, (combined _ _ _ _ _ _ _ (then-operator c)).0),
  (turn (goal.at.binary_with-stack-requires c).In-80-to-82).loop-at.invariant.most,
)

pub overflow_add-at-then-next-lt55 : goal.overflow_add-at-then-next-lt55
overflow_add-at-then-next-lt55 c = omega (arith, inside (goal.at.overflow_add-at-then-next-lt55 c).After-leaf_length)

pub overflow_add-count-then-next-lt55 : goal.overflow_add-count-then-next-lt55
overflow_add-count-then-next-lt55 c = omega (arith, few (goal.at.overflow_add-count-then-next-lt55 c).At-loop-at)

pub push_far-stack-requires : goal.push_far-stack-requires
push_far-stack-requires c = (c.if-stack-lt-NEAR.false, (at_leaf (goal.at.push_far-stack-requires c).In-80-to-82).high)

-- a leaf that is pushed
pushed-less : (o : After-leaf_length) → let l = o in
    length (code (goal.at.After-leaf_length l).At-loop-at) - (l.loop-at.at + o.leaf_length.result) < length (code (goal.at.After-leaf_length l).At-loop-at) - l.loop-at.at
pushed-less o =
    let l = o in
    omega (arith, inside o, o.leaf_length.ensures, leaf-some (byte_at (code (goal.at.After-leaf_length l).At-loop-at) l.loop-at.at))

pushed : (o : After-leaf_length) → let s = view (turn (goal.at.After-leaf_length o).In-80-to-82).loop-at.stack in
    to_z w32 (of_z w32 o.leaf_word-word.result) ∷ s ≡ o.leaf_word-word.result ∷ s
pushed o = ap (λ (z : ℤ). z ∷ view (turn (goal.at.After-leaf_length o).In-80-to-82).loop-at.stack) (kept _ o.leaf_word-word.type_inv)

pub loop-at-smaller-then-next-lt55 : goal.loop-at-smaller-then-next-lt55
loop-at-smaller-then-next-lt55 c = omega (arith, inside (goal.at.loop-at-smaller-then-next-lt55 c).After-leaf_length)

pub loop-at-preserved-then-next-lt55 : goal.loop-at-preserved-then-next-lt55
loop-at-preserved-then-next-lt55 c =
    let p = c in
    let o = c in
    let w = c in
    rw (one (goal.at.loop-at-preserved-then-next-lt55 o).At-loop-at)
    (moved _ _ _ _ _ _ _ (c.binary_with-stack.ensures.0 ∙
    ap (λ (z : ℤ). on_two (binary_word p.binary_of.result) (z ∷ view (turn (goal.at.loop-at-preserved-then-next-lt55 o).In-80-to-82).loop-at.stack))
    (kept _ w.leaf_word-word.type_inv))
    (omega (arith, c.binary_with-stack.ensures.1)) (combined _ _ _ _ _ _ _ (then-operator (goal.at.loop-at-preserved-then-next-lt55 p).After-binary_of)).1)

pub loop-at-smaller-then-stack-lt-NEAR : goal.loop-at-smaller-then-stack-lt-NEAR
loop-at-smaller-then-stack-lt-NEAR c = pushed-less (goal.at.loop-at-smaller-then-stack-lt-NEAR c).After-leaf_length

pub loop-at-preserved-then-stack-lt-NEAR : goal.loop-at-preserved-then-stack-lt-NEAR
loop-at-preserved-then-stack-lt-NEAR c =
    let o = c in
    moved _ _ _ _ _ _ _ (c.push-stack.ensures.0 ∙ pushed (goal.at.loop-at-preserved-then-stack-lt-NEAR o).After-leaf_length) c.push-stack.ensures.1 (follows (goal.at.loop-at-preserved-then-stack-lt-NEAR o).After-leaf_length)

pub loop-at-smaller-else-stack-lt-NEAR : goal.loop-at-smaller-else-stack-lt-NEAR
loop-at-smaller-else-stack-lt-NEAR c = pushed-less (goal.at.loop-at-smaller-else-stack-lt-NEAR c).After-leaf_length

pub loop-at-preserved-else-stack-lt-NEAR : goal.loop-at-preserved-else-stack-lt-NEAR
loop-at-preserved-else-stack-lt-NEAR c =
    let o = c in
    moved _ _ _ _ _ _ _ (c.push_far-stack.ensures.0 ∙ pushed (goal.at.loop-at-preserved-else-stack-lt-NEAR o).After-leaf_length) c.push_far-stack.ensures.1 (follows (goal.at.loop-at-preserved-else-stack-lt-NEAR o).After-leaf_length)

pub binary-stack-requires : goal.binary-stack-requires
binary-stack-requires c = ((combined _ _ _ _ _ _ _ (at-operator c)).0, c.loop-at.invariant.most)

pub loop-at-preserved : goal.loop-at-preserved
loop-at-preserved c =
    rw (one (goal.at.loop-at-preserved c).At-loop-at)
    (moved _ _ _ _ _ _ _ c.binary-stack.ensures.0 (omega (arith, c.binary-stack.ensures.1))
    (combined _ _ _ _ _ _ _ (at-operator (goal.at.loop-at-preserved c).After-binary_of-in_default)).1)

pub returns : goal.returns
returns c = ended _ _ _ _ _ _ _ c.loop-at-test.false c.loop-at.invariant

pub overflow_add-count : goal.overflow_add-count
overflow_add-count c = omega (arith, few (goal.at.overflow_add-count c).At-loop-at)

pub leaf_length-requires : goal.leaf_length-requires
leaf_length-requires c = tt

pub overflow_add-at-in-80-to-82 : goal.overflow_add-at-in-80-to-82
overflow_add-at-in-80-to-82 c = omega (arith, inside c)

pub bounds-code-at : goal.bounds-code-at
bounds-code-at c = inside (goal.at.bounds-code-at c).After-leaf_length

pub push-stack-requires : goal.push-stack-requires
push-stack-requires c = c.if-stack-lt-NEAR.true
