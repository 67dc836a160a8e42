-- The measure of an expression from those of its operands: one law for every number of operands. Assumes nothing.
use Prim.Native.Nat.{ℕ, suc, ◌+◌, ◌-◌, ◌≤◌, ◌<◌, max}
use mathlib.Core.Bool.{true}
use mathlib.Core.List.{List, [], ◌∷◌}
use mathlib.Core.Path.{◌≡◌, sym, subst, ◌∙◌}
use native.Mathlib.Omega.{arith}
use lib.ListN.{length}
use Rattle.model.specs.Says.Feasible.{All}
use Rattle.model.specs.Rules.Command.{operator_at}
use Rattle.model.specs.Rules.Program.{Expr, constant, read, binary, unary, choose}
use Rattle.model.specs.Rules.Report.{expr_commands, expr_height}
use Rattle.model.specs.declared.Operator.{Operator}
use Rattle.model.proofs.Images.Bounds.{depth-some}
use Rattle.model.proofs.Images.Bounds.{height-some}
use Rattle.model.proofs.Images.Runs.{commands-most}
use Rattle.image_code.specs.Shape.{lead_of}
use Rattle.image_code.specs.Code.{SpellsAll, NestsIn}
use Rattle.image_code.proofs.Operands.{commands_of_all, height_of_all, opened}
use Rattle.model.proofs.Texts.Legal.{expr-code}
use Rattle.image_code.proofs.Spans.{inside}
use Rattle.report.specs.Measure.{Nests, MeasureIs, Measures, Joined, Operated}
use Rattle.report.specs.declared.Measure.{Measure}

-- k expressions stand at `at`, each nests at most d deep.
pub record NestsAll (d : ℕ) (text : List ℕ) (at k : ℕ) : Type 0 where
  pub exprs : List Expr
  pub next : ℕ
  pub spelled : SpellsAll text at exprs next
  pub deep : All (NestsIn d) exprs
  pub count : length exprs ≡ k

module _ {d : ℕ} {text : List ℕ} {at : ℕ} (c : Operator) (q : operator_at text at ≡ c) (r : Nests d text at) where
  pub positive : 0 < d
  positive = omega (arith, depth-some r.expr, r.deep)

  pub operands : NestsAll (d - 1) text (at + (lead_of c).width) (lead_of c).arity
  operands =
      let o = opened c q r.spelled in
      let p = positive in
      record {
        exprs = o.operands;
        next = r.next;
        spelled = o.spelled;
        deep = o.deep (d - 1) (omega (arith, r.deep));
        count = o.arity;
      }

  pub operator-stands : (lead_of c).operator ≡ true
  operator-stands = (opened c q r.spelled).operator

-- The first of them, and those after it.
record Split (d : ℕ) (text : List ℕ) (at k : ℕ) : Type 0 where
  first : Nests d text at
  rest : NestsAll d text first.next k

module _ {d : ℕ} {text : List ℕ} {at k : ℕ} (r : NestsAll d text at (suc k)) where
  split : Split d text at k
  split = go r.exprs r.spelled r.deep r.count
    where
      go : (es : List Expr) → SpellsAll text at es r.next → All (NestsIn d) es → length es ≡ suc k → Split d text at k
      go [] s h e = absurd (omega arith)
      go (x ∷ xs) (SpellsAll.more u v) h e =
          record {
            first = record { expr = x; next = _; spelled = u; deep = h.0 };
            rest = record { exprs = xs; next = r.next; spelled = v; deep = h.1; count = omega arith };
          }

  pub first-nests : Nests d text at
  first-nests = split.first

  pub rest-nests : {m : Measure} → Measures text at m → NestsAll d text m.next k
  rest-nests {m} w =
      let s = split in
      let t = w.tells s.first.expr s.first.next s.first.spelled in
      subst (λ (n : ℕ). NestsAll d text n k) (sym t.goes) s.rest

-- Measures are small: an expression has no more commands than bytes, and needs no more words than it has commands.
height-most : (e : Expr) → expr_height e ≤ expr_commands e
height-most (constant w) = omega arith
height-most (read ρ) = omega arith
height-most (binary operator x y) = omega (arith, height-most x, height-most y, height-some x)
height-most (unary operator x) = omega (arith, height-most x)
height-most (choose x y z) = omega (arith, height-most x, height-most y, height-most z, height-some x, height-some y)

pub record Small (text : List ℕ) (at : ℕ) (m : Measure) : Type 0 where
  pub fits : at + m.commands ≤ m.next
  pub within : m.next ≤ length text
  pub low : m.height ≤ m.commands

pub small : {d : ℕ} {text : List ℕ} {at : ℕ} {m : Measure} → Nests d text at → Measures text at m → Small text at m
small {m = m} r w =
    let t = w.tells r.expr r.next r.spelled in
    record {
      fits = omega (arith, t.goes, t.commands, commands-most r.expr, expr-code r.spelled);
      within = omega (arith, t.goes, inside r.spelled);
      low = omega (arith, t.commands, t.height, height-most r.expr);
    }

-- The measure of k expressions one after another.
pub record MeasuresAll (text : List ℕ) (at k : ℕ) (m : Measure) : Type 0 where
  pub tells : (es : List Expr) (n : ℕ) → SpellsAll text at es n → length es ≡ k →
      (m.next ≡ n) × (m.commands ≡ commands_of_all es) × (m.height ≡ height_of_all es)

some-height : (es : List Expr) → 0 < length es → 1 ≤ height_of_all es
unfolding height_of_all
some-height [] lt = absurd (omega arith)
some-height (x ∷ es) lt = omega arith

module _ {text : List ℕ} {at : ℕ} where
  pub measures-one : {m : Measure} → Measures text at m → MeasuresAll text at 1 m
  unfolding commands_of_all height_of_all
  measures-one {m} w = record { tells = go }
    where
      go : (es : List Expr) (n : ℕ) → SpellsAll text at es n → length es ≡ 1 →
          (m.next ≡ n) × (m.commands ≡ commands_of_all es) × (m.height ≡ height_of_all es)
      go [] n s e = absurd (omega arith)
      go (x ∷ []) n (SpellsAll.more u SpellsAll.none) e =
          let t = w.tells x n u in
          (t.goes, omega (arith, t.commands), omega (arith, t.height, height-some x))
      go (x ∷ y ∷ es) n s e = absurd (omega arith)

  pub measures-more : {k : ℕ} {a b r : Measure} → Measures text at a → MeasuresAll text a.next k b → Joined a b r →
      MeasuresAll text at (suc k) r
  unfolding commands_of_all height_of_all
  measures-more {k} {a} {b} {r} w ws j = record { tells = go }
    where
      go : (es : List Expr) (n : ℕ) → SpellsAll text at es n → length es ≡ suc k →
          (r.next ≡ n) × (r.commands ≡ commands_of_all es) × (r.height ≡ height_of_all es)
      go [] n s e = absurd (omega arith)
      go (x ∷ xs) n (SpellsAll.more {m = m} u v) e =
          let t = w.tells x m u in
          let ts = ws.tells xs n (subst (λ (i : ℕ). SpellsAll text i xs n) (sym t.goes) v) (omega arith) in (
            j.goes ∙ ts.0,
            omega (arith, j.commands, t.commands, ts.1),
            omega (arith, j.height, t.height, ts.2),
          )

  -- The operator after its operands.
  pub measures-last : {m r : Measure} (c : Operator) → operator_at text at ≡ c → 0 < (lead_of c).arity →
      MeasuresAll text (at + (lead_of c).width) (lead_of c).arity m → Operated m r → Measures text at r
  measures-last c q lt ws p =
      record {
        tells = λ e n u.
            let o = opened c q u in
            let t = ws.tells o.operands n o.spelled o.arity in
            record {
              goes = p.goes ∙ t.0;
              commands = omega (arith, p.commands, t.1, o.commands);
              height = omega (arith, p.height, t.2, o.height, some-height o.operands (omega (arith, o.arity)));
            };
      }

  -- A leaf.
  pub measures-leaf : {m : Measure} (c : Operator) → operator_at text at ≡ c → (lead_of c).arity ≡ 0 →
      m.next ≡ at + (lead_of c).width →
      m.commands ≡ 1 → m.height ≡ 1 → Measures text at m
  unfolding commands_of_all height_of_all
  measures-leaf {m} c q z goes one low =
      record {
        tells = λ e n u.
            let o = opened c q u in
            go e n o.operands o.spelled (o.arity ∙ z) o.commands o.height;
      }
    where
      go : (e : Expr) (n : ℕ) (es : List Expr) → SpellsAll text (at + (lead_of c).width) es n → length es ≡ 0 →
          expr_commands e ≡ commands_of_all es + 1 → expr_height e ≡ max 1 (height_of_all es) → MeasureIs e n m
      go e n [] SpellsAll.none h a b =
          record { goes = goes; commands = omega (arith, one, a); height = omega (arith, low, b) }
      go e n (x ∷ es) s h a b = absurd (omega arith)
