-- An expression as its first command and its operands: one law for every number of operands. Assumes nothing.
use Prim.Native.Nat.{ℕ, suc, ◌+◌, ◌-◌, ◌≤◌, ◌<◌, max}
use mathlib.Core.Bool.{true, false≢true}
use mathlib.Core.List.{List, [], ◌∷◌, ◌++◌, append_assoc, append-nil}
use mathlib.Core.Path.{◌≡◌, refl, sym, ap, subst, ◌∙◌}
use native.Mathlib.Omega.{arith}
use lib.IntN.{ℤ}
use lib.ListN.{length, length-append}
use lib.Seq.{sets, length-sets}
use types.Run.{OneOf, miss}
use denote.Enum.Declared.{tag_of, declared}
use Rattle.model.specs.Says.Feasible.{All}
use Rattle.model.specs.Rules.Command.{operator_at}
use Rattle.model.specs.Rules.Image.{expr_code}
use Rattle.model.specs.Rules.Program.{least_factor, Expr}
use Rattle.model.specs.Rules.Report.{expr_commands, expr_height}
use Rattle.model.specs.Rules.Word.{word_bytes, four_bytes}
use Rattle.model.specs.declared.Operator.{Operator}
use Rattle.model.specs.Says.Grammar.{depth}
use Rattle.model.proofs.Texts.Legal.{read-width}
use Rattle.model.proofs.Images.Bounds.{depth-some}
use Rattle.model.specs.contracts.Operator.{enum}
use Rattle.model.proofs.Texts.Commands.{operator-sound}
use Rattle.model.proofs.Images.Bounds.{height-some}
use Rattle.model.proofs.Images.Stretches.{sets-append}
use Rattle.model.proofs.Texts.Written.{operator-decoded}
use Rattle.model.specs.Says.Grammar.{Spells}
use Rattle.text_command.specs.Operator.{operands_of, OperatorStands}
use Rattle.image_code.specs.Code.{Puts, SpellsAll, none, more, code_of_all, NestsIn, Rooms, EmitsAll}
use Rattle.image_code.specs.Shape.{Lead, no_lead, lead_of}

-- An expression stands at `at` that nests at most d deep, and n bytes have space for its code from `to` on.
pub record Room (d : ℕ) (text : List ℕ) (at n to : ℕ) : Type 0 where
  pub expr : Expr
  pub next : ℕ
  pub spelled : Spells least_factor text at expr next
  pub deep : depth expr ≤ d
  pub fits : to + length (expr_code expr) ≤ n

-- l' is l with the code of the expression that stands at `at`.
pub record Emits (text : List ℕ) (at : ℕ) (l : List ℕ) (to : ℕ) (l' : List ℕ) (next end : ℕ) : Type 0 where
  pub puts : (e : Expr) (n : ℕ) → Spells least_factor text at e n → Puts l to (expr_code e) n l' next end

-- Their commands, and the most words that they have on the stack one after another, each above the values of those before it.
unfoldable pub commands_of_all : List Expr → ℕ
commands_of_all [] = 0
commands_of_all (x ∷ xs) = expr_commands x + commands_of_all xs

unfoldable pub height_of_all : List Expr → ℕ
height_of_all [] = 0
height_of_all (x ∷ xs) = max (expr_height x) (height_of_all xs + 1)

-- An expression, taken apart.
pub record Opened (text : List ℕ) (at : ℕ) (e : Expr) (n : ℕ) (c : Operator) : Type 0 where
  pub operator : (lead_of c).operator ≡ true
  pub operands : List Expr
  pub spelled : SpellsAll text (at + (lead_of c).width) operands n
  pub arity : length operands ≡ (lead_of c).arity
  pub code : expr_code e ≡ code_of_all operands ++ (lead_of c).last
  pub commands : expr_commands e ≡ commands_of_all operands + 1
  pub height : expr_height e ≡ max 1 (height_of_all operands)
  pub deep : (d : ℕ) → depth e ≤ suc d → All (NestsIn d) operands

module _ {text : List ℕ} where
  opens : {at n : ℕ} {e : Expr} → Spells least_factor text at e n → (c : Operator) × (operator_at text at ≡ c) ×
      Opened text at e n c
  unfolding expr_code code_of_all commands_of_all height_of_all
  opens (Spells.constants {w = w} e) = (
    Operator.Constant w,
    operator-decoded e,
    record {
      operator = refl;
      operands = [];
      spelled = none;
      arity = refl;
      code = refl;
      commands = refl;
      height = refl;
      deep =
          λ d h. tt;
    },
  )
  opens (Spells.reads {kind = kind} {x = x} e a) = (
    Operator.Read kind x,
    operator-decoded e,
    record {
      operator = refl;
      operands = [];
      spelled = none;
      arity = refl;
      code = refl;
      commands = refl;
      height = refl;
      deep =
          λ d h. tt;
    },
  )
  opens (Spells.two {operator = operator} {x = x} {y = y} e u v) = (
    Operator.Binary operator,
    operator-decoded e,
    record {
      operator = refl;
      operands = x ∷ y ∷ [];
      spelled = more u (more v none);
      arity = refl;
      code = simp (append_assoc, append-nil);
      commands = omega arith;
      height = omega (arith, height-some x, height-some y);
      deep = λ d h. (omega arith, (omega arith, tt));
    },
  )
  opens (Spells.one {operator = operator} {x = x} e u) = (
    Operator.Unary operator,
    operator-decoded e,
    record {
      operator = refl;
      operands = x ∷ [];
      spelled = more u none;
      arity = refl;
      code = simp append-nil;
      commands = omega arith;
      height = omega (arith, height-some x);
      deep = λ d h. (omega arith, tt);
    },
  )
  opens (Spells.three {x = x} {y = y} {z = z} e u v w) = (
    Operator.If,
    operator-decoded e,
    record {
      operator = refl;
      operands = x ∷ y ∷ z ∷ [];
      spelled = more u (more v (more w none));
      arity = refl;
      code = simp (append_assoc, append-nil);
      commands = omega arith;
      height = omega (arith, height-some x, height-some y, height-some z);
      deep = λ d h. (omega arith, (omega arith, (omega arith, tt)));
    },
  )

  pub spells-stands : {at n : ℕ} {e : Expr} → Spells least_factor text at e n → OperatorStands text at
  spells-stands (Spells.constants w) = record { operator = _; written = w }
  spells-stands (Spells.reads w a) = record { operator = _; written = w }
  spells-stands (Spells.two w x y) = record { operator = _; written = w }
  spells-stands (Spells.one w x) = record { operator = _; written = w }
  spells-stands (Spells.three w x y z) = record { operator = _; written = w }

  pub opened : {at n : ℕ} {e : Expr} (c : Operator) → operator_at text at ≡ c → Spells least_factor text at e n →
      Opened text at e n c
  opened {at} {n} {e} c q u = let o = opens u in subst (Opened text at e n) (sym o.1 ∙ q) o.2

pub puts-length : {l l' xs : List ℕ} {to m next end : ℕ} → Puts l to xs m l' next end → length l' ≡ length l
puts-length p = ap length p.holds ∙ simp length-sets

module _ {l l₁ l₂ xs ys : List ℕ} {to m n₁ e₁ k n₂ e₂ : ℕ} (p : Puts l to xs m l₁ n₁ e₁) (q : Puts l₁ e₁ ys k l₂ n₂ e₂) where
  pub join : Puts l to (xs ++ ys) k l₂ n₂ e₂
  join =
      record {
        goes = q.goes;
        ends = rw length-append (omega arith);
        holds =
            rw sets-append (q.holds ∙ ap (λ (z : List ℕ). sets z e₁ ys) p.holds ∙
            ap (λ (j : ℕ). sets (sets l to xs) j ys) p.ends);
      }

module _ {d : ℕ} {text : List ℕ} {at n to : ℕ} (c : Operator) (q : operator_at text at ≡ c) (r : Room d text at n to) where
  pub positive : 0 < d
  positive = omega (arith, depth-some r.expr, r.deep)

  pub rooms : Rooms (d - 1) text (at + (lead_of c).width) n to (lead_of c).arity (length (lead_of c).last)
  rooms =
      let o = opened c q r.spelled in
      let p = positive in
      record {
        exprs = o.operands;
        next = r.next;
        spelled = o.spelled;
        deep = o.deep (d - 1) (omega (arith, r.deep));
        count = o.arity;
        fits = omega (arith, r.fits, simp length-append at (ap length o.code));
      }

  pub operator-stands : (lead_of c).operator ≡ true
  operator-stands = (opened c q r.spelled).operator

pub all-length : (x : Expr) (xs : List Expr) → length (code_of_all (x ∷ xs)) ≡ length (expr_code x) + length (code_of_all xs)
unfolding code_of_all
all-length x xs = length-append (expr_code x) (code_of_all xs)

-- The first of them, and those after it.
pub record Split (d : ℕ) (text : List ℕ) (at n to k t : ℕ) : Type 0 where
  pub first : Room d text at n to
  pub rest : Rooms d text first.next n (to + length (expr_code first.expr)) k t

module _ {d : ℕ} {text : List ℕ} {at n to k t : ℕ} where
  split : Rooms d text at n to (suc k) t → Split d text at n to k t
  split r = go r.exprs r.spelled r.deep r.count r.fits
    where
      go : (es : List Expr) → SpellsAll text at es r.next → All (NestsIn d) es → length es ≡ suc k →
          to + (length (code_of_all es) + t) ≤ n → Split d text at n to k t
      go [] s h e f = absurd (omega arith)
      go (x ∷ xs) (more u v) h e f =
          record {
            first = record { expr = x; next = _; spelled = u; deep = h.0; fits = omega (arith, f, all-length x xs) };
            rest =
                record {
                  exprs = xs;
                  next = r.next;
                  spelled = v;
                  deep = h.1;
                  count = omega arith;
                  fits = omega (arith, f, all-length x xs);
                };
          }

  pub first-room : Rooms d text at n to (suc k) t → Room d text at n to
  first-room r = (split r).first

pub rest-rooms : {d : ℕ} {text : List ℕ} {at to k t n₁ e₁ : ℕ} {l l₁ : List ℕ} → Rooms d text at (length l) to (suc k) t →
    Emits text at l to l₁ n₁ e₁ → Rooms d text n₁ (length l₁) e₁ k t
rest-rooms {d = d} {text = text} {k = k} {t = t} {n₁ = n₁} {e₁ = e₁} {l₁ = l₁} r w =
    let f = (split r).first in
    let p = w.puts f.expr f.next f.spelled in
    let q = (split r).rest in
    record {
      exprs = q.exprs;
      next = q.next;
      spelled = rw p.goes q.spelled;
      deep = q.deep;
      count = q.count;
      fits = omega (arith, p.ends, puts-length p, q.fits);
    }

module _ {text : List ℕ} {at to : ℕ} {l : List ℕ} where
  pub emits_none : EmitsAll text at 0 l to l at to
  unfolding code_of_all
  emits_none = record { puts = go }
    where
      go : (es : List Expr) (n : ℕ) → SpellsAll text at es n → length es ≡ 0 → Puts l to (code_of_all es) n l at to
      go [] n none e = record { goes = refl; ends = omega arith; holds = refl }
      go (x ∷ xs) n (more u v) e = absurd (omega arith)

  pub emits-more : {k n₁ e₁ n₂ e₂ : ℕ} {l₁ l₂ : List ℕ} → Emits text at l to l₁ n₁ e₁ → EmitsAll text n₁ k l₁ e₁ l₂ n₂ e₂ →
      EmitsAll text at (suc k) l to l₂ n₂ e₂
  unfolding code_of_all
  emits-more {k = k} {n₂ = n₂} {e₂ = e₂} {l₂ = l₂} w ws = record { puts = go }
    where
      go : (es : List Expr) (n : ℕ) → SpellsAll text at es n → length es ≡ suc k → Puts l to (code_of_all es) n l₂ n₂ e₂
      go [] n none e = absurd (omega arith)
      go (x ∷ xs) n (more {m = m} u v) e =
          let p = w.puts x m u in
          join p (ws.puts xs n (subst (λ (a : ℕ). SpellsAll text a xs n) (sym p.goes) v) (omega arith))

  -- The operator after its operands.
  pub emits-last : {n₁ e₁ n₂ e₂ : ℕ} {l₁ l₂ : List ℕ} (c : Operator) → operator_at text at ≡ c →
      EmitsAll text (at + (lead_of c).width) (lead_of c).arity l to l₁ n₁ e₁ → Puts l₁ e₁ (lead_of c).last n₁ l₂ n₂ e₂ →
      Emits text at l to l₂ n₂ e₂
  emits-last c q ws p =
      record {
        puts = λ e n u.
            let o = opened c q u in
            let f = ws.puts o.operands n o.spelled o.arity in
            let g = join f p in
            record { goes = g.goes ∙ f.goes; ends = rw o.code g.ends; holds = rw o.code g.holds };
      }

-- What is left after the code of them.
pub after-rooms : {d : ℕ} {text : List ℕ} {at to k t n₁ e₁ : ℕ} {l l₁ : List ℕ} → Rooms d text at (length l) to k t →
    EmitsAll text at k l to l₁ n₁ e₁ → e₁ + t ≤ length l₁
after-rooms r w =
    let p = w.puts r.exprs r.next r.spelled r.count in
    omega (arith, p.ends, puts-length p, r.fits)

pub without : {d : ℕ} {text : List ℕ} {at n to k t : ℕ} → Rooms d text at n to k t → Rooms d text at n to k 0
without r =
    record {
      exprs = r.exprs;
      next = r.next;
      spelled = r.spelled;
      deep = r.deep;
      count = r.count;
      fits = omega (arith, r.fits);
    }

-- One alone.
pub alone : {d : ℕ} {text : List ℕ} {at n to : ℕ} → Room d text at n to → Rooms d text at n to 1 0
unfolding code_of_all
alone r =
    record {
      exprs = r.expr ∷ [];
      next = r.next;
      spelled = more r.spelled none;
      deep = (r.deep, tt);
      count = refl;
      fits = omega (arith, r.fits, all-length r.expr []);
    }

pub emits-alone : {text : List ℕ} {at to n e : ℕ} {l l' : List ℕ} → EmitsAll text at 1 l to l' n e → Emits text at l to l' n e
unfolding code_of_all
emits-alone w = record { puts = λ x n u. rw (append-nil (expr_code x)) at (w.puts (x ∷ []) n (more u none) refl) }

-- How many operands, and how wide what has some is.
pub arity-is : (c : Operator) → (lead_of c).arity ≡ operands_of c
unfolding operands_of
arity-is Operator.EndsEarly = refl
arity-is Operator.Unknown = refl
arity-is Operator.OutOfRange = refl
arity-is (Operator.Constant w) = refl
arity-is (Operator.Read kind x) = refl
arity-is (Operator.Binary operator) = refl
arity-is (Operator.Unary operator) = refl
arity-is Operator.If = refl

pub one-wide : (c : Operator) → (operands_of c ≡ 0 → ⊥) → (lead_of c).width ≡ 1
unfolding operands_of
one-wide Operator.EndsEarly h = refl
one-wide Operator.Unknown h = refl
one-wide Operator.OutOfRange h = refl
one-wide (Operator.Constant w) h = absurd (h refl)
one-wide (Operator.Read kind x) h = absurd (h refl)
one-wide (Operator.Binary operator) h = refl
one-wide (Operator.Unary operator) h = refl
one-wide Operator.If h = refl

-- What is no operator.
abbrev pub others : List ℕ
others = 0 ∷ 1 ∷ 2 ∷ []

pub no-lead : (c : Operator) → OneOf others (tag_of (declared enum) c) → lead_of c ≡ no_lead
no-lead Operator.EndsEarly h = refl
no-lead Operator.Unknown h = refl
no-lead Operator.OutOfRange h = refl
no-lead (Operator.Constant w) h = absurd (miss others 3 tt h)
no-lead (Operator.Read kind x) h = absurd (miss others 4 tt h)
no-lead (Operator.Binary operator) h = absurd (miss others 5 tt h)
no-lead (Operator.Unary operator) h = absurd (miss others 6 tt h)
no-lead Operator.If h = absurd (miss others 7 tt h)

pub no-operator : (c : Operator) → OneOf others (tag_of (declared enum) c) → (lead_of c).operator ≡ true → ⊥
no-operator c h e = false≢true (sym (ap (λ (x : Lead). x.operator) (no-lead c h)) ∙ e)

-- What a command of an expression spans is some bytes of the text.
pub spans : (text : List ℕ) (at : ℕ) (c : Operator) → operator_at text at ≡ c → (lead_of c).operator ≡ true →
    (1 ≤ (lead_of c).width) × (at + (lead_of c).width ≤ length text)
spans text at Operator.EndsEarly q e = absurd (false≢true e)
spans text at Operator.Unknown q e = absurd (false≢true e)
spans text at Operator.OutOfRange q e = absurd (false≢true e)
spans text at (Operator.Constant w) q e = (omega arith, (operator-sound text at _ q).1)
spans text at (Operator.Read kind x) q e = (omega (arith, read-width kind), (operator-sound text at _ q).1)
spans text at (Operator.Binary operator) q e = (omega arith, operator-sound text at _ q)
spans text at (Operator.Unary operator) q e = (omega arith, operator-sound text at _ q)
spans text at Operator.If q e = (omega arith, operator-sound text at _ q)

pub word-length : (w : ℤ) → length (word_bytes w) ≡ 4
unfolding word_bytes four_bytes
word-length w = refl

pub same_word : {l l' : List ℕ} {to n next end : ℕ} {w z : ℤ} → z ≡ w → Puts l to (0x50 ∷ word_bytes z) n l' next end →
    Puts l to (0x50 ∷ word_bytes w) n l' next end
same_word {l} {l'} {to} {n} {next} {end} e p = subst (λ (v : ℤ). Puts l to (0x50 ∷ word_bytes v) n l' next end) e p
