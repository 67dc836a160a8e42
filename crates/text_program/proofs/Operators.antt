-- An expression by the operator that stands at its start. Assumes nothing.
use mathlib.Core.Path.{◌≡◌, refl, sym, ap, subst, ◌∙◌}
use mathlib.Core.Bool.{Bool, true, false, cond, false≢true}
use mathlib.Core.List.{List}
use mathlib.Core.Logic.{inl}
use Prim.Native.Nat.{ℕ, zero, suc, ◌+◌, ◌-◌, ◌≤◌, ◌<◌}
use native.Mathlib.Numerals.{sub-one}
use native.Mathlib.Omega.{arith}
use lib.Dec.{ltb}
use lib.ListN.{length}
use borrow.Author.Tests.{ltb-true, ltb-false}
use Rattle.model.specs.Rules.Command.{is_operator, operator_at}
use Rattle.model.specs.Rules.Outcome.{Outcome, ◌▷◌, provided, Parsed, parsed}
use Rattle.model.specs.Rules.Program.{Expr, read, operator_here, is_allowed, node, parse_expr}
use Rattle.model.specs.Rules.Width.{read_width}
use Rattle.model.specs.Rules.Word.{byte_at}
use Rattle.model.specs.Says.Written.{OperatorByte}
use Rattle.model.specs.declared.Kind.{Kind}
use Rattle.model.specs.declared.Operator.{Operator}
use Rattle.model.specs.declared.Sampled.{Sampled}
use Rattle.model.proofs.Texts.Picks.{operator-byte}
use Rattle.model.proofs.Texts.Written.{operator-cut, operator-unknown}
use Rattle.text_command.specs.Operator.{restricted, operator_from}

module _ (least : ℕ) (sub : ℕ → Outcome (Parsed Expr)) (text : List ℕ) (at : ℕ) where
  -- An operator that may not stand here is refused as its decoding says.
  here-node : (operator_here text at ▷ λ _. node least sub text at (operator_at text at)) ≡ node least sub text at
      (operator_at text at)
  unfolding operator_here node ◌▷◌ provided
  here-node =
      go (ltb at (length text)) (is_operator (byte_at text at)) (λ e. ltb-false _ _ e)
      (λ e f. (ltb-true _ _ e, λ o. false≢true (sym f ∙ (operator-byte (byte_at text at)).1 o)))
    where
      go : (b t : Bool) → (b ≡ false → length text ≤ at) →
          (b ≡ true → t ≡ false → (at < length text) × ¬ OperatorByte (byte_at text at)) →
          ((provided b 2 (length text) ▷ λ _. provided t 3 at) ▷ λ _. node least sub text at (operator_at text at)) ≡
          node least sub text at (operator_at text at)
      go true true f g = refl
      go true false f g = sym (ap (node least sub text at) ((operator-unknown text at).1 (g refl refl)))
      go false t f g = sym (ap (node least sub text at) ((operator-cut text at).1 (inl (f refl))))

-- A factor below the least is refused as an operand outside its range.
restricted-node : (least : ℕ) (sub : ℕ → Outcome (Parsed Expr)) (text : List ℕ) (at : ℕ) (c : Operator) →
    node least sub text at c ≡ node least sub text at (restricted least c)
unfolding node ◌▷◌ provided
restricted-node least sub text at Operator.EndsEarly = refl
restricted-node least sub text at Operator.Unknown = refl
restricted-node least sub text at Operator.OutOfRange = refl
restricted-node least sub text at (Operator.Constant w) = refl
restricted-node least sub text at (Operator.Read kind x) = go (is_allowed least kind x) refl
  where
    go : (b : Bool) → is_allowed least kind x ≡ b →
        (provided b 5 at ▷ λ _. parsed (read (record { place = at; kind = kind; operands = x })) (at + read_width kind)) ≡
        node least sub text at (cond b (Operator.Read kind x) Operator.OutOfRange)
    go true e = rw e
    go false e = refl
restricted-node least sub text at (Operator.Binary operator) = refl
restricted-node least sub text at (Operator.Unary operator) = refl
restricted-node least sub text at Operator.If = refl

pub parse-node : (least d : ℕ) (text : List ℕ) (at : ℕ) → (d ≡ 0 → ⊥) →
    parse_expr least d text at ≡ node least (λ n. parse_expr least (d - 1) text n) text at (operator_from least text at)
unfolding parse_expr operator_from
parse-node least zero text at h = absurd (h refl)
parse-node least (suc d) text at h =
    rw (sub-one (suc d))
    (here-node least (λ n. parse_expr least d text n) text at ∙
    restricted-node least (λ n. parse_expr least d text n) text at (operator_at text at))

-- An operator that does not end early stands within the text.
pub operator-inside : (least : ℕ) (text : List ℕ) (at : ℕ) {k : Operator} → operator_from least text at ≡ k →
    (Operator.EndsEarly ≡ k → ⊥) → at < length text
unfolding operator_from operator_at
operator-inside least text at {k} e h = go (ltb at (length text)) refl
  where
    go : (b : Bool) → ltb at (length text) ≡ b → at < length text
    go true f = ltb-true _ _ f
    go false f = absurd (h (rw f at e))

-- A read that is left has a factor that is allowed.
pub read-allowed : (least : ℕ) (text : List ℕ) (at : ℕ) {kind : Kind} {x : Sampled} →
    operator_from least text at ≡ Operator.Read kind x → is_allowed least kind x ≡ true
unfolding operator_from
read-allowed least text at {kind} {x} e = go (operator_at text at) e
  where
    allowed : (k : Kind) (y : Sampled) (b : Bool) → is_allowed least k y ≡ b →
        cond b (Operator.Read k y) Operator.OutOfRange ≡ Operator.Read kind x → is_allowed least kind x ≡ true
    allowed k y true a q =
        let same : k ≡ kind = cc in
        let own : y ≡ x = cc in
        subst (λ j. is_allowed least j x ≡ true) same (subst (λ z. is_allowed least k z ≡ true) own a)
    allowed k y false a q = let z : ◌≡◌ {A = ℕ} 0 1 = cc in absurd (omega arith)

    go : (c : Operator) → restricted least c ≡ Operator.Read kind x → is_allowed least kind x ≡ true
    go Operator.EndsEarly q = let z : ◌≡◌ {A = ℕ} 0 1 = cc in absurd (omega arith)
    go Operator.Unknown q = let z : ◌≡◌ {A = ℕ} 0 1 = cc in absurd (omega arith)
    go Operator.OutOfRange q = let z : ◌≡◌ {A = ℕ} 0 1 = cc in absurd (omega arith)
    go (Operator.Constant w) q = let z : ◌≡◌ {A = ℕ} 0 1 = cc in absurd (omega arith)
    go (Operator.Read k y) q = allowed k y (is_allowed least k y) refl q
    go (Operator.Binary operator) q = let z : ◌≡◌ {A = ℕ} 0 1 = cc in absurd (omega arith)
    go (Operator.Unary operator) q = let z : ◌≡◌ {A = ℕ} 0 1 = cc in absurd (omega arith)
    go Operator.If q = let z : ◌≡◌ {A = ℕ} 0 1 = cc in absurd (omega arith)
