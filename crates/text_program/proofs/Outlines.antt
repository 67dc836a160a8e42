-- What an operator passes over, with its operands. Assumes nothing.
use Rattle.std.specs.Prelude.{Result}
use Prim.Native.Nat.{ℕ, suc, ◌+◌}
use mathlib.Core.Bool.{true}
use mathlib.Core.List.{List, map-append, append-nil}
use mathlib.Core.Path.{◌≡◌, refl, sym, ap, ◌∙◌}
use native.Mathlib.Omega.{arith}
use lib.ListN.{length, length-append}
use Rattle.model.specs.Rules.Image.{expr_code}
use Rattle.model.specs.Rules.Outcome.{Outcome, accepted, refused, ◌▷◌, provided, Parsed}
use Rattle.model.specs.Rules.Program.{Expr, is_allowed, node, reads_of}
use Rattle.model.specs.Rules.Word.{word_bytes, four_bytes}
use Rattle.model.specs.declared.Kind.{Kind}
use Rattle.model.specs.declared.Operator.{Operator}
use Rattle.model.specs.declared.Sampled.{Sampled}
use Rattle.text_command.specs.Operator.{operands_of, lookups_of}
use Rattle.text_program.specs.declared.Walk.{Walk}
use Rattle.text_program.specs.Walks.{
  places_of,
  Outline,
  outline,
  outline_of,
  followed,
  outlines,
  leaf_of,
  WalksBy,
  Walks,
}
use Rattle.model.specs.declared.Fault.{Fault}
use Rattle.text_program.proofs.Walks.{alike}

abbrev mapped : (Outline → Outline) → Outcome Outline → Outcome Outline
mapped f (accepted x) = accepted (f x)
mapped f (refused g) = refused g

-- The operator's own byte of code, and whether it is a TABLE.
abbrev operated : ℕ → Outline → Outline
operated k x = record { places = x.places; code = x.code + 1; lookups = k + x.lookups; next = x.next }

module _ (sub : ℕ → Outcome (Parsed Expr)) where
  -- An operand, and what comes of it and of those after it.
  operand : (n at : ℕ) (k : Parsed Expr → Outcome (Parsed Expr)) (f : Outline → Outline) →
      ((x : Parsed Expr) → outline_of (k x) ≡ mapped (λ y. f (followed (outline x) y)) (outlines sub n x.next)) →
      outline_of (sub at ▷ k) ≡ mapped f (outlines sub (suc n) at)
  unfolding outlines ◌▷◌
  operand n at k f h = go (sub at)
    where
      after : (x : Outline) (q : Outcome Outline) →
          mapped (λ y. f (followed x y)) q ≡ mapped f (q ▷ λ y. accepted (followed x y))
      after x (accepted y) = refl
      after x (refused g) = refl

      go : (o : Outcome (Parsed Expr)) →
          outline_of (o ▷ k) ≡ mapped f (outline_of o ▷ λ x. outlines sub n x.next ▷ λ y. accepted (followed x y))
      go (accepted x) = h x ∙ after (outline x) (outlines sub n x.next)
      go (refused g) = refl

  module _ (least : ℕ) (text : List ℕ) (at : ℕ) where
    pub leaf-outline : (o : Operator) → operands_of o ≡ 0 →
        ((kind : Kind) (x : Sampled) → o ≡ Operator.Read kind x → is_allowed least kind x ≡ true) →
        outline_of (node least sub text at o) ≡ leaf_of (length text) at o
    unfolding node operands_of leaf_of ◌▷◌ provided reads_of expr_code word_bytes four_bytes
    leaf-outline Operator.EndsEarly e h = refl
    leaf-outline Operator.Unknown e h = refl
    leaf-outline Operator.OutOfRange e h = refl
    leaf-outline (Operator.Constant w) e h = refl
    leaf-outline (Operator.Read kind x) e h = rw (h kind x refl) refl
    leaf-outline (Operator.Binary operator) e h = absurd (omega arith)
    leaf-outline (Operator.Unary operator) e h = absurd (omega arith)
    leaf-outline Operator.If e h = absurd (omega arith)

    pub operator-outline : (o : Operator) → (operands_of o ≡ 0 → ⊥) →
        outline_of (node least sub text at o) ≡ mapped (operated (lookups_of o)) (outlines sub (operands_of o) (at + 1))
    unfolding node operands_of lookups_of outlines reads_of expr_code
    operator-outline Operator.EndsEarly h = absurd (h refl)
    operator-outline Operator.Unknown h = absurd (h refl)
    operator-outline Operator.OutOfRange h = absurd (h refl)
    operator-outline (Operator.Constant w) h = absurd (h refl)
    operator-outline (Operator.Read kind x) h = absurd (h refl)
    operator-outline (Operator.Unary operator) h =
        operand 0 _ _ _ (λ x. ap {B = Outcome Outline} accepted
        (alike (sym (append-nil (places_of (reads_of x.value)))) (simp length-append (omega arith)) (omega arith)))
    operator-outline (Operator.Binary operator) h =
        operand 1 _ _ _ (λ x. operand 0 _ _ _ (λ y. ap {B = Outcome Outline} accepted
        (alike (simp (map-append, append-nil)) (simp length-append (omega arith)) (omega arith))))
    operator-outline Operator.If h =
        operand 2 _ _ _ (λ x. operand 1 _ _ _ (λ y. operand 0 _ _ _ (λ z. ap {B = Outcome Outline} accepted
        (alike (simp (map-append, append-nil)) (simp length-append (omega arith)) (omega arith)))))

pub walks-operated : (o : Outcome Outline) {l l' : List ℕ} {count to looks : ℕ} {r : Result Walk Fault} (k : ℕ) →
    Walks o l count (to + 1) (looks + k) l' r → Walks (mapped (operated k) o) l count to looks l' r
unfolding WalksBy
walks-operated (accepted x) k w =
    let m = w.by.2 in
    record {
      by = (
        w.by.0,
        w.by.1,
        record {
          goes = m.goes;
          counts = m.counts;
          codes = omega (arith, m.codes);
          looked = omega (arith, m.looked);
          holds = m.holds;
        },
      );
    }
walks-operated (refused f) k w = record { by = w.by }
