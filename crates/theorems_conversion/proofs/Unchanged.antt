-- A legal text with no factor of 1, rewritten, is what it was; so that a text rewritten twice is the text rewritten once.
-- Assumes nothing.
use Prim.Native.Nat.{ℕ, zero, suc, ◌+◌, ◌≤◌}
use mathlib.Core.Bool.{false}
use mathlib.Core.List.{List, [], ◌∷◌, ◌++◌}
use mathlib.Core.Path.{◌≡◌, refl, sym, ap, ◌∙◌}
use native.Mathlib.Numerals.{add-one}
use native.Mathlib.Omega.{arith}
use borrow.Author.Tests.{ne_eqb}
use lib.Dec.{eqb}
use lib.ListN.{length, take, drop, take-append-drop, drop_of_length-le}
use lib.Seq.{drop-cons, drop-drop}
use Rattle.model.specs.Rules.Rewrite.{single_kind}
use Rattle.model.specs.Says.Grammar.{Allowed, Spells, SpellsLinks, DeclaresOne, Declares, LegalWith, LegalProgram}
use Rattle.model.specs.Rules.Program.{Program, Expr, Link, least_factor}
use Rattle.model.specs.Rules.Rewrite.{
  Command,
  of_declaration,
  of_operator,
  operator_width,
  width_of,
  operator_after,
  bytes_after,
  rewrite_at,
  rewrite_from,
  rewrite,
}
use Rattle.model.specs.Rules.Width.{read_width}
use Rattle.model.specs.Rules.Word.{byte_at}
use Rattle.model.specs.Says.Written.{IsPlain, IsSampled, read_byte, DeclarationWritten, OperatorWritten}
use Rattle.model.specs.declared.Declaration.TheVariants as Declaration
use Rattle.model.specs.declared.Kind.{Kind}
use Rattle.model.specs.declared.Kind.TheVariants.{Now, Last, When, LastWhen, Current}
use Rattle.model.specs.declared.Operator.{Operator}
use Rattle.model.specs.declared.Sampled.{Sampled}
use Rattle.theorems_conversion.proofs.Rewritten.{
  CommandWritten,
  command-decoded,
  command-inside,
  none_after,
  rewrite-legal,
}

module _ (text : List ℕ) where
  abbrev Unrewritten : ℕ → ℕ → Type 0
  Unrewritten at left = length text ≤ left + at → rewrite_from left text at ≡ drop at text

  -- From `at` on nothing is changed.
  record Same (at : ℕ) : Type 0 where
    holds : (left : ℕ) → Unrewritten at left

  -- One command back.
  command-same : {at : ℕ} (c : Command) → CommandWritten text at c →
      bytes_after c (take (width_of c) (drop at text)) ≡ take (width_of c) (drop at text) → Same (at + width_of c) → Same at
  unfolding rewrite_from rewrite_at
  command-same {at} c w e f = record { holds = go }
    where
      n : ℕ
      n = width_of c

      go : (left : ℕ) → Unrewritten at left
      go zero le = absurd (omega (arith, command-inside text at c w))
      go (suc left) le =
          ap (λ d. rewrite_at text at d ++ rewrite_from left text (at + width_of d)) (command-decoded text at c w) ∙
          ap (λ l. l ++ rewrite_from left text (at + n)) e ∙
          ap (λ l. take n (drop at text) ++ l)
          (f.holds left (omega (arith, (command-inside text at c w).1)) ∙ sym (drop-drop n at text)) ∙
          take-append-drop n (drop at text)

  kept_same : {at : ℕ} (c : Command) → CommandWritten text at c → ((bytes : List ℕ) → bytes_after c bytes ≡ bytes) →
      Same (at + width_of c) → Same at
  kept_same c w same f = command-same c w (same _) f

  -- NOW and LAST are written as they stand; the others have a factor of 2 at least.
  two_bytes : (at : ℕ) → at + 2 ≤ length text → byte_at text at ∷ byte_at text (at + 1) ∷ [] ≡ take 2 (drop at text)
  two_bytes at le =
      rw (drop-cons text at 0 (omega arith), drop-cons text (suc at) 0 (omega arith), add-one at)

  pub plain-bytes : (at : ℕ) (kind : Kind) → IsPlain kind → at + 2 ≤ length text → byte_at text at ≡ read_byte kind →
      read_byte (single_kind kind) ∷ byte_at text (at + 1) ∷ [] ≡ take (read_width kind) (drop at text)
  plain-bytes at Now d h b = ap (λ a. a ∷ byte_at text (at + 1) ∷ []) (sym b) ∙ two_bytes at h
  plain-bytes at Last d h b = ap (λ a. a ∷ byte_at text (at + 1) ∷ []) (sym b) ∙ two_bytes at h
  plain-bytes at When d h b = absurd d
  plain-bytes at LastWhen d h b = absurd d
  plain-bytes at Current d h b = absurd d

  factor-two : (kind : Kind) (x : Sampled) → IsSampled kind → Allowed least_factor kind x → eqb x.factor 1 ≡ false
  factor-two Now x d a = absurd d
  factor-two Last x d a = absurd d
  factor-two When x d a = ne_eqb x.factor 1 (λ e. omega arith)
  factor-two LastWhen x d a = ne_eqb x.factor 1 (λ e. omega arith)
  factor-two Current x d a = ne_eqb x.factor 1 (λ e. omega arith)

  abbrev Lasting : Operator → Type 0
  Lasting (Operator.Read kind x) = Allowed least_factor kind x
  Lasting Operator.EndsEarly = ⊥
  Lasting Operator.Unknown = ⊥
  Lasting Operator.OutOfRange = ⊥
  Lasting (Operator.Constant w) = ⊥
  Lasting (Operator.Binary operator) = ⊥
  Lasting (Operator.Unary operator) = ⊥
  Lasting Operator.If = ⊥

  read-bytes : {at : ℕ} {o : Operator} → OperatorWritten text at o → Lasting o →
      operator_after o (take (operator_width o) (drop at text)) ≡ take (operator_width o) (drop at text)
  read-bytes (OperatorWritten.constant h b) a = absurd a
  read-bytes {at} (OperatorWritten.plain kind d h b) a = plain-bytes at kind d h b
  read-bytes (OperatorWritten.sampled kind d h b r i) a = rw (factor-two kind _ d a)
  read-bytes (OperatorWritten.binary operator h b) a = absurd a
  read-bytes (OperatorWritten.unary operator h b) a = absurd a
  read-bytes (OperatorWritten.choose h b) a = absurd a

  read_same : {at : ℕ} (kind : Kind) (x : Sampled) → OperatorWritten text at (Operator.Read kind x) →
      Allowed least_factor kind x → Same (at + read_width kind) → Same at
  read_same kind x w a f = command-same (of_operator (Operator.Read kind x)) w (read-bytes w a) f

  expr-same : {at n : ℕ} {e : Expr} → Spells least_factor text at e n → Same n → Same at
  expr-same (Spells.constants e) f = kept_same (of_operator (Operator.Constant _)) e (λ bytes. refl) f
  expr-same (Spells.reads {kind = kind} {x = x} e a) f = read_same kind x e a f
  expr-same (Spells.two e u v) f = kept_same (of_operator (Operator.Binary _)) e (λ bytes. refl) (expr-same u (expr-same v f))
  expr-same (Spells.one e u) f = kept_same (of_operator (Operator.Unary _)) e (λ bytes. refl) (expr-same u f)
  expr-same (Spells.three e u v w) f =
      kept_same (of_operator Operator.If) e (λ bytes. refl) (expr-same u (expr-same v (expr-same w f)))

  links-same : {at n : ℕ} {ls : List Link} → SpellsLinks text at ls n → Same n → Same at
  links-same (SpellsLinks.ends e) f = f
  links-same (SpellsLinks.link {at = at} e le r) f =
      kept_same (of_declaration (Declaration.Link (byte_at text (at + 1)))) (DeclarationWritten.link le e) (λ bytes. refl)
      (links-same r f)

  one_same : {at label next given : ℕ} {p q : Program} → DeclaresOne least_factor text at label p next given q → Same next →
      Same at
  one_same (DeclaresOne.inputs room e) f = kept_same (of_declaration (Declaration.Input _ _)) e (λ bytes. refl) f
  one_same (DeclaresOne.equations room e u d) f =
      kept_same (of_declaration (Declaration.Equation _ _ _)) e (λ bytes. refl) (expr-same u f)
  one_same (DeclaresOne.chains room e u low high) f =
      kept_same (of_declaration (Declaration.Latency _ _)) e (λ bytes. refl) (links-same u f)
  one_same (DeclaresOne.caps room e) f = kept_same (of_declaration (Declaration.Cap _)) e (λ bytes. refl) f
  one_same (DeclaresOne.tags e more s) f = kept_same (of_declaration (Declaration.Tag _)) e (λ bytes. refl) f
  one_same (DeclaresOne.rows room e) f = kept_same (of_declaration (Declaration.Row _ _ _)) e (λ bytes. refl) f

  -- Nothing stands after END.
  end_same : {at : ℕ} → length text ≤ at → Same at
  end_same {at} le = record { holds = λ left enough. none_after text (rewrite text) left at le ∙ sym (drop_of_length-le text le) }

  declares-same : {at label end : ℕ} {p q : Program} → Declares least_factor text at label p end q → Same at
  declares-same (Declares.ends e le) = kept_same (of_declaration Declaration.End) e (λ bytes. refl) (end_same le)
  declares-same (Declares.onward d r) = one_same d (declares-same r)

pub rewrite-same : (text : List ℕ) (p : Program) → LegalProgram text p → rewrite text ≡ text
unfolding rewrite
rewrite-same text p l = (declares-same text l.1).holds (length text) (omega arith)

-- A text that is legal by the earlier rule, rewritten twice.
pub rewrite-twice : (text : List ℕ) (p : Program) → LegalWith 1 text p → rewrite (rewrite text) ≡ rewrite text
rewrite-twice text p l = let r = rewrite-legal text p l in rewrite-same (rewrite text) r.program r.legal
