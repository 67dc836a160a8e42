-- What the converter writes for a legal text is the text converted, and nothing else is. Assumes nothing.
use Prim.Native.Nat.{ℕ, zero, suc, ◌+◌, ◌≤◌, ◌<◌}
use mathlib.Core.Bool.{Bool, true, false, cond, false≢true}
use mathlib.Core.List.{List, [], ◌∷◌, ◌++◌}
use mathlib.Core.Path.{◌≡◌, refl, sym, ap, ap₂, subst, ◌∙◌}
use native.Mathlib.Omega.{arith}
use borrow.Author.Tests.{eqb-true, eqb-false}
use lib.Dec.{eqb}
use lib.ListN.{length, take, drop, length-drop}
use lib.Seq.{length-take-le}
use Rattle.model.specs.Rules.Command.{index_of}
use Rattle.model.specs.Rules.Program.{Program, Expr, Link}
use Rattle.model.specs.Rules.Rewrite.{
  single_kind,
  Command,
  of_declaration,
  of_operator,
  declaration_width,
  operator_width,
  width_of,
  bytes_after,
  rewrite_at,
  rewrite_from,
  rewrite,
}
use Rattle.model.specs.Rules.Image.{binary_byte, unary_byte}
use Rattle.model.specs.Rules.Width.{in_program, in_expression, read_width}
use Rattle.model.specs.Rules.Word.{byte_at}
use Rattle.model.specs.Says.Grammar.{Spells, SpellsLinks, DeclaresOne, Declares, LegalWith}
use Rattle.model.specs.Says.Written.{IsPlain, IsSampled, read_byte, DeclarationWritten, OperatorWritten}
use Rattle.model.specs.declared.Binary.{Binary}
use Rattle.model.specs.declared.Binary.TheVariants.{Add, Sub, Mul, Less, Same, Min, Max}
use Rattle.model.specs.declared.Declaration.{Declaration}
use Rattle.model.specs.declared.Kind.{Kind}
use Rattle.model.specs.declared.Kind.TheVariants.{Now, Last, When, LastWhen, Current}
use Rattle.model.specs.declared.Operator.{Operator}
use Rattle.model.specs.declared.Sampled.{Sampled}
use Rattle.model.specs.declared.Unary.{Unary}
use Rattle.model.specs.declared.Unary.TheVariants.{Negate, Table}
use Rattle.theorems_conversion.specs.Conversion.{SingleAt, CommandAt, ConvertedFrom, ConvertedText}
use Rattle.model.proofs.Texts.Commands.{operator-of}
use Rattle.model.proofs.Texts.Picks.{operator-byte, sampled-width}
use Rattle.theorems_conversion.proofs.Rewritten.{CommandWritten, no-operator, command-decoded, command-inside, none_after}
use Rattle.theorems_conversion.proofs.Unchanged.{plain-bytes}

-- The width of a command is its byte's.
declaration-width : {text : List ℕ} {at : ℕ} {d : Declaration} → DeclarationWritten text at d →
    declaration_width d ≡ in_program (byte_at text at)
declaration-width (DeclarationWritten.end h b) = rw b
declaration-width (DeclarationWritten.input h b r) = rw b
declaration-width (DeclarationWritten.equation h b r) = rw b
declaration-width (DeclarationWritten.latency h b r) = rw b
declaration-width (DeclarationWritten.link h b) = rw b
declaration-width (DeclarationWritten.cap h b) = rw b
declaration-width (DeclarationWritten.tag h b) = rw b
declaration-width (DeclarationWritten.row h b r) = rw b

read_wide : (kind : Kind) {b : ℕ} → b ≡ read_byte kind → read_width kind ≡ in_expression b
read_wide Now e = rw e
read_wide Last e = rw e
read_wide When e = rw e
read_wide LastWhen e = rw e
read_wide Current e = rw e

binary-wide : (operator : Binary) {b : ℕ} → b ≡ binary_byte operator → in_expression 0x30 ≡ in_expression b
binary-wide Add e = rw e
binary-wide Sub e = rw e
binary-wide Mul e = rw e
binary-wide Less e = rw e
binary-wide Same e = rw e
binary-wide Min e = rw e
binary-wide Max e = rw e

unary-wide : (operator : Unary) {b : ℕ} → b ≡ unary_byte operator → in_expression 0x38 ≡ in_expression b
unary-wide Negate e = rw e
unary-wide Table e = rw e

operator-width : {text : List ℕ} {at : ℕ} {o : Operator} → OperatorWritten text at o →
    operator_width o ≡ in_expression (byte_at text at)
operator-width (OperatorWritten.constant h b) = rw b
operator-width (OperatorWritten.plain kind e h b) = read_wide kind b
operator-width (OperatorWritten.sampled kind e h b r i) = read_wide kind b
operator-width (OperatorWritten.binary operator h b) = binary-wide operator b
operator-width (OperatorWritten.unary operator h b) = unary-wide operator b
operator-width (OperatorWritten.choose h b) = rw b

command-at : {text : List ℕ} {at : ℕ} (c : Command) → CommandWritten text at c → CommandAt text at (width_of c)
command-at (of_declaration d) w = rw (declaration-width w) (CommandAt.declaration w)
command-at (of_operator o) w = rw (operator-width w) (CommandAt.operator w)

-- The byte of a read with n = 1.
single-byte : {text : List ℕ} {at b : ℕ} → SingleAt text at b → (0x23 ≤ byte_at text at) × (byte_at text at ≤ 0x25)
single-byte (SingleAt.when h b n) = (omega arith, omega arith)
single-byte (SingleAt.last_when h b n) = (omega arith, omega arith)
single-byte (SingleAt.current h b n) = (omega arith, omega arith)

single-one : {text : List ℕ} {at b : ℕ} → SingleAt text at b → (byte_at text (at + 3) ≡ 1) × (at + 4 ≤ length text)
single-one (SingleAt.when h b n) = (n, h)
single-one (SingleAt.last_when h b n) = (n, h)
single-one (SingleAt.current h b n) = (n, h)

single-kind : {text : List ℕ} {at : ℕ} (kind : Kind) → IsSampled kind → at + 4 ≤ length text → byte_at text at ≡ read_byte kind →
    byte_at text (at + 3) ≡ 1 → SingleAt text at (read_byte (single_kind kind))
single-kind Now i h b n = absurd i
single-kind Last i h b n = absurd i
single-kind When i h b n = SingleAt.when h b n
single-kind LastWhen i h b n = SingleAt.last_when h b n
single-kind Current i h b n = SingleAt.current h b n

single-same : {text : List ℕ} {at a b : ℕ} → SingleAt text at a → SingleAt text at b → a ≡ b
single-same (SingleAt.when h b n) (SingleAt.when h' b' n') = refl
single-same (SingleAt.when h b n) (SingleAt.last_when h' b' n') = absurd (omega arith)
single-same (SingleAt.when h b n) (SingleAt.current h' b' n') = refl
single-same (SingleAt.last_when h b n) (SingleAt.when h' b' n') = absurd (omega arith)
single-same (SingleAt.last_when h b n) (SingleAt.last_when h' b' n') = refl
single-same (SingleAt.last_when h b n) (SingleAt.current h' b' n') = absurd (omega arith)
single-same (SingleAt.current h b n) (SingleAt.when h' b' n') = refl
single-same (SingleAt.current h b n) (SingleAt.last_when h' b' n') = absurd (omega arith)
single-same (SingleAt.current h b n) (SingleAt.current h' b' n') = refl

-- No other command is one.
declared-other : {text : List ℕ} {at : ℕ} {d : Declaration} → DeclarationWritten text at d → (b : ℕ) → ¬ SingleAt text at b
declared-other (DeclarationWritten.end h e) b s = omega (arith, single-byte s)
declared-other (DeclarationWritten.input h e r) b s = omega (arith, single-byte s)
declared-other (DeclarationWritten.equation h e r) b s = omega (arith, single-byte s)
declared-other (DeclarationWritten.latency h e r) b s = omega (arith, single-byte s)
declared-other (DeclarationWritten.link h e) b s = omega (arith, single-byte s)
declared-other (DeclarationWritten.cap h e) b s = omega (arith, single-byte s)
declared-other (DeclarationWritten.tag h e) b s = omega (arith, single-byte s)
declared-other (DeclarationWritten.row h e r) b s = omega (arith, single-byte s)

plain_byte : (kind : Kind) → IsPlain kind → read_byte kind ≤ 0x22
plain_byte Now i = omega arith
plain_byte Last i = omega arith
plain_byte When i = absurd i
plain_byte LastWhen i = absurd i
plain_byte Current i = absurd i

binary-above : (operator : Binary) → 0x30 ≤ binary_byte operator
binary-above Add = omega arith
binary-above Sub = omega arith
binary-above Mul = omega arith
binary-above Less = omega arith
binary-above Same = omega arith
binary-above Min = omega arith
binary-above Max = omega arith

unary-above : (operator : Unary) → 0x30 ≤ unary_byte operator
unary-above Negate = omega arith
unary-above Table = omega arith

module _ (text : List ℕ) where
  -- From `at` on the text is converted.
  record Becomes (at : ℕ) : Type 0 where
    holds : (left : ℕ) → length text ≤ left + at → ConvertedFrom text at (rewrite_from left text at)

  -- One command back: what stands for it, before what stands for the rest.
  command-becomes : {at : ℕ} (c : Command) → CommandWritten text at c →
      ((rest : List ℕ) → ConvertedFrom text (at + width_of c) rest →
      ConvertedFrom text at (bytes_after c (take (width_of c) (drop at text)) ++ rest)) → Becomes (at + width_of c) → Becomes at
  unfolding rewrite_from rewrite_at
  command-becomes {at} c w step f = record { holds = go }
    where
      go : (left : ℕ) → length text ≤ left + at → ConvertedFrom text at (rewrite_from left text at)
      go zero le = absurd (omega (arith, command-inside text at c w))
      go (suc left) le =
          rw (command-decoded text at c w) (step _ (f.holds left (omega (arith, (command-inside text at c w).1))))

  -- A command that is no read with n = 1 keeps its bytes.
  bytes-kept : {at : ℕ} (c : Command) → CommandWritten text at c → ((b : ℕ) → ¬ SingleAt text at b) →
      bytes_after c (take (width_of c) (drop at text)) ≡ take (width_of c) (drop at text) → (rest : List ℕ) →
      ConvertedFrom text (at + width_of c) rest →
      ConvertedFrom text at (bytes_after c (take (width_of c) (drop at text)) ++ rest)
  bytes-kept {at} c w other same rest from =
      let wide : length (take (width_of c) (drop at text)) ≡ width_of c =
      length-take-le (width_of c) (drop at text) (omega (arith, length-drop at text, (command-inside text at c w).0)) in
      rw same
      (ConvertedFrom.kept (command-at c w) other wide
      (record { stand = ap (λ n. take n (drop at text)) wide }) from)

  kept-becomes : {at : ℕ} (c : Command) → CommandWritten text at c → ((b : ℕ) → ¬ SingleAt text at b) →
      bytes_after c (take (width_of c) (drop at text)) ≡ take (width_of c) (drop at text) → Becomes (at + width_of c) → Becomes at
  kept-becomes c w other same f = command-becomes c w (bytes-kept c w other same) f

  declared-becomes : {at : ℕ} {d : Declaration} → DeclarationWritten text at d → Becomes (at + declaration_width d) → Becomes at
  declared-becomes {d = d} w f = kept-becomes (of_declaration d) w (declared-other w) refl f

  operator-becomes : {at : ℕ} {o : Operator} → OperatorWritten text at o → Becomes (at + operator_width o) → Becomes at
  operator-becomes (OperatorWritten.constant h b) f =
      kept-becomes (of_operator (Operator.Constant _)) (OperatorWritten.constant h b) (λ a s. omega (arith, single-byte s)) refl f
  operator-becomes {at} (OperatorWritten.plain kind e h b) f =
      kept-becomes (of_operator (Operator.Read kind _)) (OperatorWritten.plain kind e h b)
      (λ a s. omega (arith, single-byte s, plain_byte kind e)) (plain-bytes text at kind e h b) f
  operator-becomes {at} (OperatorWritten.sampled kind e h b r i) f =
      command-becomes (of_operator (Operator.Read kind x)) w (step (eqb (byte_at text (at + 3)) 1) refl) f
    where
      x : Sampled
      x = record { signal = byte_at text (at + 1); factor = byte_at text (at + 3); index = index_of (byte_at text (at + 2)) }

      w : OperatorWritten text at (Operator.Read kind x)
      w = OperatorWritten.sampled kind e h b r i

      step : (t : Bool) → eqb (byte_at text (at + 3)) 1 ≡ t → (rest : List ℕ) → ConvertedFrom text (at + read_width kind) rest →
          ConvertedFrom text at
          (cond (eqb (byte_at text (at + 3)) 1) (read_byte (single_kind kind) ∷ byte_at text (at + 1) ∷ [])
          (take (read_width kind) (drop at text)) ++ rest)
      step true t rest from =
          rw t
          (ConvertedFrom.single (single-kind kind e h b (eqb-true _ _ t))
          (subst (λ n. ConvertedFrom text (at + n) rest) (sampled-width kind e) from))
      step false t rest from =
          bytes-kept (of_operator (Operator.Read kind x)) w (λ a s. eqb-false _ _ t (single-one s).0) (rw t) rest from
  operator-becomes (OperatorWritten.binary operator h b) f =
      kept-becomes (of_operator (Operator.Binary operator)) (OperatorWritten.binary operator h b)
      (λ a s. omega (arith, single-byte s, binary-above operator)) refl f
  operator-becomes (OperatorWritten.unary operator h b) f =
      kept-becomes (of_operator (Operator.Unary operator)) (OperatorWritten.unary operator h b)
      (λ a s. omega (arith, single-byte s, unary-above operator)) refl f
  operator-becomes (OperatorWritten.choose h b) f =
      kept-becomes (of_operator Operator.If) (OperatorWritten.choose h b) (λ a s. omega (arith, single-byte s)) refl f

  expr-becomes : {least at n : ℕ} {e : Expr} → Spells least text at e n → Becomes n → Becomes at
  expr-becomes (Spells.constants e) f = operator-becomes e f
  expr-becomes (Spells.reads e a) f = operator-becomes e f
  expr-becomes (Spells.two e u v) f = operator-becomes e (expr-becomes u (expr-becomes v f))
  expr-becomes (Spells.one e u) f = operator-becomes e (expr-becomes u f)
  expr-becomes (Spells.three e u v w) f = operator-becomes e (expr-becomes u (expr-becomes v (expr-becomes w f)))

  links-become : {at n : ℕ} {ls : List Link} → SpellsLinks text at ls n → Becomes n → Becomes at
  links-become (SpellsLinks.ends e) f = f
  links-become (SpellsLinks.link e le r) f = declared-becomes (DeclarationWritten.link le e) (links-become r f)

  one-becomes : {least at label next given : ℕ} {p q : Program} → DeclaresOne least text at label p next given q →
      Becomes next → Becomes at
  one-becomes (DeclaresOne.inputs room e) f = declared-becomes e f
  one-becomes (DeclaresOne.equations room e u d) f = declared-becomes e (expr-becomes u f)
  one-becomes (DeclaresOne.chains room e u low high) f = declared-becomes e (links-become u f)
  one-becomes (DeclaresOne.caps room e) f = declared-becomes e f
  one-becomes (DeclaresOne.tags e more s) f = declared-becomes e f
  one-becomes (DeclaresOne.rows room e) f = declared-becomes e f

  end-becomes : {at : ℕ} → length text ≤ at → Becomes at
  end-becomes {at} le = record { holds = λ left enough. rw (none_after text (rewrite text) left at le) (ConvertedFrom.end le) }

  declares-become : {least at label end : ℕ} {p q : Program} → Declares least text at label p end q → Becomes at
  declares-become (Declares.ends e le) = declared-becomes e (end-becomes le)
  declares-become (Declares.onward d r) = one-becomes d (declares-become r)

-- What is written for a legal text is the text converted.
pub rewrite-converts : (least : ℕ) (text : List ℕ) (p : Program) → LegalWith least text p → ConvertedText text (rewrite text)
unfolding rewrite
rewrite-converts least text p l = (declares-become text l.1).holds (length text) (omega arith)

-- A command has one width, and lies within the text.
at-inside : {text : List ℕ} {at n : ℕ} → CommandAt text at n → at < length text
at-inside {text} {at} (CommandAt.declaration {d = d} w) = omega (arith, command-inside text at (of_declaration d) w)
at-inside {text} {at} (CommandAt.operator {o = o} w) = omega (arith, command-inside text at (of_operator o) w)

apart : {text : List ℕ} {at : ℕ} {d : Declaration} {o : Operator} → DeclarationWritten text at d → ¬ OperatorWritten text at o
apart {text} {at} w v = false≢true (sym (no-operator w) ∙ (operator-byte (byte_at text at)).1 (operator-of text at v))

one_width : {text : List ℕ} {at m n : ℕ} → CommandAt text at m → CommandAt text at n → m ≡ n
one_width (CommandAt.declaration w) (CommandAt.declaration v) = refl
one_width (CommandAt.declaration w) (CommandAt.operator v) = absurd (apart w v)
one_width (CommandAt.operator w) (CommandAt.declaration v) = absurd (apart v w)
one_width (CommandAt.operator w) (CommandAt.operator v) = refl

-- A text is converted to one text only.
pub converted-one : {text : List ℕ} {at : ℕ} {a b : List ℕ} → ConvertedFrom text at a → ConvertedFrom text at b → a ≡ b
converted-one (ConvertedFrom.end le) (ConvertedFrom.end le') = refl
converted-one (ConvertedFrom.end le) (ConvertedFrom.single s r) = absurd (omega (arith, (single-one s).1))
converted-one (ConvertedFrom.end le) (ConvertedFrom.kept c other size bytes r) = absurd (omega (arith, at-inside c))
converted-one (ConvertedFrom.single s r) (ConvertedFrom.end le) = absurd (omega (arith, (single-one s).1))
converted-one {text} {at} (ConvertedFrom.single s r) (ConvertedFrom.single t q) =
    ap₂ (λ b rest. b ∷ (byte_at text (at + 1) ∷ rest)) (single-same s t) (converted-one r q)
converted-one (ConvertedFrom.single s r) (ConvertedFrom.kept c other size bytes q) = absurd (other _ s)
converted-one (ConvertedFrom.kept c other size bytes r) (ConvertedFrom.end le) = absurd (omega (arith, at-inside c))
converted-one (ConvertedFrom.kept c other size bytes r) (ConvertedFrom.single s q) = absurd (other _ s)
converted-one {text} {at} (ConvertedFrom.kept {bytes = x} {rest = r} c other size bytes from)
    (ConvertedFrom.kept {bytes = y} {rest = q} d other' size' bytes' from') =
    let wide : length x ≡ length y = size ∙ one_width c d ∙ sym size' in
    let same : x ≡ y = sym bytes.stand ∙ ap (λ n. take n (drop at text)) wide ∙ bytes'.stand in
    ap₂ (λ u v. u ++ v) same (converted-one from (subst (λ n. ConvertedFrom text (at + n) q) (one_width d c) from'))
