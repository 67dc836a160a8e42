-- Every accepted program text, schedule text and script is listed: each is a sequence of whole commands. Assumes nothing.
use Prim.Native.Nat.{ℕ, ◌+◌, ◌≤◌, ◌<◌}
use mathlib.Core.List.{List, [], ◌∷◌, ◌++◌}
use mathlib.Core.Path.{◌≡◌, refl, sym, ap, subst, ◌∙◌}
use native.Mathlib.Omega.{arith}
use lib.ListN.{length, drop, drop_of_length-le}
use Rattle.model.specs.Rules.Outcome.{accepted}
use Rattle.model.specs.Rules.Image.{binary_byte, unary_byte}
use Rattle.model.specs.Rules.Program.{Expr, Link, Program}
use Rattle.model.specs.Rules.Schedule.{Put}
use Rattle.model.specs.Rules.Script.{Action}
use Rattle.model.specs.Rules.TextForm.{keywords, keyword_at, size, low_at, operand_token, listing}
use Rattle.model.specs.Rules.Width.{read_width}
use Rattle.model.specs.Rules.Word.{byte_at, AreBytes}
use Rattle.model.specs.Says.Grammar.{Spells, SpellsLinks, DeclaresOne, Declares, SpellsPuts}
use Rattle.model.specs.Says.Written.{DeclarationWritten, OperatorWritten, PutWritten, read_byte}
use Rattle.model.specs.declared.Binary.{Binary}
use Rattle.model.specs.declared.Binary.TheVariants.{Add, Sub, Mul, Less, Same, Min, Max}
use Rattle.model.specs.declared.Kind.{Kind}
use Rattle.model.specs.declared.Kind.TheVariants.{Now, Last, When, LastWhen, Current}
use Rattle.model.specs.declared.Operand.{Operand}
use Rattle.model.specs.declared.Operator.{Operator}
use Rattle.model.specs.declared.Unary.{Unary}
use Rattle.model.specs.declared.Unary.TheVariants.{Negate, Table}
use Rattle.model.proofs.Basics.Outcomes.{accepted-then}
use Rattle.model.proofs.Texts.Picks.{plain-width, sampled-width}
use Rattle.theorems_forms.specs.TextForms.{TokensSay}
use Rattle.theorems_trials.specs.TrialRefusals.{SpellsScript}
use Rattle.theorems_forms.proofs.Forms.{operand-tells, operand-written, next-byte, says-list}

sizes : List Operand → ℕ
sizes [] = 0
sizes (o ∷ os) = size o + sizes os

module _ (text : List ℕ) (are : AreBytes text) where
  -- some tokens say the bytes from an offset on
  abbrev Said : ℕ → List Operand → Type 0
  Said at pending = (tokens : List (List ℕ)) × TokensSay pending tokens (drop at text)

  operands-said : (os : List Operand) (at : ℕ) → at + sizes os ≤ length text → Said (at + sizes os) [] → Said at os
  unfolding sizes
  operands-said [] at le s = subst (λ (n : ℕ). Said n []) zero-after s
    where
      zero-after : at + 0 ≡ at
      zero-after = omega arith
  operands-said (o ∷ os) at le s =
      let w = operand-written text are at o (omega arith) in
      let e : at + (size o + sizes os) ≡ at + size o + sizes os = omega arith in
      let r = operands-said os (at + size o) (omega arith) (subst (λ (n : ℕ). Said n []) e s) in
      let v = low_at (size o) text at in (
        operand_token o v ∷ r.0,
        subst (TokensSay (o ∷ os) (operand_token o v ∷ r.0)) w.0 (TokensSay.operand (operand-tells o v w.1) r.1),
      )

  -- a whole command of row i, n bytes long
  command : (i at n : ℕ) → i < length keywords → byte_at text at ≡ (keyword_at keywords i).byte →
      n ≡ 1 + sizes (keyword_at keywords i).operands → at + n ≤ length text → Said (at + n) [] → Said at []
  command i at n lt b size le s =
      let k = keyword_at keywords i in
      let e : at + n ≡ at + 1 + sizes k.operands = omega arith in
      let r = operands-said k.operands (at + 1) (omega arith) (subst (λ (n : ℕ). Said n []) e s) in (
        k.spelling ∷ r.0,
        subst (TokensSay [] (k.spelling ∷ r.0))
            (ap (λ (x : ℕ). x ∷ drop (at + 1) text) (sym b) ∙ sym (next-byte text at (at + 1) (omega arith) (omega arith)))
            (TokensSay.keyword i lt r.1),
      )

  kind-said : (kind : Kind) (at : ℕ) → byte_at text at ≡ read_byte kind → at + read_width kind ≤ length text →
      Said (at + read_width kind) [] → Said at []
  unfolding keywords sizes
  kind-said Now at b le s = command 8 at 2 (omega arith) b refl le s
  kind-said Last at b le s = command 9 at 2 (omega arith) b refl le s
  kind-said When at b le s = command 10 at 4 (omega arith) b refl le s
  kind-said LastWhen at b le s = command 11 at 4 (omega arith) b refl le s
  kind-said Current at b le s = command 12 at 4 (omega arith) b refl le s

  binary-said : (operator : Binary) (at : ℕ) → byte_at text at ≡ binary_byte operator → at + 1 ≤ length text → Said (at + 1) [] →
      Said at []
  unfolding keywords sizes
  binary-said Add at b le s = command 13 at 1 (omega arith) b refl le s
  binary-said Sub at b le s = command 14 at 1 (omega arith) b refl le s
  binary-said Mul at b le s = command 15 at 1 (omega arith) b refl le s
  binary-said Less at b le s = command 16 at 1 (omega arith) b refl le s
  binary-said Same at b le s = command 17 at 1 (omega arith) b refl le s
  binary-said Min at b le s = command 18 at 1 (omega arith) b refl le s
  binary-said Max at b le s = command 19 at 1 (omega arith) b refl le s

  unary-said : (operator : Unary) (at : ℕ) → byte_at text at ≡ unary_byte operator → at + 1 ≤ length text → Said (at + 1) [] →
      Said at []
  unfolding keywords sizes
  unary-said Negate at b le s = command 20 at 1 (omega arith) b refl le s
  unary-said Table at b le s = command 26 at 1 (omega arith) b refl le s

  read-said : (at : ℕ) {kind : Kind} {x : _} → OperatorWritten text at (Operator.Read kind x) → Said
      (at + read_width kind) [] → Said at []
  read-said at (OperatorWritten.plain kind w le b) s = kind-said kind at b (omega (arith, plain-width kind w)) s
  read-said at (OperatorWritten.sampled kind w le b p q) s = kind-said kind at b (omega (arith, sampled-width kind w)) s

  expression-said : {least at next : ℕ} {e : Expr} → Spells least text at e next → Said next [] → Said at []
  unfolding keywords sizes
  expression-said {at = at} (Spells.constants (OperatorWritten.constant le b)) s = command 7 at 5 (omega arith) b refl le s
  expression-said {at = at} (Spells.reads w a) s = read-said at w s
  expression-said {at = at} (Spells.two (OperatorWritten.binary o le b) x y) s =
      binary-said o at b le (expression-said x (expression-said y s))
  expression-said {at = at} (Spells.one (OperatorWritten.unary o le b) x) s = unary-said o at b le (expression-said x s)
  expression-said {at = at} (Spells.three (OperatorWritten.choose le b) x y z) s =
      command 21 at 1 (omega arith) b refl le (expression-said x (expression-said y (expression-said z s)))

  links-said : {at next : ℕ} {ls : List Link} → SpellsLinks text at ls next → Said next [] → Said at []
  unfolding keywords sizes
  links-said (SpellsLinks.ends e) s = s
  links-said {at = at} (SpellsLinks.link b le h) s = command 4 at 2 (omega arith) b refl le (links-said h s)

  declaration-said : {least at label next given : ℕ} {p q : Program} → DeclaresOne least text at label p next given q →
      Said next [] →
      Said at []
  unfolding keywords sizes
  declaration-said {at = at} (DeclaresOne.inputs c (DeclarationWritten.input le b r)) s = command 1 at 6 (omega arith) b refl le s
  declaration-said {at = at} (DeclaresOne.equations c (DeclarationWritten.equation le b r) e d) s =
      command 2 at 8 (omega arith) b refl le (expression-said e s)
  declaration-said {at = at} (DeclaresOne.chains c (DeclarationWritten.latency le b r) l x y) s =
      command 3 at 4 (omega arith) b refl le (links-said l s)
  declaration-said {at = at} (DeclaresOne.caps c (DeclarationWritten.cap le b)) s = command 5 at 5 (omega arith) b refl le s
  declaration-said {at = at} (DeclaresOne.tags (DeclarationWritten.tag le b) x y) s = command 6 at 3 (omega arith) b refl le s
  declaration-said {at = at} (DeclaresOne.rows c (DeclarationWritten.row le b r)) s = command 25 at 13 (omega arith) b refl le s

  -- END is the last byte
  end-said : (at : ℕ) → byte_at text at ≡ 0 → at + 1 ≤ length text → length text ≤ at + 1 → Said at []
  unfolding keywords sizes
  end-said at b le last =
      command 0 at 1 (omega arith) b refl le (
        [],
        subst (TokensSay [] [])
            (sym (drop_of_length-le {A = ℕ} text last)) TokensSay.nothing,
      )

  pub program-said : {least at label end : ℕ} {p q : Program} → Declares least text at label p end q → Said at []
  program-said {at = at} (Declares.ends (DeclarationWritten.end le b) last) = end-said at b le last
  program-said (Declares.onward d h) = declaration-said d (program-said h)

  pub schedule-said : {at end : ℕ} {qs : List Put} → SpellsPuts text at qs end → Said at []
  unfolding keywords sizes
  schedule-said {at = at} (SpellsPuts.ends (PutWritten.end le b) last) = end-said at b le last
  schedule-said {at = at} (SpellsPuts.put (PutWritten.put le b) h) = command 22 at 3 (omega arith) b refl le (schedule-said h)

  script-said : {at : ℕ} {actions : List Action} → SpellsScript text at actions → Said at []
  unfolding keywords sizes
  script-said {at = at} (SpellsScript.ends e last) = end-said at e.1 e.0 last
  script-said {at = at} (SpellsScript.sets e h) = command 23 at 6 (omega arith) e.1 refl e.0 (script-said h)
  script-said {at = at} (SpellsScript.runs e h) = command 24 at 2 (omega arith) e.1 refl e.0 (script-said h)

  pub said-listed : Said 0 [] → (listed : List ℕ) × (listing text ≡ accepted listed)
  unfolding listing
  said-listed s =
      let r = says-list text s.1 (length text) 0 (omega arith) refl in (r.0 ++ (10 ∷ []), accepted-then _ _ r.0 r.1)

pub script-listed : (text : List ℕ) (actions : List Action) → AreBytes text → SpellsScript text 0 actions →
    (listed : List ℕ) × (listing text ≡ accepted listed)
script-listed text actions are h = said-listed text are (script-said text are h)
