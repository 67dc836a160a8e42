-- A text that the grammar makes legal is read: with the laws of `Spelled` and `Puts`, reading accepts the legal texts and no
-- others. Assumes nothing.
use Prim.Native.Nat.{ℕ, zero, suc, ◌+◌, ◌≤◌, ◌<◌}
use mathlib.Core.List.{List, [], ◌∷◌, ◌++◌, append_assoc, append-nil}
use mathlib.Core.Logic.{◌↔◌, inl, inr}
use mathlib.Core.Path.{◌≡◌, refl, ap, ◌∙◌}
use native.Mathlib.Omega.{arith}
use borrow.Author.Tests.{le-leb, lt-ltb, eq-eqb}
use lib.ListN.{length}
use Rattle.model.specs.Rules.Command.{declaration_at, operator_at}
use Rattle.model.specs.Says.Grammar.{
  depth,
  Spells,
  SpellsLinks,
  DeclaresOne,
  Declares,
  LegalWith,
  LegalProgram,
  LegalSchedule,
}
use Rattle.model.specs.Rules.Outcome.{Outcome, accepted, Parsed, parsed}
use Rattle.model.specs.Rules.Program.{
  least_factor,
  Expr,
  Link,
  Program,
  operator_here,
  node,
  parse_expr,
  parse_links,
  declare,
  declaration_here,
  parse_commands,
  parse_with,
  parse_program,
}
use Rattle.model.specs.Rules.Schedule.{Put, parse_schedule}
use Rattle.model.specs.Rules.Width.{in_program, read_width}
use Rattle.model.specs.Rules.Word.{byte_at}
use Rattle.model.specs.Says.Grammar.{HasRoom}
use Rattle.model.specs.Says.Written.{DeclarationWritten}
use Rattle.model.specs.declared.Declaration.{Declaration}
use Rattle.model.specs.declared.Kind.{Kind}
use Rattle.model.specs.declared.Kind.TheVariants.{Now, Last, When, LastWhen, Current}
use Rattle.model.specs.declared.Operator.{Operator}
use Rattle.model.proofs.Texts.Commands.{declaration-sound, written_byte, written-inside, operator-of}
use Rattle.model.proofs.Texts.Legal.{links_end}
use Rattle.model.proofs.Basics.Outcomes.{accepted-then, true-provided}
use Rattle.model.proofs.Texts.Puts.{puts-spelled, parse-puts}
use Rattle.model.proofs.Texts.Picks.{allowed-exactly}
use Rattle.model.proofs.Texts.Room.{signal-is, operator-fit, declaration-fit}
use Rattle.model.proofs.Texts.Spelled.{declared}
use Rattle.model.proofs.Texts.Written.{decoded, operator-decoded}

-- A number with one below it.
pub one_below : (m d : ℕ) → suc m ≤ d → (e : ℕ) × (d ≡ suc e) × (m ≤ e)
one_below m zero le = absurd (omega arith)
one_below m (suc e) le = (e, refl, omega arith)

module _ (least : ℕ) (text : List ℕ) where
  -- The operator of an expression is judged fit before its operands are read.
  pub expr-step : (d at : ℕ) (c : Operator) → operator_at text at ≡ c → operator_here text at ≡ accepted tt →
      parse_expr least (suc d) text at ≡ node least (λ n. parse_expr least d text n) text at c
  unfolding parse_expr
  expr-step d at c e here = accepted-then _ _ tt here ∙ ap (node least (λ n. parse_expr least d text n) text at) e

  -- A command is judged before its operands are read.
  pub command-step : (left at label : ℕ) (p : Program) (c : Declaration) → declaration_at text at ≡ c →
      declaration_here text at p ≡ accepted tt →
      parse_commands least (suc left) text at label p ≡
      declare least (λ n l q. parse_commands least left text n l q) text at label p c
  unfolding parse_commands
  command-step left at label p c e here =
      accepted-then _ _ tt here ∙ ap (declare least (λ n l q. parse_commands least left text n l q) text at label p) e

module _ {least : ℕ} {text : List ℕ} where
  pub spells-after : {at n : ℕ} {e : Expr} → Spells least text at e n → at < n
  spells-after (Spells.constants e) = omega arith
  spells-after (Spells.reads {kind = kind} e t) = width kind
    where
      width : {a : ℕ} (k : Kind) → a < a + read_width k
      width Now = omega arith
      width Last = omega arith
      width When = omega arith
      width LastWhen = omega arith
      width Current = omega arith
  spells-after (Spells.two e u v) = omega (arith, spells-after u, spells-after v)
  spells-after (Spells.one e u) = omega (arith, spells-after u)
  spells-after (Spells.three e u v w) = omega (arith, spells-after u, spells-after v, spells-after w)

  -- An expression that is spelled, and nests at most d deep, is read.
  pub parse-expr : {at n : ℕ} {e : Expr} (d : ℕ) → Spells least text at e n → depth e ≤ d → parse_expr least d text at ≡ parsed e n
  unfolding node
  parse-expr d (Spells.constants {at = at} {w = w} e) le =
      let q = one_below 0 d le in
      rw q.1 (expr-step least text q.0 at _ (operator-decoded e) (operator-fit text at (operator-of text at e)))
  parse-expr d (Spells.reads {at = at} {kind = kind} {x = x} e t) le =
      let q = one_below 0 d le in
      rw q.1
      (expr-step least text q.0 at _ (operator-decoded e) (operator-fit text at (operator-of text at e)) ∙
      accepted-then _ _ tt (true-provided _ 5 at ((allowed-exactly least kind x).1 t)))
  parse-expr d (Spells.two {at = at} {x = x} {y = y} e u v) le =
      let q = one_below _ d le in
      rw q.1
      (expr-step least text q.0 at _ (operator-decoded e) (operator-fit text at (operator-of text at e)) ∙
      accepted-then _ _ _ (parse-expr q.0 u (omega (arith, q.2))) ∙
      accepted-then _ _ _ (parse-expr q.0 v (omega (arith, q.2))))
  parse-expr d (Spells.one {at = at} e u) le =
      let q = one_below _ d le in
      rw q.1
      (expr-step least text q.0 at _ (operator-decoded e) (operator-fit text at (operator-of text at e)) ∙
      accepted-then _ _ _ (parse-expr q.0 u (omega (arith, q.2))))
  parse-expr d (Spells.three {at = at} e u v w) le =
      let q = one_below _ d le in
      rw q.1
      (expr-step least text q.0 at _ (operator-decoded e) (operator-fit text at (operator-of text at e)) ∙
      accepted-then _ _ _ (parse-expr q.0 u (omega (arith, q.2))) ∙
      accepted-then _ _ _ (parse-expr q.0 v (omega (arith, q.2))) ∙
      accepted-then _ _ _ (parse-expr q.0 w (omega (arith, q.2))))

module _ {text : List ℕ} where
  -- A declaration that is written and has room is judged fit.
  pub fit : (at : ℕ) (p : Program) {c : Declaration} → DeclarationWritten text at c → HasRoom p (byte_at text at) →
      declaration_here text at p ≡ accepted tt
  fit at p w r = declaration-fit p text at (written-inside text at w) r

  -- LINKs that are spelled are read.
  pub parse-links : {at n : ℕ} {ls : List Link} (room : ℕ) (links : List Link) → SpellsLinks text at ls n → length ls ≤ room →
      parse_links room text at links ≡ parsed (links ++ ls) n
  unfolding parse_links
  parse-links zero links (SpellsLinks.ends e) le = rw (e, parse_links, append-nil links)
  parse-links (suc room) links (SpellsLinks.ends e) le = rw (e, parse_links, append-nil links)
  parse-links zero links (SpellsLinks.link e l r) le = absurd (omega arith)
  parse-links {at = at} (suc room) links (SpellsLinks.link {ls = ls} e l r) le =
      let here : Link = record { place = at; signal = byte_at text (at + 1) } in
      rw (eq-eqb (byte_at text at) 0x13 e, parse_links)
      (accepted-then _ _ tt (true-provided _ 2 (length text) (le-leb (at + 2) (length text) l)) ∙
      parse-links {at = at + in_program 0x13} room (links ++ (here ∷ [])) r (omega arith) ∙
      rw (append_assoc links (here ∷ []) ls))

module _ {least : ℕ} {text : List ℕ} where
  -- A legal command is read, and reading goes on after it: `left` is enough for the bytes that are left.
  command-onward : {at label next given : ℕ} {p q : Program} → DeclaresOne least text at label p next given q → (left : ℕ) →
      (at < length text) × (at < next) ×
      (parse_commands least (suc left) text at label p ≡ parse_commands least left text next given q)
  unfolding declare
  command-onward (DeclaresOne.inputs {at = at} {label = label} {p = p} room e) left = (
    omega (arith, (declaration-sound text at _ (decoded e)).3),
    omega arith,
    command-step least text left at label p _ (decoded e) (fit at p e (HasRoom.signal (inl (written_byte text at e)) room)),
  )
  command-onward (DeclaresOne.equations {at = at} {label = label} {p = p} room e u d) left = (
    omega (arith, (declaration-sound text at _ (decoded e)).3),
    omega (arith, spells-after u),
    command-step least text left at label p _ (decoded e) (fit at p e (HasRoom.signal (inr (written_byte text at e)) room)) ∙
        accepted-then _ _ _ (parse-expr 16 u d),
  )
  command-onward (DeclaresOne.chains {at = at} {label = label} {p = p} room e u several few) left = (
    omega (arith, declaration-sound text at _ (decoded e)),
    omega (arith, links_end u),
    command-step least text left at label p _ (decoded e) (fit at p e (HasRoom.latency (written_byte text at e) room)) ∙
        accepted-then _ _ _ (parse-links 16 [] u few) ∙
        accepted-then _ _ tt (true-provided _ 5 at (le-leb _ _ several)),
  )
  command-onward (DeclaresOne.caps {at = at} {label = label} {p = p} room e) left = (
    omega (arith, declaration-sound text at _ (decoded e)),
    omega arith,
    command-step least text left at label p _ (decoded e) (fit at p e (HasRoom.cap (written_byte text at e) room)),
  )
  command-onward (DeclaresOne.tags {at = at} {label = label} {p = p} e more s) left = (
    omega (arith, more),
    omega arith,
    command-step least text left at label p _ (decoded e) (fit at p e (HasRoom.tag (written_byte text at e))) ∙
        accepted-then _ _ tt (true-provided _ _ _ (lt-ltb _ _ more)) ∙
        accepted-then _ _ tt (true-provided _ _ _ ((signal-is _).1 s)),
  )
  command-onward (DeclaresOne.rows {at = at} {label = label} {p = p} room e) left = (
    omega (arith, written-inside text at e),
    omega arith,
    command-step least text left at label p _ (decoded e) (fit at p e (HasRoom.row (written_byte text at e) room)),
  )

  pub parse-onward : {at label next given : ℕ} {p q : Program} (o : Outcome Program) →
      DeclaresOne least text at label p next given q →
      ((k : ℕ) → length text ≤ next + k → parse_commands least k text next given q ≡ o) → (left : ℕ) → length text ≤ at + left →
      parse_commands least left text at label p ≡ o
  parse-onward o d rest zero enough = let h = command-onward d zero in absurd (omega (arith, h.0))
  parse-onward o d rest (suc left) enough =
      let h = command-onward d left in h.2 ∙ rest left (omega (arith, h.1))

  -- Commands that declare a program are read.
  parse-commands : {at label end : ℕ} {p q : Program} → Declares least text at label p end q → (left : ℕ) →
      length text ≤ at + left → parse_commands least left text at label p ≡ accepted q
  unfolding declare
  parse-commands (Declares.ends {at = at} {label = label} {p = p} e le) left enough =
      let q = one_below 0 left (omega (arith, declaration-sound text at _ (decoded e))) in
      rw q.1
      (command-step least text q.0 at label p _ (decoded e) (fit at p e (HasRoom.end (written_byte text at e))) ∙
      accepted-then _ _ tt (true-provided _ 6 (at + 1) (le-leb _ _ le)))
  parse-commands (Declares.onward d r) left enough = parse-onward _ d (λ k l. parse-commands r k l) left enough

-- Reading accepts the legal program texts and no others.
pub with-legal : (least : ℕ) (text : List ℕ) (p : Program) → (parse_with least text ≡ accepted p) ↔ LegalWith least text p
unfolding parse_with
with-legal least text p = (declared least text p, λ l. parse-commands l.1 (length text) (omega arith))

pub program-legal : (text : List ℕ) (p : Program) → (parse_program text ≡ accepted p) ↔ LegalProgram text p
program-legal = with-legal least_factor

-- Reading accepts the legal schedule texts and no others.
pub schedule-legal : (text : List ℕ) (puts : Parsed (List Put)) → (parse_schedule text ≡ accepted puts) ↔ LegalSchedule text puts
unfolding parse_schedule
schedule-legal text puts = (puts-spelled text puts, λ l. parse-puts (length text) [] l (omega arith))
