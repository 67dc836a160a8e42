-- What the parser accepts is spelled as the grammar says: inductions over an accepted text go by its relations.
-- Assumes nothing.
use Prim.Native.Nat.{ℕ, zero, suc, ◌+◌, ◌≤◌}
use mathlib.Core.Bool.{Bool, true, false}
use mathlib.Core.List.{List, [], ◌∷◌, ◌++◌, append_assoc, append-nil}
use mathlib.Core.Logic.{inl, inr}
use mathlib.Core.Path.{◌≡◌, refl, sym, ◌∙◌}
use native.Mathlib.Omega.{arith}
use borrow.Author.Tests.{leb-true, ltb-true, eqb-true}
use lib.Dec.{leb, ltb, eqb}
use lib.ListN.{length}
use Rattle.model.specs.Rules.Command.{declaration_at, operator_at, is_signal}
use Rattle.model.specs.Rules.Outcome.{Outcome, accepted, refuse, ◌▷◌, provided, Parsed, parsed}
use Rattle.model.specs.Rules.Program.{
  Expr,
  Link,
  Program,
  empty,
  operator_here,
  node,
  parse_expr,
  parse_links,
  declare,
  declaration_here,
  parse_commands,
  parse_with,
  is_allowed,
}
use Rattle.model.specs.Rules.Width.{in_program}
use Rattle.model.specs.Rules.Word.{byte_at}
pub use Rattle.model.specs.Says.Grammar.{Spells, SpellsLinks, DeclaresOne, Declares}
use Rattle.model.specs.Says.Grammar.{HasRoom}
use Rattle.model.specs.declared.Declaration.{Declaration}
use Rattle.model.specs.declared.Declaration.TheVariants as Declaration
use Rattle.model.specs.declared.Operator.{Operator}
use Rattle.model.specs.declared.Operator.TheVariants as Operator
use Rattle.model.proofs.Images.Bounds.{depth}
use Rattle.model.proofs.Texts.Commands.{written_byte}
use Rattle.model.proofs.Basics.Outcomes.{Holds, holds-value, value-holds, holds_then, holds-map, holds-provided}
use Rattle.model.proofs.Texts.Picks.{allowed-exactly}
use Rattle.model.proofs.Texts.Room.{signal-is, fit-declaration, signal-room, chain-room, cap-room, row_room}
use Rattle.model.proofs.Texts.Written.{as_written, operator-as-written}

module _ (least : ℕ) (text : List ℕ) where
  -- An expression read at `at`, at most d deep.
  abbrev Reads : ℕ → ℕ → Parsed Expr → Type 0
  Reads d at e = Spells least text at e.value e.next × (depth e.value ≤ d)

  reads-node : (d : ℕ) (sub : ℕ → Outcome (Parsed Expr)) → ((a : ℕ) → Holds (Reads d a) (sub a)) → (at : ℕ) (c : Operator) →
      operator_at text at ≡ c → Holds (Reads (suc d) at) (node least sub text at c)
  unfolding node
  reads-node d sub h at Operator.EndsEarly e = tt
  reads-node d sub h at Operator.Unknown e = tt
  reads-node d sub h at Operator.OutOfRange e = tt
  reads-node d sub h at (Operator.Constant w) e = (Spells.constants (operator-as-written _ tt e), omega arith)
  reads-node d sub h at (Operator.Read kind x) e =
      holds-provided (Reads (suc d) at) (is_allowed least kind x) 5 at _ (λ t.
      (Spells.reads (operator-as-written _ tt e) ((allowed-exactly least kind x).0 t), omega arith))
  reads-node d sub h at (Operator.Binary operator) e =
      holds_then (Reads d (at + 1)) (Reads (suc d) at) (sub (at + 1)) _ (h (at + 1)) (λ x u.
      holds_then (Reads d x.next) (Reads (suc d) at) (sub x.next) _ (h x.next) (λ y v.
      (Spells.two (operator-as-written _ tt e) u.0 v.0, omega arith)))
  reads-node d sub h at (Operator.Unary operator) e =
      holds_then (Reads d (at + 1)) (Reads (suc d) at) (sub (at + 1)) _ (h (at + 1)) (λ x u.
      (Spells.one (operator-as-written _ tt e) u.0, omega arith))
  reads-node d sub h at Operator.If e =
      holds_then (Reads d (at + 1)) (Reads (suc d) at) (sub (at + 1)) _ (h (at + 1)) (λ x u.
      holds_then (Reads d x.next) (Reads (suc d) at) (sub x.next) _ (h x.next) (λ y v.
      holds_then (Reads d y.next) (Reads (suc d) at) (sub y.next) _ (h y.next) (λ z w.
      (Spells.three (operator-as-written _ tt e) u.0 v.0 w.0, omega arith))))

  reads-expr : (d at : ℕ) → Holds (Reads d at) (parse_expr least d text at)
  unfolding parse_expr
  reads-expr zero at =
      let here = operator_here text at in
      holds_then (λ u. here ≡ accepted u) (Reads zero at) here _ (value-holds here) (λ u e. tt)
  reads-expr (suc d) at =
      let here = operator_here text at in
      holds_then (λ u. here ≡ accepted u) (Reads (suc d) at) here _ (value-holds here) (λ u e.
      reads-node d (λ n. parse_expr least d text n) (λ a. reads-expr d a) at (operator_at text at) refl)

  -- An accepted expression is spelled, and nests at most d deep.
  pub spelled : (d at : ℕ) (e : Expr) (next : ℕ) → parse_expr least d text at ≡ parsed e next →
      Spells least text at e next × (depth e ≤ d)
  spelled d at e next q =
      holds-value (Reads d at) (parse_expr least d text at) (record { value = e; next = next }) (reads-expr d at) q

  -- LINKs read at `at` after those of `links`, at most `room`.
  abbrev ReadsLinks : ℕ → ℕ → List Link → Parsed (List Link) → Type 0
  ReadsLinks room at links o =
      (ls : List Link) × (o.value ≡ links ++ ls) × SpellsLinks text at ls o.next × (length ls ≤ room)

  reads-links : (room at : ℕ) (links : List Link) → Holds (ReadsLinks room at links) (parse_links room text at links)
  unfolding parse_links
  reads-links zero at links = go (eqb (byte_at text at) 0x13) refl
    where
      go : (b : Bool) → eqb (byte_at text at) 0x13 ≡ b →
          Holds (ReadsLinks zero at links) (elim b [ true ↦ refuse 4 at | false ↦ parsed links at ])
      go true e = tt
      go false e = ([], sym (append-nil links), SpellsLinks.ends e, omega arith)
  reads-links (suc room) at links =
      go (eqb (byte_at text at) 0x13) refl (reads-links room (at + 2) (links ++ (here ∷ [])))
    where
      here : Link
      here = record { place = at; signal = byte_at text (at + 1) }

      go : (b : Bool) → eqb (byte_at text at) 0x13 ≡ b →
          Holds (ReadsLinks room (at + 2) (links ++ (here ∷ []))) (parse_links room text (at + 2) (links ++ (here ∷ []))) →
          Holds (ReadsLinks (suc room) at links) (elim b [
            | true ↦
                provided (leb (at + 2) (length text)) 2 (length text) ▷ λ _.
                parse_links room text (at + 2) (links ++ (here ∷ []))
            | false ↦ parsed links at
          ])
      go true e h =
          holds-provided (ReadsLinks (suc room) at links) (leb (at + 2) (length text)) 2 (length text)
          (parse_links room text (at + 2) (links ++ (here ∷ []))) (λ t.
          holds-map (ReadsLinks room (at + 2) (links ++ (here ∷ []))) (ReadsLinks (suc room) at links)
          (parse_links room text (at + 2) (links ++ (here ∷ []))) (λ o r. (
            here ∷ r.0,
            r.1 ∙ append_assoc links (here ∷ []) r.0,
            SpellsLinks.link (eqb-true (byte_at text at) 0x13 e) (leb-true (at + 2) (length text) t) r.2,
            omega arith,
          )) h)
      go false e h = ([], sym (append-nil links), SpellsLinks.ends e, omega arith)

  -- Accepted LINKs are spelled.
  pub links-spelled : (room at : ℕ) (o : Parsed (List Link)) → parse_links room text at [] ≡ accepted o →
      SpellsLinks text at o.value o.next × (length o.value ≤ room)
  links-spelled room at o e =
      let h = holds-value (ReadsLinks room at []) (parse_links room text at []) o (reads-links room at []) e in
      (rw h.1 h.2, rw h.1 h.3)

  abbrev Ended : ℕ → ℕ → Program → Program → Type 0
  Ended at label p q = (end : ℕ) × Declares least text at label p end q

  -- The commands after this one are read by `next`.
  module _
      (next : ℕ → ℕ → Program → Outcome Program)
      (h : (a l : ℕ) (p : Program) → Holds (Ended a l p) (next a l p))
      (at label : ℕ)
      (p : Program)
    where
      onward : {a l : ℕ} {r : Program} → DeclaresOne least text at label p a l r → Holds (Ended at label p) (next a l r)
      onward {a} {l} {r} d =
          holds-map (Ended a l r) (Ended at label p) (next a l r) (λ q x. (x.0, Declares.onward d x.1)) (h a l r)

      declares : (c : Declaration) → declaration_at text at ≡ c → HasRoom p (byte_at text at) →
          Holds (Ended at label p) (declare least next text at label p c)
      unfolding declare
      declares Declaration.EndsEarly e room = tt
      declares Declaration.Unknown e room = tt
      declares Declaration.OutOfRange e room = tt
      declares Declaration.End e room =
          holds-provided (Ended at label p) (leb (length text) (at + 1)) 6 (at + 1) (accepted p) (λ t.
          (at, Declares.ends (as_written _ tt e) (leb-true _ _ t)))
      declares (Declaration.Input period initial) e room =
          let w = as_written _ tt e in
          onward (DeclaresOne.inputs (signal-room p room (inl (written_byte text at w))) w)
      declares (Declaration.Equation period initial weight) e room =
          let w = as_written _ tt e in
          holds_then (Reads 16 (at + in_program 0x11)) (Ended at label p) (parse_expr least 16 text (at + in_program 0x11)) _
          (reads-expr 16 (at + in_program 0x11)) (λ x u.
          onward (DeclaresOne.equations (signal-room p room (inr (written_byte text at w))) w u.0 u.1))
      declares (Declaration.Latency mode bound) e room =
          let w = as_written _ tt e in
          holds_then (ReadsLinks 16 (at + 4) []) (Ended at label p) (parse_links 16 text (at + 4) []) _
          (reads-links 16 (at + 4) []) (λ x u.
          holds-provided (Ended at label p) (leb 2 (length x.value)) 5 at _ (λ t.
          onward
          (DeclaresOne.chains (chain-room p room (written_byte text at w)) w (rw u.1 u.2)
          (leb-true 2 (length x.value) t) (rw u.1 u.3))))
      declares (Declaration.Link signal) e room = tt
      declares (Declaration.Cap n) e room =
          let w = as_written _ tt e in
          onward (DeclaresOne.caps (cap-room p room (written_byte text at w)) w)
      declares (Declaration.Tag given) e room =
          let next = at + in_program 0x15 in
          holds-provided (Ended at label p) (ltb next (length text)) _ _ _ (λ t.
          holds-provided (Ended at label p) (is_signal (byte_at text next)) _ _ _ (λ u.
          onward (DeclaresOne.tags (as_written _ tt e) (ltb-true next (length text) t) ((signal-is (byte_at text next)).0 u))))
      declares (Declaration.Row low high result) e room =
          let w = as_written _ tt e in
          onward (DeclaresOne.rows (row_room p room (written_byte text at w)) w)

  declares-commands : (left at label : ℕ) (p : Program) → Holds (Ended at label p) (parse_commands least left text at label p)
  unfolding parse_commands
  declares-commands zero at label p = tt
  declares-commands (suc left) at label p =
      let here = declaration_here text at p in
      holds_then (λ u. here ≡ accepted u) (Ended at label p) here _ (value-holds here) (λ u e.
      declares (λ n l q. parse_commands least left text n l q) (λ a l q. declares-commands left a l q) at label p
      (declaration_at text at) refl (fit-declaration p text at e).1)

  -- An accepted text declares its program.
  pub declared : (p : Program) → parse_with least text ≡ accepted p → (end : ℕ) × Declares least text 0 0 empty end p
  unfolding parse_with
  declared p e =
      holds-value (Ended 0 0 empty) (parse_commands least (length text) text 0 0 empty) p
      (declares-commands (length text) 0 0 empty) e
