-- Reading a text is refused exactly where and as the relations of `Stops` say: 2 to 6, and 11. Assumes nothing.
use Prim.Native.Nat.{ℕ, zero, suc, ◌+◌, ◌≤◌, ◌<◌}
use mathlib.Core.Bool.{Bool, true, false, false≢true}
use mathlib.Core.List.{List, [], ◌∷◌, ◌++◌}
use mathlib.Core.Logic.{◌↔◌, ◌⊎◌, inl, inr}
use mathlib.Core.Path.{◌≡◌, refl, sym, ap, ◌∙◌}
use native.Mathlib.Omega.{arith}
use borrow.Author.Tests.{leb-true, leb-false, ltb-true, ltb-false, le-leb, lt-leb, lt-ltb, le-ltb, eqb-true, eq-eqb, ne_eqb}
use lib.Dec.{leb, ltb, eqb}
use lib.ListN.{length}
use Rattle.model.specs.Rules.Command.{is_operator, is_signal, declaration_at, operator_at}
use Rattle.model.specs.Rules.Outcome.{Outcome, accepted, refused, refuse, fault, ◌▷◌, provided, Parsed, parsed}
use Rattle.model.specs.Rules.Program.{
  Expr,
  Link,
  Program,
  empty,
  Limit,
  unlimited,
  limit,
  count,
  operator_here,
  node,
  parse_expr,
  parse_links,
  declare,
  is_unlimited,
  room_for,
  declaration_here,
  parse_commands,
  parse_with,
  is_allowed,
}
use Rattle.model.specs.Rules.Schedule.{Put, schedule_command_at, schedule_command, parse_puts, parse_schedule}
use Rattle.model.specs.Rules.Width.{in_program}
use Rattle.model.specs.Rules.Word.{byte_at}
use Rattle.model.specs.Says.Grammar.{IsSignal, DeclaresOne}
use Rattle.theorems_texts.specs.Stops.{HasOperands, SpellsOperands, StopsExpr, StopsLinks, Stops, StopsPuts}
use Rattle.model.specs.Says.Grammar.{HasRoom}
use Rattle.model.specs.Says.Written.{OperatorWritten, OperatorByte, DeclarationByte, PutCut}
use Rattle.model.specs.declared.Declaration.{Declaration}
use Rattle.model.specs.declared.Declaration.TheVariants as Declaration
use Rattle.model.specs.declared.Fault.{Fault}
use Rattle.model.specs.declared.Operator.{Operator}
use Rattle.model.specs.declared.Operator.TheVariants as Operator
use Rattle.model.specs.declared.ScheduleCommand.{ScheduleCommand}
use Rattle.model.specs.declared.ScheduleCommand.TheVariants as ScheduleCommand
use Rattle.model.proofs.Texts.Commands.{written_byte, written-inside, operator-of}
use Rattle.model.proofs.Texts.Legal.{links_end}
use Rattle.model.proofs.Basics.Outcomes.{
  not-true-false,
  accepted-then,
  refused-then,
  provided-true,
  true-provided,
  false-provided,
}
use Rattle.model.proofs.Texts.Parses.{expr-step, command-step, spells-after, parse-expr, fit, parse-links, parse-onward}
use Rattle.model.proofs.Texts.Picks.{
  picked,
  chosen-all,
  byte_inside,
  signal-inside,
  operator-inside,
  operator-byte,
  single-exactly,
}
use Rattle.model.proofs.Texts.Puts.{put-sound}
use Rattle.model.proofs.Texts.Room.{
  signal-is,
  operator-fit,
  fit-operator,
  declaration-fit,
  fit-declaration,
  signal-room,
  chain-room,
  cap-room,
  row_room,
  no-link-room,
}
use Rattle.model.proofs.Texts.Spelled.{spelled, links-spelled}
use Rattle.model.proofs.Texts.Written.{
  declaration-cut-inside,
  declaration-outside-inside,
  declaration-cut,
  declaration-outside,
  declaration-unknown,
  operator-cut-byte,
  operator-outside-byte,
  operator-cut,
  operator-outside,
  operator-unknown,
  put-cut,
  put-unknown,
  decoded,
  as_written,
  operator-decoded,
  operator-as-written,
  put-decoded,
  put-as-written,
}

-- What holds of a refusal, where there is one.
abbrev pub Refuses : {A : Type 0} → (Fault → Type 0) → Outcome A → Type 0
Refuses R (accepted a) = Unit {0}
Refuses R (refused f) = R f

pub refuses-fault : {A : Type 0} (R : Fault → Type 0) (o : Outcome A) (f : Fault) → Refuses R o → o ≡ refused f → R f
refuses-fault R o f h e = rw e at h

-- Step after step.
pub refuses-then : {A B : Type 0} (R : Fault → Type 0) (o : Outcome A) (next : A → Outcome B) → Refuses R o →
    ((a : A) → o ≡ accepted a → Refuses R (next a)) → Refuses R (o ▷ next)
unfolding ◌▷◌
refuses-then R (accepted a) next h g = g a refl
refuses-then R (refused f) next h g = h

refuses-map : {A : Type 0} (R S : Fault → Type 0) (o : Outcome A) → ((f : Fault) → R f → S f) → Refuses R o → Refuses S o
refuses-map R S (accepted a) g h = tt
refuses-map R S (refused f) g h = g f h

pub refuses-provided : (R : Fault → Type 0) (t : Bool) (n x : ℕ) → (t ≡ false → R (fault n x)) → Refuses R (provided t n x)
unfolding provided
refuses-provided R true n x g = tt
refuses-provided R false n x g = g refl

-- A command that ends early, of a byte that is there, is cut.
is_cut : {C : Type 0} (text : List ℕ) (at : ℕ) → at < length text → (length text ≤ at) ⊎ C → C
is_cut text at lt (inl le) = absurd (omega arith)
is_cut text at lt (inr c) = c

-- Expressions.
module _ (least : ℕ) (text : List ℕ) where
  -- 2 and 3 at an operator.
  here-stops : (d at : ℕ) → Refuses (StopsExpr least text d at) (operator_here text at)
  unfolding operator_here
  here-stops d at =
      let R = StopsExpr least text d at in
      refuses-then R (provided (ltb at (length text)) 2 (length text)) _
      (refuses-provided R _ 2 (length text) (λ t. StopsExpr.early (ltb-false _ _ t)))
      (λ u e.
      refuses-provided R _ 3 at (λ t.
      StopsExpr.unknown (ltb-true _ _ (provided-true _ 2 (length text) e))
      (λ o. false≢true (sym t ∙ (operator-byte (byte_at text at)).1 o))))

  -- An operand that stops, after k that are legal.
  module _
      (d at : ℕ)
      (sub : ℕ → Outcome (Parsed Expr))
      (stops : (a : ℕ) → Refuses (StopsExpr least text d a) (sub a))
      (spells : (a : ℕ) (x : Parsed Expr) → sub a ≡ accepted x → (k next : ℕ) → SpellsOperands least text d x.next k next →
      SpellsOperands least text d a (suc k) next)
    where
      operand-stops : {arity : ℕ} {c : Operator} (k next : ℕ) → OperatorWritten text at c → HasOperands c arity → k < arity →
          SpellsOperands least text d (at + 1) k next → Refuses (StopsExpr least text (suc d) at) (sub next)
      operand-stops k next w h lt o =
          refuses-map (StopsExpr least text d next) (StopsExpr least text (suc d) at) (sub next)
          (λ f s. StopsExpr.operand w h lt o s) (stops next)

      node-stops : (c : Operator) → operator_at text at ≡ c → OperatorByte (byte_at text at) →
          Refuses (StopsExpr least text (suc d) at) (node least sub text at c)
      unfolding node
      node-stops Operator.EndsEarly e i =
          StopsExpr.cut (is_cut text at (operator-inside text at i) ((operator-cut text at).0 e))
      node-stops Operator.Unknown e i = absurd (((operator-unknown text at).0 e).1 i)
      node-stops Operator.OutOfRange e i = StopsExpr.outside ((operator-outside text at).0 e)
      node-stops (Operator.Constant w) e i = tt
      node-stops (Operator.Read kind x) e i =
          let R = StopsExpr least text (suc d) at in
          refuses-then R (provided (is_allowed least kind x) 5 at) _
          (refuses-provided R _ 5 at (λ t.
          let s = (single-exactly least kind x).0 t in
          StopsExpr.single (operator-as-written _ tt e) s.0 s.1)) (λ u t. tt)
      node-stops (Operator.Binary operator) e i =
          let w = operator-as-written _ tt e in
          let h = HasOperands.binary in
          let R = StopsExpr least text (suc d) at in
          refuses-then R (sub (at + 1)) _ (operand-stops 0 (at + 1) w h (omega arith) SpellsOperands.none) (λ x u.
          refuses-then R (sub x.next) _
          (operand-stops 1 x.next w h (omega arith) (spells (at + 1) x u _ _ SpellsOperands.none)) (λ y v. tt))
      node-stops (Operator.Unary operator) e i =
          let w = operator-as-written _ tt e in
          let h = HasOperands.unary in
          let R = StopsExpr least text (suc d) at in
          refuses-then R (sub (at + 1)) _ (operand-stops 0 (at + 1) w h (omega arith) SpellsOperands.none) (λ x u. tt)
      node-stops Operator.If e i =
          let w = operator-as-written _ tt e in
          let h = HasOperands.choose in
          let R = StopsExpr least text (suc d) at in
          refuses-then R (sub (at + 1)) _ (operand-stops 0 (at + 1) w h (omega arith) SpellsOperands.none) (λ x u.
          refuses-then R (sub x.next) _
          (operand-stops 1 x.next w h (omega arith) (spells (at + 1) x u _ _ SpellsOperands.none)) (λ y v.
          refuses-then R (sub y.next) _
          (operand-stops 2 y.next w h (omega arith) (spells (at + 1) x u _ _ (spells x.next y v _ _ SpellsOperands.none)))
          (λ z w. tt)))

  -- An expression that is refused stops.
  expr-stops : (d at : ℕ) → Refuses (StopsExpr least text d at) (parse_expr least d text at)
  unfolding parse_expr
  expr-stops zero at =
      refuses-then (StopsExpr least text zero at) (operator_here text at) _ (here-stops zero at) (λ u e.
      StopsExpr.deep (fit-operator text at e))
  expr-stops (suc d) at =
      refuses-then (StopsExpr least text (suc d) at) (operator_here text at) _ (here-stops (suc d) at) (λ u e.
      node-stops d at (λ n. parse_expr least d text n) (λ a. expr-stops d a)
      (λ a x q k next o. let s = spelled least text d a x.value x.next q in SpellsOperands.more s.0 s.1 o)
      (operator_at text at) refl (fit-operator text at e))

  -- What stops is refused.
  here-refused : (d at : ℕ) (f : Fault) → operator_here text at ≡ refused f → parse_expr least d text at ≡ refused f
  unfolding parse_expr
  here-refused zero at f e = refused-then _ _ f e
  here-refused (suc d) at f e = refused-then _ _ f e

  early-here : (at : ℕ) → length text ≤ at → operator_here text at ≡ refuse 2 (length text)
  unfolding operator_here
  early-here at le = refused-then _ _ _ (false-provided _ 2 (length text) (le-ltb _ _ le))

  other-here : (at : ℕ) → at < length text → ¬ OperatorByte (byte_at text at) → operator_here text at ≡ refuse 3 at
  unfolding operator_here
  other-here at lt u =
      accepted-then _ _ tt (true-provided _ 2 (length text) (lt-ltb _ _ lt)) ∙
      false-provided _ 3 at (not-true-false (is_operator (byte_at text at)) (λ t. u ((operator-byte (byte_at text at)).0 t)))

  operand-refused : {arity k : ℕ} {c : Operator} (d at : ℕ) {next : ℕ} (f : Fault) → HasOperands c arity → k < arity →
      SpellsOperands least text d (at + 1) k next → parse_expr least d text next ≡ refused f →
      node least (λ n. parse_expr least d text n) text at c ≡ refused f
  unfolding node
  operand-refused d at f HasOperands.binary lt SpellsOperands.none e = refused-then _ _ f e
  operand-refused d at f HasOperands.binary lt (SpellsOperands.more u l SpellsOperands.none) e =
      accepted-then _ _ _ (parse-expr d u l) ∙ refused-then _ _ f e
  operand-refused d at f HasOperands.binary lt (SpellsOperands.more u l (SpellsOperands.more v m o)) e = absurd (omega arith)
  operand-refused d at f HasOperands.unary lt SpellsOperands.none e = refused-then _ _ f e
  operand-refused d at f HasOperands.unary lt (SpellsOperands.more u l o) e = absurd (omega arith)
  operand-refused d at f HasOperands.choose lt SpellsOperands.none e = refused-then _ _ f e
  operand-refused d at f HasOperands.choose lt (SpellsOperands.more u l SpellsOperands.none) e =
      accepted-then _ _ _ (parse-expr d u l) ∙ refused-then _ _ f e
  operand-refused d at f HasOperands.choose lt (SpellsOperands.more u l (SpellsOperands.more v m SpellsOperands.none)) e =
      accepted-then _ _ _ (parse-expr d u l) ∙ accepted-then _ _ _ (parse-expr d v m) ∙ refused-then _ _ f e
  operand-refused d at f HasOperands.choose lt
      (SpellsOperands.more u l (SpellsOperands.more v m (SpellsOperands.more w r o))) e = absurd (omega arith)

  expr-refused : {d at : ℕ} {f : Fault} → StopsExpr least text d at f → parse_expr least d text at ≡ refused f
  unfolding parse_expr node
  expr-refused (StopsExpr.early {d = d} {at = at} le) = here-refused d at _ (early-here at le)
  expr-refused (StopsExpr.unknown {d = d} {at = at} lt u) = here-refused d at _ (other-here at lt u)
  expr-refused (StopsExpr.deep {at = at} o) = accepted-then _ _ tt (operator-fit text at o)
  expr-refused (StopsExpr.cut {d = d} {at = at} c) =
      expr-step least text d at _ ((operator-cut text at).1 (inr c)) (operator-fit text at (operator-cut-byte text at c))
  expr-refused (StopsExpr.outside {d = d} {at = at} u) =
      expr-step least text d at _ ((operator-outside text at).1 u) (operator-fit text at (operator-outside-byte text at u))
  expr-refused (StopsExpr.single {d = d} {at = at} {kind = kind} {x = x} w i lt) =
      expr-step least text d at _ (operator-decoded w) (operator-fit text at (operator-of text at w)) ∙
      refused-then _ _ _ (false-provided _ 5 at ((single-exactly least kind x).1 (i, lt)))
  expr-refused (StopsExpr.operand {d = d} {at = at} w h lt o s) =
      expr-step least text d at _ (operator-decoded w) (operator-fit text at (operator-of text at w)) ∙
      operand-refused d at _ h lt o (expr-refused s)

  -- LINKs.
  links-stop : (room at : ℕ) (links : List Link) → Refuses (StopsLinks text room at) (parse_links room text at links)
  unfolding parse_links
  links-stop zero at links = go (eqb (byte_at text at) 0x13) refl
    where
      go : (b : Bool) → eqb (byte_at text at) 0x13 ≡ b →
          Refuses {A = Parsed (List Link)} (StopsLinks text zero at) (elim b [ true ↦ refuse 4 at | false ↦ parsed links at ])
      go true e = StopsLinks.many (eqb-true _ _ e)
      go false e = tt
  links-stop (suc room) at links = go (eqb (byte_at text at) 0x13) refl (links-stop room (at + 2) (links ++ (here ∷ [])))
    where
      here : Link
      here = record { place = at; signal = byte_at text (at + 1) }

      R : Fault → Type 0
      R = StopsLinks text (suc room) at

      go : (b : Bool) → eqb (byte_at text at) 0x13 ≡ b →
          Refuses (StopsLinks text room (at + 2)) (parse_links room text (at + 2) (links ++ (here ∷ []))) →
          Refuses {A = Parsed (List Link)} R (elim b [
            | true ↦
                provided (leb (at + 2) (length text)) 2 (length text) ▷ λ _.
                parse_links room text (at + 2) (links ++ (here ∷ []))
            | false ↦ parsed links at
          ])
      go true e h =
          refuses-then R (provided (leb (at + 2) (length text)) 2 (length text)) _
          (refuses-provided R (leb (at + 2) (length text)) 2 (length text) (λ t.
          StopsLinks.cut (eqb-true _ _ e) (leb-false _ _ t)))
          (λ u t.
          refuses-map (StopsLinks text room (at + 2)) R (parse_links room text (at + 2) (links ++ (here ∷ []))) (λ f s.
          StopsLinks.link (eqb-true _ _ e) (leb-true _ _ (provided-true _ 2 (length text) t)) s) h)
      go false e h = tt

  links-refused : {room at : ℕ} {f : Fault} (links : List Link) → StopsLinks text room at f →
      parse_links room text at links ≡ refused f
  unfolding parse_links
  links-refused links (StopsLinks.many {at = at} e) = rw (eq-eqb (byte_at text at) 0x13 e, parse_links)
  links-refused links (StopsLinks.cut {at = at} e lt) =
      rw (eq-eqb (byte_at text at) 0x13 e, parse_links)
      (refused-then _ _ _ (false-provided _ 2 (length text) (lt-leb (at + 2) (length text) lt)))
  links-refused links (StopsLinks.link {at = at} e le s) =
      rw (eq-eqb (byte_at text at) 0x13 e, parse_links)
      (accepted-then _ _ tt (true-provided _ 2 (length text) (le-leb (at + 2) (length text) le)) ∙
      links-refused (links ++ (record { place = at; signal = byte_at text (at + 1) } ∷ [])) s)

-- Commands.
capped : (l : Limit) → is_unlimited l ≡ false → ¬ (l ≡ unlimited)
capped l e q = false≢true (sym e ∙ ap is_unlimited q)

not-unlimited : (l : Limit) → ¬ (l ≡ unlimited) → is_unlimited l ≡ false
not-unlimited unlimited h = absurd (h refl)
not-unlimited (limit n) h = refl

not-signal : (b : ℕ) → is_signal b ≡ false → ¬ IsSignal b
not-signal b e h = false≢true (sym e ∙ (signal-is b).1 h)

no-signal : (b : ℕ) → ¬ IsSignal b → is_signal b ≡ false
no-signal b u = go (is_signal b) refl
  where
    go : (t : Bool) → is_signal b ≡ t → is_signal b ≡ false
    go true e = absurd (u ((signal-is b).0 e))
    go false e = e

-- A byte that asks for no room is no declaration's.
no_byte : {b : ℕ} → ¬ (b ≡ 0x00) → ¬ IsSignal b → ¬ (b ≡ 0x12) → ¬ (b ≡ 0x14) → ¬ (b ≡ 0x15) → ¬ (b ≡ 0x16) →
    ¬ DeclarationByte b
no_byte e s l c t r (DeclarationByte.end h) = e h
no_byte e s l c t r (DeclarationByte.input h) = s (inl h)
no_byte e s l c t r (DeclarationByte.equation h) = s (inr h)
no_byte e s l c t r (DeclarationByte.latency h) = l h
no_byte e s l c t r (DeclarationByte.cap h) = c h
no_byte e s l c t r (DeclarationByte.tag h) = t h
no_byte e s l c t r (DeclarationByte.row h) = r h

module _ (least : ℕ) (text : List ℕ) where
  module _ (at label : ℕ) (p : Program) where
    abbrev S : Fault → Type 0
    S = Stops least text at label p

    -- 2, 3, then counts and second CAP.
    room-stops : at < length text → Refuses S (room_for at p (byte_at text at))
    unfolding room_for
    room-stops lt =
        let b = byte_at text at in
        picked (Refuses S) b 0x00 _ _ (λ e. tt) (λ e.
        chosen-all (Refuses S) (is_signal b) _ _
        (λ t. refuses-provided S _ 4 at (λ u. Stops.signals ((signal-is b).0 t) (ltb-false _ _ u))) (λ s.
        picked (Refuses S) b 0x12 _ _ (λ h. refuses-provided S _ 4 at (λ u. Stops.chains h (ltb-false _ _ u))) (λ l.
        picked (Refuses S) b 0x14 _ _ (λ h. refuses-provided S _ 5 at (λ u. Stops.second h (capped p.cap u))) (λ c.
        picked (Refuses S) b 0x15 _ _ (λ h. tt) (λ t.
        picked (Refuses S) b 0x16 _ _ (λ h. refuses-provided S _ 4 at (λ u. Stops.rows h (ltb-false _ _ u))) (λ r.
        Stops.unknown lt (no_byte e (not-signal b s) l c t r)))))))

    here-stop : Refuses S (declaration_here text at p)
    unfolding declaration_here
    here-stop =
        refuses-then S (provided (ltb at (length text)) 2 (length text)) _
        (refuses-provided S _ 2 (length text) (λ t. Stops.early (ltb-false _ _ t)))
        (λ u e. room-stops (ltb-true _ _ (provided-true _ 2 (length text) e)))

    -- The command is fit; `next` reads on from any offset after it.
    module _
        (next : ℕ → ℕ → Program → Outcome Program)
        (stops : (a l : ℕ) (q : Program) → at < a → Refuses (Stops least text a l q) (next a l q))
      where
        onward : {a l : ℕ} {q : Program} → at < a → DeclaresOne least text at label p a l q →
            Refuses (Stops least text at label p) (next a l q)
        onward {a} {l} {q} lt d =
            refuses-map (Stops least text a l q) (Stops least text at label p) (next a l q) (λ f s. Stops.onward d s)
            (stops a l q lt)

        declare-stops : (c : Declaration) → declaration_at text at ≡ c → HasRoom p (byte_at text at) → at < length text →
            Refuses (Stops least text at label p) (declare least next text at label p c)
        unfolding declare
        declare-stops Declaration.EndsEarly e r lt = Stops.cut r (is_cut text at lt ((declaration-cut text at).0 e))
        declare-stops Declaration.Unknown e r lt =
            Stops.unknown lt ((declaration-unknown text at).0 e).1
        declare-stops Declaration.OutOfRange e r lt = Stops.outside r ((declaration-outside text at).0 e)
        declare-stops Declaration.End e r lt =
            refuses-then (Stops least text at label p) (provided (leb (length text) (at + 1)) 6 (at + 1)) _
            (refuses-provided (Stops least text at label p) _ 6 (at + 1) (λ t.
            Stops.trailing (as_written _ tt e) (leb-false _ _ t))) (λ u t. tt)
        declare-stops (Declaration.Input period initial) e r lt =
            onward (omega arith) (DeclaresOne.inputs (signal-room p r (inl (written_byte text at (as_written _ tt e))))
            (as_written _ tt e))
        declare-stops (Declaration.Equation period initial weight) e r lt =
            let room = signal-room p r (inr (written_byte text at (as_written _ tt e))) in
            refuses-then (Stops least text at label p) (parse_expr least 16 text (at + in_program 0x11)) _
            (refuses-map (StopsExpr least text 16 (at + in_program 0x11)) (Stops least text at label p)
            (parse_expr least 16 text (at + in_program 0x11)) (λ f s. Stops.expression room (as_written _ tt e) s)
            (expr-stops least text 16 (at + in_program 0x11)))
            (λ o q.
            let s = spelled least text 16 (at + in_program 0x11) o.value o.next q in
            onward (omega (arith, spells-after s.0)) (DeclaresOne.equations room (as_written _ tt e) s.0 s.1))
        declare-stops (Declaration.Latency mode bound) e r lt =
            let room = chain-room p r (written_byte text at (as_written _ tt e)) in
            refuses-then (Stops least text at label p) (parse_links 16 text (at + 4) []) _
            (refuses-map (StopsLinks text 16 (at + 4)) (Stops least text at label p) (parse_links 16 text (at + 4) []) (λ f s.
            Stops.links room (as_written _ tt e) s) (links-stop least text 16 (at + 4) []))
            (λ o q.
            let s = links-spelled least text 16 (at + 4) o q in
            refuses-then (Stops least text at label p) (provided (leb 2 (length o.value)) 5 at) _
            (refuses-provided (Stops least text at label p) _ 5 at (λ t.
            Stops.short room (as_written _ tt e) s.0 (leb-false _ _ t)))
            (λ u t.
            onward (omega (arith, links_end s.0))
            (DeclaresOne.chains room (as_written _ tt e) s.0 (leb-true _ _ (provided-true _ 5 at t)) s.1)))
        declare-stops (Declaration.Link signal) e r lt = absurd (no-link-room p r (written_byte text at (as_written _ tt e)))
        declare-stops (Declaration.Cap n) e r lt =
            onward (omega arith) (DeclaresOne.caps (cap-room p r (written_byte text at (as_written _ tt e))) (as_written _ tt e))
        declare-stops (Declaration.Row low high result) e r lt =
            onward (omega arith) (DeclaresOne.rows (row_room p r (written_byte text at (as_written _ tt e))) (as_written _ tt e))
        declare-stops (Declaration.Tag given) e r lt =
            let after = at + in_program 0x15 in
            refuses-then (Stops least text at label p) (provided (ltb after (length text)) 2 (length text)) _
            (refuses-provided (Stops least text at label p) _ 2 (length text) (λ t.
            Stops.unfollowed (as_written _ tt e) (ltb-false _ _ t)))
            (λ u t.
            let more = ltb-true _ _ (provided-true _ 2 (length text) t) in
            refuses-then (Stops least text at label p) (provided (is_signal (byte_at text after)) 3 at) _
            (refuses-provided (Stops least text at label p) _ 3 at (λ f. Stops.stray (as_written _ tt e) more (not-signal _ f)))
            (λ v f. onward (omega arith) (DeclaresOne.tags (as_written _ tt e) more ((signal-is _).0 (provided-true _ 3 at f)))))

  -- Commands that are refused stop.
  commands-stop : (left at label : ℕ) (p : Program) → length text ≤ at + left →
      Refuses (Stops least text at label p) (parse_commands least left text at label p)
  unfolding parse_commands
  commands-stop zero at label p enough = let le : length text ≤ at = omega arith in Stops.early le
  commands-stop (suc left) at label p enough =
      refuses-then (Stops least text at label p) (declaration_here text at p) _ (here-stop at label p) (λ u e.
      let h = fit-declaration p text at e in
      declare-stops at label p (λ n l q. parse_commands least left text n l q) (λ a l q lt. commands-stop left a l q (omega arith))
      (declaration_at text at) refl h.1 h.0)

  -- What stops is refused.
  room-refused : (at : ℕ) (p : Program) (f : Fault) → at < length text → room_for at p (byte_at text at) ≡ refused f →
      declaration_here text at p ≡ refused f
  unfolding declaration_here
  room-refused at p f lt e = accepted-then _ _ tt (true-provided _ 2 (length text) (lt-ltb _ _ lt)) ∙ e

  unknown-here : (at : ℕ) (p : Program) → ¬ DeclarationByte (byte_at text at) → room_for at p (byte_at text at) ≡ refuse 3 at
  unfolding room_for
  unknown-here at p u =
      let b = byte_at text at in
      rw (
        ne_eqb b 0x00 (λ e. u (DeclarationByte.end e)),
        ne_eqb b 0x10 (λ e. u (DeclarationByte.input e)),
        ne_eqb b 0x11 (λ e. u (DeclarationByte.equation e)),
        ne_eqb b 0x12 (λ e. u (DeclarationByte.latency e)),
        ne_eqb b 0x14 (λ e. u (DeclarationByte.cap e)),
        ne_eqb b 0x15 (λ e. u (DeclarationByte.tag e)),
        ne_eqb b 0x16 (λ e. u (DeclarationByte.row e)),
      )

  many-here : (at : ℕ) (p : Program) → IsSignal (byte_at text at) → 64 ≤ count p → room_for at p (byte_at text at) ≡ refuse 4 at
  unfolding room_for
  many-here at p (inl b) many = rw b (false-provided _ 4 at (le-ltb _ _ many))
  many-here at p (inr b) many = rw b (false-provided _ 4 at (le-ltb _ _ many))

  chains-here : (at : ℕ) (p : Program) → byte_at text at ≡ 0x12 → 16 ≤ length p.chains →
      room_for at p (byte_at text at) ≡ refuse 4 at
  unfolding room_for
  chains-here at p b many = rw b (false-provided _ 4 at (le-ltb _ _ many))

  rows-here : (at : ℕ) (p : Program) → byte_at text at ≡ 0x16 → 32 ≤ length p.rows →
      room_for at p (byte_at text at) ≡ refuse 4 at
  unfolding room_for
  rows-here at p b many = rw b (false-provided _ 4 at (le-ltb _ _ many))

  second-here : (at : ℕ) (p : Program) → byte_at text at ≡ 0x14 → ¬ (p.cap ≡ unlimited) →
      room_for at p (byte_at text at) ≡ refuse 5 at
  unfolding room_for
  second-here at p b u = rw b (false-provided _ 5 at (not-unlimited p.cap u))

  -- A command that is there and refused before its operands.
  judged-refused : (left at label : ℕ) (p : Program) (f : Fault) → at < length text → length text ≤ at + left →
      room_for at p (byte_at text at) ≡ refused f → parse_commands least left text at label p ≡ refused f
  unfolding parse_commands
  judged-refused zero at label p f lt enough e = absurd (omega arith)
  judged-refused (suc left) at label p f lt enough e = refused-then _ _ f (room-refused at p f lt e)

  -- A command that is fit, and refused by its operands or what stands after them.
  declared-refused : (left at label : ℕ) (p : Program) (f : Fault) (c : Declaration) → declaration_at text at ≡ c →
      at < length text →
      declaration_here text at p ≡ accepted tt → length text ≤ at + left →
      ((next : ℕ → ℕ → Program → Outcome Program) → declare least next text at label p c ≡ refused f) →
      parse_commands least left text at label p ≡ refused f
  declared-refused zero at label p f c e lt r enough g = absurd (omega arith)
  declared-refused (suc left) at label p f c e lt r enough g =
      command-step least text left at label p c e r ∙ g (λ n l q. parse_commands least left text n l q)

  commands-refused : {at label : ℕ} {p : Program} {f : Fault} → Stops least text at label p f → (left : ℕ) →
      length text ≤ at + left → parse_commands least left text at label p ≡ refused f
  unfolding declare parse_commands declaration_here
  commands-refused (Stops.onward d s) left enough = parse-onward _ d (λ k l. commands-refused s k l) left enough
  commands-refused (Stops.early le) zero enough = refl
  commands-refused (Stops.early {at = at} le) (suc left) enough =
      refused-then _ _ _ (refused-then _ _ _ (false-provided _ 2 (length text) (le-ltb _ _ le)))
  commands-refused (Stops.unknown {at = at} {label = label} {p = p} lt u) left enough =
      judged-refused left at label p _ lt enough (unknown-here at p u)
  commands-refused (Stops.signals {at = at} {label = label} {p = p} s many) left enough =
      judged-refused left at label p _ (signal-inside text at s) enough (many-here at p s many)
  commands-refused (Stops.chains {at = at} {label = label} {p = p} b many) left enough =
      let lt = byte_inside text at (omega arith) in
      judged-refused left at label p _ lt enough
      (chains-here at p b many)
  commands-refused (Stops.rows {at = at} {label = label} {p = p} b many) left enough =
      let lt = byte_inside text at (omega arith) in
      judged-refused left at label p _ lt enough
      (rows-here at p b many)
  commands-refused (Stops.second {at = at} {label = label} {p = p} b u) left enough =
      let lt = byte_inside text at (omega arith) in
      judged-refused left at label p _ lt enough
      (second-here at p b u)
  commands-refused (Stops.cut {at = at} {label = label} {p = p} r c) left enough =
      let lt = declaration-cut-inside text at c in
      declared-refused left at label p _ _ ((declaration-cut text at).1 (inr c)) lt (declaration-fit p text at lt r) enough
      (λ next. refl)
  commands-refused (Stops.outside {at = at} {label = label} {p = p} r o) left enough =
      let lt = declaration-outside-inside text at o in
      declared-refused left at label p _ _ ((declaration-outside text at).1 o) lt (declaration-fit p text at lt r) enough
      (λ next. refl)
  commands-refused (Stops.expression {at = at} {label = label} {p = p} room w s) left enough =
      declared-refused left at label p _ _ (decoded w) (written-inside text at w)
      (fit at p w (HasRoom.signal (inr (written_byte text at w)) room)) enough (λ next.
      refused-then _ _ _ (expr-refused least text s))
  commands-refused (Stops.links {at = at} {label = label} {p = p} room w s) left enough =
      declared-refused left at label p _ _ (decoded w) (written-inside text at w)
      (fit at p w (HasRoom.latency (written_byte text at w) room)) enough (λ next.
      refused-then _ _ _ (links-refused least text [] s))
  commands-refused (Stops.short {at = at} {label = label} {p = p} room w u lt) left enough =
      declared-refused left at label p _ _ (decoded w) (written-inside text at w)
      (fit at p w (HasRoom.latency (written_byte text at w) room)) enough (λ next.
      accepted-then _ _ _ (parse-links 16 [] u (omega arith)) ∙
      refused-then _ _ _ (false-provided _ 5 at (lt-leb _ _ lt)))
  commands-refused (Stops.trailing {at = at} {label = label} {p = p} w lt) left enough =
      declared-refused left at label p _ _ (decoded w) (written-inside text at w)
      (fit at p w (HasRoom.end (written_byte text at w))) enough (λ next.
      refused-then _ _ _ (false-provided _ 6 (at + 1) (lt-leb _ _ lt)))
  commands-refused (Stops.unfollowed {at = at} {label = label} {p = p} w le) left enough =
      declared-refused left at label p _ _ (decoded w) (written-inside text at w)
      (fit at p w (HasRoom.tag (written_byte text at w))) enough (λ next.
      refused-then _ _ _ (false-provided _ 2 (length text) (le-ltb _ _ le)))
  commands-refused (Stops.stray {at = at} {label = label} {p = p} w lt u) left enough =
      declared-refused left at label p _ _ (decoded w) (written-inside text at w)
      (fit at p w (HasRoom.tag (written_byte text at w))) enough (λ next.
      accepted-then _ _ tt (true-provided _ 2 (length text) (lt-ltb _ _ lt)) ∙
      refused-then _ _ _ (false-provided _ 3 at (no-signal _ u)))

  -- PUTs.
  module _
      (at : ℕ)
      (next : ℕ → List Put → Outcome (Parsed (List Put)))
      (stops : (a : ℕ) (qs : List Put) → at < a → Refuses (StopsPuts text a) (next a qs))
    where
      abbrev R : Fault → Type 0
      R = StopsPuts text at

      put-early : (length text ≤ at) ⊎ PutCut text at → StopsPuts text at (fault 11 (length text))
      put-early (inl le) = StopsPuts.early le
      put-early (inr c) = StopsPuts.cut c

      put-stops : (puts : List Put) (c : ScheduleCommand) → schedule_command_at text at ≡ c →
          Refuses R (schedule_command next text at puts c)
      unfolding schedule_command
      put-stops puts ScheduleCommand.EndsEarly e = put-early ((put-cut text at).0 e)
      put-stops puts ScheduleCommand.Unknown e = let h = (put-unknown text at).0 e in StopsPuts.unknown h.0 h.1
      put-stops puts ScheduleCommand.End e =
          refuses-then R (provided (leb (length text) (at + 1)) 11 (at + 1)) _
          (refuses-provided R _ 11 (at + 1) (λ t. StopsPuts.trailing (put-as-written _ tt e) (leb-false _ _ t)))
          (λ u t. tt)
      put-stops puts (ScheduleCommand.Put signal phase) e =
          let qs : List Put = puts ++ (record { place = at; signal = signal; phase = phase } ∷ []) in
          refuses-map (StopsPuts text (at + 3)) R (next (at + 3) qs)
          (λ f s. StopsPuts.onward (put-as-written _ tt e) s) (stops (at + 3) qs (omega arith))

  puts-stop : (left at : ℕ) (puts : List Put) → length text ≤ at + left →
      Refuses (StopsPuts text at) (parse_puts left text at puts)
  unfolding parse_puts
  puts-stop zero at puts enough = let le : length text ≤ at = omega arith in StopsPuts.early le
  puts-stop (suc left) at puts enough =
      put-stops at (λ n qs. parse_puts left text n qs) (λ a qs lt. puts-stop left a qs (omega arith)) puts
      (schedule_command_at text at) refl

  puts-refused : {at : ℕ} {f : Fault} → StopsPuts text at f → (left : ℕ) (puts : List Put) → length text ≤ at + left →
      parse_puts left text at puts ≡ refused f
  unfolding parse_puts schedule_command
  puts-refused (StopsPuts.onward {at = at} w s) zero puts enough =
      absurd (omega (arith, (put-sound text at _ (put-decoded w)).2))
  puts-refused (StopsPuts.onward {at = at} {signal = signal} {phase = phase} w s) (suc left) puts enough =
      ap (schedule_command (λ n qs. parse_puts left text n qs) text at puts) (put-decoded w) ∙
      puts-refused s left (puts ++ (record { place = at; signal = signal; phase = phase } ∷ [])) (omega arith)
  puts-refused (StopsPuts.early le) zero puts enough = refl
  puts-refused (StopsPuts.early {at = at} le) (suc left) puts enough =
      ap (schedule_command (λ n qs. parse_puts left text n qs) text at puts) ((put-cut text at).1 (inl le))
  puts-refused (StopsPuts.cut c) zero puts enough = refl
  puts-refused (StopsPuts.cut {at = at} c) (suc left) puts enough =
      ap (schedule_command (λ n qs. parse_puts left text n qs) text at puts) ((put-cut text at).1 (inr c))
  puts-refused (StopsPuts.unknown lt u) zero puts enough = absurd (omega arith)
  puts-refused (StopsPuts.unknown {at = at} lt u) (suc left) puts enough =
      ap (schedule_command (λ n qs. parse_puts left text n qs) text at puts) ((put-unknown text at).1 (lt, u))
  puts-refused (StopsPuts.trailing w lt) zero puts enough = absurd (omega arith)
  puts-refused (StopsPuts.trailing {at = at} w lt) (suc left) puts enough =
      ap (schedule_command (λ n qs. parse_puts left text n qs) text at puts) (put-decoded w) ∙
      refused-then _ _ _ (false-provided _ 11 (at + 1) (lt-leb _ _ lt))

-- Reading a program text is refused exactly where and as it stops.
pub with-stops : (least : ℕ) (text : List ℕ) (f : Fault) → (parse_with least text ≡ refused f) ↔ Stops least text 0 0 empty f
unfolding parse_with
with-stops least text f = (
  λ e.
      refuses-fault (Stops least text 0 0 empty) _ f
      (commands-stop least text (length text) 0 0 empty (omega arith)) e,
  λ s. commands-refused least text s (length text) (omega arith),
)

-- Reading a schedule text is refused exactly where it stops.
pub schedule-stops : (text : List ℕ) (f : Fault) → (parse_schedule text ≡ refused f) ↔ StopsPuts text 0 f
unfolding parse_schedule
schedule-stops text f = (
  λ e. refuses-fault (StopsPuts text 0) _ f (puts-stop 2 text (length text) 0 [] (omega arith)) e,
  λ s. puts-refused 2 text s (length text) [] (omega arith),
)
