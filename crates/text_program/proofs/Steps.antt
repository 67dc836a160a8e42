-- What the step of each declaration says of the definition. Assumes nothing.
use Rattle.std.specs.Prelude.{Result, Ok, Err}
use mathlib.Core.Path.{◌≡◌, refl, ◌∙◌}
use mathlib.Core.Bool.{Bool, true, false, cond}
use mathlib.Core.List.{List, [], ◌∷◌}
use mathlib.Core.Logic.{inl, inr}
use Prim.Native.Nat.{ℕ, suc, ◌+◌}
use native.Mathlib.Omega.{arith}
use lib.Dec.{leb, ltb}
use lib.IntN.{ℤ}
use lib.ListN.{length, length-append}
use Rattle.model.specs.Rules.Command.{is_signal, declaration_at}
use Rattle.model.specs.Rules.Image.{expr_code}
use Rattle.model.specs.Rules.Outcome.{Outcome, accepted, refused, fault, refuse, ◌▷◌, provided, Parsed}
use Rattle.model.specs.Rules.Program.{
  Program,
  Signal,
  Expr,
  Link,
  input,
  equation,
  with_signal,
  with_chain,
  with_cap,
  with_row,
  declaration_here,
  declare,
  parse_commands,
  parse_expr,
  parse_links,
  reads_of,
  expr_lookups,
}
use Rattle.model.specs.Rules.Word.{byte_at}
use Rattle.model.specs.Says.Grammar.{HasRoom}
use Rattle.model.specs.Says.Written.{DeclarationWhole}
use Rattle.model.specs.declared.Declaration.{Declaration}
use Rattle.model.specs.declared.Fault.{Fault}
use Rattle.model.specs.declared.Mode.{Mode}
use Rattle.model.proofs.Texts.Commands.{byte_of, declaration-sound, written_byte}
use Rattle.model.proofs.Texts.Room.{fit-declaration, signal-room, chain-room, row_room}
use Rattle.model.proofs.Texts.Written.{as_written}
use Rattle.text_program.specs.Results.{chain_of, tag_of, end_of}
use Rattle.text_program.specs.Steps.{Adds, Stepped}
use Rattle.text_program.specs.Walks.{places_of, Moves, EquationBy, WalksEquation}
use Rattle.text_program.specs.declared.Entry.TheVariants as Entry
use Rattle.text_program.specs.declared.Step.{Step}
use Rattle.text_program.proofs.Longer.{Past, past-links}
use Rattle.text_program.proofs.Walks.{parsed-spans}

enough : (links : List Link) (at : ℕ) → leb 2 (length links) ≡ true → provided (leb 2 (length links)) 5 at ≡ accepted tt
unfolding provided
enough links at e = rw e

short : (links : List Link) (at : ℕ) → leb 2 (length links) ≡ false → provided (leb 2 (length links)) 5 at ≡ refuse 5 at
unfolding provided
short links at e = rw e

-- Nothing is read.
still : {l : List ℕ} {n to looks at : ℕ} (k : ℕ) →
    Moves at [] k 0 l n to looks l (record { at = at; reads = n; code = to + k; lookups = looks })
still k = record { goes = refl; counts = omega arith; codes = refl; looked = omega arith; holds = refl }

at_rest : {l : List ℕ} {n to looks at : ℕ} → Moves at [] 0 0 l n to looks l
    (record { at = at; reads = n; code = to; lookups = looks })
at_rest = record { goes = refl; counts = omega arith; codes = omega arith; looked = omega arith; holds = refl }

module _ (least : ℕ) (text : List ℕ) (at label : ℕ) (p : Program) (l : List ℕ) (n to looks : ℕ) where
  -- A command that may not stand here.
  pub step-stopped : {f : Fault} → declaration_here text at p ≡ refused f →
      Stepped least text at label p l n to looks l (Err f)
  unfolding Stepped parse_commands ◌▷◌
  step-stopped e left = rw e

  module _ (here : declaration_here text at p ≡ accepted tt) where
    -- It is declared as its operands say.
    declared : (c : Declaration) → declaration_at text at ≡ c → (left : ℕ) →
        parse_commands least (suc left) text at label p ≡ declare least (λ m g q. parse_commands least left text m g q) text at
        label p c
    unfolding parse_commands ◌▷◌
    declared c e left = rw (here, e)

    -- It has room.
    room : HasRoom p (byte_at text at)
    room = (fit-declaration p text at here).1

    byte : {c : Declaration} → DeclarationWhole c → declaration_at text at ≡ c → byte_at text at ≡ byte_of c
    byte w e = written_byte text at (as_written _ w e)

    -- A command that is refused whatever follows.
    pub step-refused : (c : Declaration) (f : Fault) → declaration_at text at ≡ c →
        ((next : ℕ → ℕ → Program → Outcome Program) → declare least next text at label p c ≡ refused f) →
        Stepped least text at label p l n to looks l (Err f)
    unfolding Stepped
    step-refused c f e h left = declared c e left ∙ h _

    -- END is the last byte, or something follows it.
    end_by : (b : Bool) → leb (length text) (at + 1) ≡ b → declaration_at text at ≡ Declaration.End →
        Stepped least text at label p l n to looks l (cond b (Ok Step.End) (Err (fault 6 (at + 1))))
    unfolding Stepped provided declare ◌▷◌
    end_by true h e = (λ left. declared Declaration.End e left ∙ rw h, refl)
    end_by false h e = λ left. declared Declaration.End e left ∙ rw h

    pub step_end : declaration_at text at ≡ Declaration.End →
        Stepped least text at label p l n to looks l (end_of text at)
    unfolding end_of
    step_end e = end_by (leb (length text) (at + 1)) refl e

    -- An EQ goes on after its expression.
    equation-by : (o : Outcome (Parsed Expr)) {l' : List ℕ} {r : Result Step Fault} (period : ℕ) (initial : ℤ) (weight : ℕ) →
        parse_expr least 16 text (at + 8) ≡ o → declaration_at text at ≡ Declaration.Equation period initial weight →
        WalksEquation o (Entry.Signal period weight) l n to looks l' r → Stepped least text at label p l n to looks l' r
    unfolding Stepped Adds EquationBy declare ◌▷◌
    equation-by (accepted x) {l'} {r} period initial weight h e v =
        let w = v.by.0 in
        let m = v.by.2 in
        let s = parsed-spans least 16 text (at + 8) x.value x.next h in
        let σ : Signal =
        record { place = at; period = period; initial = initial; body = equation weight x.value; label = label }
        in
        rw v.by.1
        (record {
          program = with_signal p σ;
          places = places_of (reads_of x.value);
          code = length (expr_code x.value) + 2;
          looked = expr_lookups x.value;
          adds =
              record {
                signal = σ;
                stands = refl;
                labelled = refl;
                period-is = refl;
                weighs = refl;
                reads-are = refl;
                code_is = λ y. length-append (expr_code x.value) (0x5F ∷ y ∷ []);
                lookups-are = refl;
                room = signal-room p room (inr (byte tt e));
                inside = omega (arith, m.goes, s.inside);
                is = refl;
              };
          forward = omega (arith, m.goes, s.small);
          few = omega (arith, m.goes, s.few);
          small = omega (arith, m.goes, s.small);
          rare = omega (arith, m.goes, s.rare);
          moves = record { goes = refl; counts = m.counts; codes = m.codes; looked = m.looked; holds = m.holds };
          onward = λ left. declared (Declaration.Equation period initial weight) e left ∙ rw (h, m.goes);
        })
    equation-by (refused f) period initial weight h e v =
        rw v.by (λ left. declared (Declaration.Equation period initial weight) e left ∙ rw h)

    pub step-equation : {l' : List ℕ} {r : Result Step Fault} (period : ℕ) (initial : ℤ) (weight : ℕ) →
        declaration_at text at ≡ Declaration.Equation period initial weight →
        WalksEquation (parse_expr least 16 text (at + 8)) (Entry.Signal period weight) l n to looks l' r →
        Stepped least text at label p l n to looks l' r
    step-equation period initial weight e v = equation-by (parse_expr least 16 text (at + 8)) period initial weight refl e v

    -- A LAT goes on after its LINKs, of which there are two at least.
    chain_by : (o : Outcome (Parsed (List Link))) (mode : Mode) (bound : ℕ) → parse_links 16 text (at + 4) [] ≡ o →
        Past (at + 4) o → declaration_at text at ≡ Declaration.Latency mode bound →
        Stepped least text at label p l n to looks l (chain_of at n to looks o)
    unfolding Stepped Adds chain_of declare ◌▷◌
    chain_by (accepted x) mode bound h q e = go (leb 2 (length x.value)) refl
      where
        go : (b : Bool) → leb 2 (length x.value) ≡ b →
            Stepped least text at label p l n to looks l
            (cond b
            (Ok (Step.Adds (Entry.Chain (length x.value)) (record { at = x.next; reads = n; code = to; lookups = looks })))
            (Err (fault 5 at)))
        go true f =
            record {
              program = with_chain p (record { place = at; mode = mode; bound = bound; links = x.value });
              places = [];
              code = 0;
              looked = 0;
              adds = (
                record {
                  chain = record { place = at; mode = mode; bound = bound; links = x.value };
                  stands = refl;
                  links-are = refl;
                  room = chain-room p room (byte tt e);
                  is = refl;
                },
                refl,
                refl,
                refl,
              );
              forward = omega arith;
              few = omega arith;
              small = omega arith;
              rare = omega arith;
              moves = at_rest;
              onward = λ left. declared (Declaration.Latency mode bound) e left ∙ rw (h, enough x.value at f);
            }
        go false f = λ left. declared (Declaration.Latency mode bound) e left ∙ rw (h, short x.value at f)
    chain_by (refused f) mode bound h q e = λ left. declared (Declaration.Latency mode bound) e left ∙ rw h

    pub step-chain : (mode : Mode) (bound : ℕ) → declaration_at text at ≡ Declaration.Latency mode bound →
        Stepped least text at label p l n to looks l (chain_of at n to looks (parse_links 16 text (at + 4) []))
    step-chain mode bound e = chain_by (parse_links 16 text (at + 4) []) mode bound refl (past-links 16 text (at + 4) []) e

    pub step-input : (period : ℕ) (initial : ℤ) → declaration_at text at ≡ Declaration.Input period initial →
        Stepped least text at label p l n to looks l
        (Ok (Step.Adds (Entry.Signal period 0) (record { at = at + 6; reads = n; code = to + 4; lookups = looks })))
    unfolding Stepped Adds declare
    step-input period initial e =
        record {
          program = with_signal p (record { place = at; period = period; initial = initial; body = input; label = label });
          places = [];
          code = 4;
          looked = 0;
          adds =
              record {
                signal = record { place = at; period = period; initial = initial; body = input; label = label };
                stands = refl;
                labelled = refl;
                period-is = refl;
                weighs = refl;
                reads-are = refl;
                code_is = λ y. refl;
                lookups-are = refl;
                room = signal-room p room (inl (byte tt e));
                inside = (declaration-sound text at _ e).3;
                is = refl;
              };
          forward = omega arith;
          few = omega arith;
          small = omega arith;
          rare = omega arith;
          moves = still 4;
          onward = declared (Declaration.Input period initial) e;
        }

    pub step-cap : (m : ℕ) → declaration_at text at ≡ Declaration.Cap m →
        Stepped least text at label p l n to looks l (Ok (Step.Adds (Entry.Cap m)
        (record { at = at + 5; reads = n; code = to; lookups = looks })))
    unfolding Stepped Adds declare
    step-cap m e =
        record {
          program = with_cap p m;
          places = [];
          code = 0;
          looked = 0;
          adds = (refl, refl, refl, refl);
          forward = omega arith;
          few = omega arith;
          small = omega arith;
          rare = omega arith;
          moves = at_rest;
          onward = declared (Declaration.Cap m) e;
        }

    pub step_row : (low high result : ℤ) → declaration_at text at ≡ Declaration.Row low high result →
        Stepped least text at label p l n to looks l
        (Ok (Step.Adds Entry.Row (record { at = at + 13; reads = n; code = to; lookups = looks })))
    unfolding Stepped Adds declare
    step_row low high result e =
        record {
          program = with_row p (record { place = at; low = low; high = high; result = result });
          places = [];
          code = 0;
          looked = 0;
          adds = (
            record {
              row = record { place = at; low = low; high = high; result = result };
              stands = refl;
              room = row_room p room (byte tt e);
              is = refl;
            },
            refl,
            refl,
            refl,
          );
          forward = omega arith;
          few = omega arith;
          small = omega arith;
          rare = omega arith;
          moves = at_rest;
          onward = declared (Declaration.Row low high result) e;
        }

    -- A TAG goes on before IN or EQ, with its label.
    pub step-tag : (given : ℕ) → declaration_at text at ≡ Declaration.Tag given →
        Stepped least text at label p l n to looks l (tag_of text at given n to looks)
    unfolding Stepped Adds tag_of declare provided ◌▷◌
    step-tag given e = go (ltb (at + 3) (length text)) (is_signal (byte_at text (at + 3))) refl refl
      where
        go : (more signal : Bool) → ltb (at + 3) (length text) ≡ more → is_signal (byte_at text (at + 3)) ≡ signal →
            Stepped least text at label p l n to looks l
            (cond more
            (cond signal (Ok (Step.Adds (Entry.Label given) (record { at = at + 3; reads = n; code = to; lookups = looks })))
            (Err (fault 3 at)))
            (Err (fault 2 (length text))))
        go true true f g =
            record {
              program = p;
              places = [];
              code = 0;
              looked = 0;
              adds = (refl, refl, refl, refl);
              forward = omega arith;
              few = omega arith;
              small = omega arith;
              rare = omega arith;
              moves = at_rest;
              onward = λ left. declared (Declaration.Tag given) e left ∙ rw (f, g);
            }
        go true false f g = λ left. declared (Declaration.Tag given) e left ∙ rw (f, g)
        go false signal f g = λ left. declared (Declaration.Tag given) e left ∙ rw f
