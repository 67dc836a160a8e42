-- What an accepted program text gives: where its signals and chains stand, and the bounds that they keep. Assumes nothing.
use Prim.Native.Nat.{ℕ, zero, suc, ◌+◌, ◌*◌, ◌≤◌, ◌<◌}
use mathlib.Core.List.{List, [], ◌∷◌, ◌++◌, append-nil}
use mathlib.Core.Path.{◌≡◌, sym, ap}
use native.Mathlib.Omega.{arith}
use lib.Dec.{eqb}
use lib.ListN.{length, get_or, length-append}
use mir.Syntax.{w32}
use mir.Val.{SFits}
use Rattle.model.specs.Says.Feasible.{All}
use Rattle.model.specs.Says.Grammar.{LegalProgram}
use Rattle.model.specs.Says.Rows.{Upright}
use Rattle.model.specs.Says.Stands.{SpellsBody, SpellsSignal, SpellsChain, SpellsRead, SpellsRow}
use Rattle.model.specs.Says.Words.{IsWord}
use Rattle.model.specs.Rules.Command.{declaration_at}
use Rattle.model.specs.Rules.Image.{expr_code, signal_code, codes, joined}
use Rattle.model.specs.Rules.Outcome.{accepted}
use Rattle.model.specs.Rules.Program.{
  least_factor,
  Read,
  Expr,
  Body,
  input,
  equation,
  is_input,
  Signal,
  Link,
  Chain,
  Program,
  empty,
  with_signal,
  with_chain,
  with_cap,
  with_row,
  no_signal,
  count,
  signal_at,
  parse_program,
  reads_of,
  body_reads,
}
use Rattle.model.specs.Rules.Search.{join_from}
use Rattle.model.specs.Rules.Table.{Row, no_row, row_at}
use Rattle.model.specs.Rules.Width.{read_width}
use Rattle.model.specs.Rules.Word.{byte_at, word_bytes, four_bytes, AreBytes}
use Rattle.model.specs.declared.Declaration.TheVariants as Declaration
use Rattle.model.specs.declared.Operator.TheVariants as Operator
use Rattle.model.specs.declared.Kind.{Kind}
use Rattle.model.specs.declared.Kind.TheVariants.{Now, Last, When, LastWhen, Current}
use Rattle.model.proofs.Basics.All.{all_append, all-at}
use Rattle.model.proofs.Images.Bounds.{body_depth, Words, BodyWords}
use Rattle.model.proofs.Texts.Commands.{
  word_fits,
  two_fits,
  ReadSound,
  declaration-sound,
  operator-sound,
  link-decoded,
  written_byte,
}
use Rattle.model.proofs.Basics.Outcomes.{join_from-append}
use Rattle.model.proofs.Texts.Spelled.{Spells, SpellsLinks, DeclaresOne, Declares, declared}
use Rattle.model.proofs.Texts.Written.{decoded, operator-decoded, as_written}

-- What the text up to `at` has declared. Its code and its rows take no more bytes than the text.
pub record Legal (text : List ℕ) (at : ℕ) (p : Program) : Type 0 where
  pub signals : All (SpellsSignal text) p.signals
  pub chains : All (SpellsChain text) p.chains
  pub few_signals : count p ≤ 64
  pub few_chains : length p.chains ≤ 16
  pub rows : All (SpellsRow text) p.rows
  pub few_rows : length p.rows ≤ 32
  pub code : length (joined (codes p)) + 12 * length p.rows ≤ at

-- Code is no longer than what spells it.
pub read-width : (kind : Kind) → 2 ≤ read_width kind
read-width Now = omega arith
read-width Last = omega arith
read-width When = omega arith
read-width LastWhen = omega arith
read-width Current = omega arith

module _ {text : List ℕ} where
  pub expr-code : {at n : ℕ} {e : Expr} → Spells least_factor text at e n → at + length (expr_code e) ≤ n
  unfolding expr_code word_bytes four_bytes
  expr-code (Spells.constants e) = omega arith
  expr-code (Spells.reads {kind = kind} e t) = omega (arith, read-width kind)
  expr-code (Spells.two e u v) = simp length-append (omega (arith, expr-code u, expr-code v))
  expr-code (Spells.one e u) = simp length-append (omega (arith, expr-code u))
  expr-code (Spells.three e u v w) = simp length-append (omega (arith, expr-code u, expr-code v, expr-code w))

  -- The reads of an expression stand where they say.
  expr-reads : {at n : ℕ} {e : Expr} → Spells least_factor text at e n → All (SpellsRead text) (reads_of e)
  unfolding reads_of
  expr-reads (Spells.constants e) = tt
  expr-reads (Spells.reads e t) = (operator-decoded e, tt)
  expr-reads (Spells.two {x = x} {y = y} e u v) =
      all_append (SpellsRead text) (reads_of x) (reads_of y) (expr-reads u) (expr-reads v)
  expr-reads (Spells.one e u) = expr-reads u
  expr-reads (Spells.three {x = x} {y = y} {z = z} e u v w) =
      all_append (SpellsRead text) (reads_of x) (reads_of y ++ reads_of z) (expr-reads u)
      (all_append (SpellsRead text) (reads_of y) (reads_of z) (expr-reads v) (expr-reads w))

  -- Constants are words.
  expr-words : AreBytes text → {at n : ℕ} {e : Expr} → Spells least_factor text at e n → Words e
  expr-words b (Spells.constants {at = at} e) = rw (operator-sound text at _ (operator-decoded e)).0 (word_fits text (at + 1))
  expr-words b (Spells.reads e t) = tt
  expr-words b (Spells.two e u v) = (expr-words b u, expr-words b v)
  expr-words b (Spells.one e u) = expr-words b u
  expr-words b (Spells.three e u v w) = (expr-words b u, expr-words b v, expr-words b w)

code-more : (p : Program) (x : Signal) →
    length (joined (codes (with_signal p x))) ≡ length (joined (codes p)) + length (signal_code (0 + count p) x.body)
unfolding codes join_from
code-more p x =
    let f : ℕ → Signal → List (List ℕ) = λ n y. signal_code n y.body ∷ [] in
    rw (join_from-append f 0 p.signals (x ∷ []), join_from-append (λ i y. y) 0, length-append) (rw append-nil)

module _ {text : List ℕ} where
  more-signals : {at next : ℕ} {p : Program} (x : Signal) → Legal text at p → count p < 64 → SpellsSignal text x →
      at + length (signal_code (0 + count p) x.body) ≤ next → Legal text next (with_signal p x)
  more-signals {p = p} x l room e le =
      record {
        signals = all_append (SpellsSignal text) p.signals (x ∷ []) l.signals (e, tt);
        chains = l.chains;
        few_signals = rw length-append (omega arith);
        few_chains = l.few_chains;
        rows = l.rows;
        few_rows = l.few_rows;
        code = omega (arith, code-more p x, l.code);
      }

  more-chains : {at next : ℕ} {p : Program} (c : Chain) → Legal text at p → length p.chains < 16 → SpellsChain text c →
      at ≤ next → Legal text next (with_chain p c)
  unfolding codes
  more-chains {p = p} c l room e le =
      record {
        signals = l.signals;
        chains = all_append (SpellsChain text) p.chains (c ∷ []) l.chains (e, tt);
        few_signals = l.few_signals;
        few_chains = rw length-append (omega arith);
        rows = l.rows;
        few_rows = l.few_rows;
        code = omega (arith, l.code);
      }

  more-caps : {at : ℕ} {p : Program} (n : ℕ) → Legal text at p → Legal text (at + 5) (with_cap p n)
  unfolding codes
  more-caps n l =
      record {
        signals = l.signals;
        chains = l.chains;
        few_signals = l.few_signals;
        few_chains = l.few_chains;
        rows = l.rows;
        few_rows = l.few_rows;
        code = omega (arith, l.code);
      }

  more_rows : {at : ℕ} {p : Program} (r : Row) → Legal text at p → length p.rows < 32 → SpellsRow text r →
      Legal text (at + 13) (with_row p r)
  unfolding codes
  more_rows {p = p} r l room e =
      record {
        signals = l.signals;
        chains = l.chains;
        few_signals = l.few_signals;
        few_chains = l.few_chains;
        rows = all_append (SpellsRow text) p.rows (r ∷ []) l.rows (e, tt);
        few_rows = rw length-append (omega arith);
        code = rw length-append (omega (arith, l.code));
      }

  links-after : {at n : ℕ} {ls : List Link} → SpellsLinks text at ls n → at ≤ n
  links-after (SpellsLinks.ends e) = omega arith
  links-after (SpellsLinks.link e le r) = omega (arith, links-after r)

  one-legal : {at label next given : ℕ} {p q : Program} → DeclaresOne least_factor text at label p next given q → Legal text at p →
      Legal text next q
  one-legal (DeclaresOne.inputs room e) l = more-signals _ l room (decoded e) (omega arith)
  one-legal (DeclaresOne.equations room e u d) l =
      more-signals _ l room (decoded e, _, u, d) (simp length-append (omega (arith, expr-code u)))
  one-legal (DeclaresOne.chains room e u several few) l =
      more-chains _ l room (record { command = decoded e; end = _; links = u; several = several; few = few })
      (omega (arith, links-after u))
  one-legal (DeclaresOne.caps {n = n} room e) l = more-caps n l
  one-legal (DeclaresOne.tags e more s) l =
      record {
        signals = l.signals;
        chains = l.chains;
        few_signals = l.few_signals;
        few_chains = l.few_chains;
        rows = l.rows;
        few_rows = l.few_rows;
        code = omega (arith, l.code);
      }
  one-legal (DeclaresOne.rows room e) l = more_rows _ l room (decoded e)

  declares-legal : {at label end : ℕ} {p q : Program} → Declares least_factor text at label p end q → Legal text at p →
      Legal text end q × (length text ≡ end + 1)
  declares-legal (Declares.ends {at = at} e le) l = (l, omega (arith, declaration-sound text at _ (decoded e)))
  declares-legal (Declares.onward d r) l = declares-legal r (one-legal d l)

  none : Legal text 0 empty
  unfolding codes join_from
  none =
      record {
        signals = tt;
        chains = tt;
        few_signals = omega arith;
        few_chains = omega arith;
        rows = tt;
        few_rows = omega arith;
        code = omega arith;
      }

-- A text that declares p has what p says up to its END, its last byte.
pub stands : (text : List ℕ) (p : Program) → LegalProgram text p → (end : ℕ) × Legal text end p × (length text ≡ end + 1)
stands text p d = let l = declares-legal d.1 none in (d.0, l.0, l.1)

-- An accepted text is such a text.
pub legal : (text : List ℕ) (p : Program) → parse_program text ≡ accepted p →
    (end : ℕ) × Legal text end p × (length text ≡ end + 1)
legal text p e = stands text p (declared least_factor text p e)

-- A signal's first byte, which tells an input, stands in the text.
pub input-byte : (text : List ℕ) (σ : Signal) (b : Body) → SpellsBody text σ b → is_input b ≡ eqb (byte_at text σ.place) 0x10
input-byte text σ input g = sym (ap (λ (n : ℕ). eqb n 0x10) (written_byte text σ.place (as_written _ tt g)))
input-byte text σ (equation w x) g = sym (ap (λ (n : ℕ). eqb n 0x10) (written_byte text σ.place (as_written _ tt g.0)))

pub place_inside : (text : List ℕ) (σ : Signal) (b : Body) → SpellsBody text σ b → σ.place < length text
place_inside text σ input g = omega (arith, (declaration-sound text _ _ g).3)
place_inside text σ (equation w x) g = omega (arith, (declaration-sound text _ _ g.0).3)

-- Labels are numbers of two bytes.
abbrev Labelled : Signal → Type 0
Labelled x = x.label < 65536

module _ {text : List ℕ} (bytes : AreBytes text) where
  one-labelled : {at label next given : ℕ} {p q : Program} → DeclaresOne least_factor text at label p next given q →
      label < 65536 → All Labelled p.signals → (given < 65536) × All Labelled q.signals
  one-labelled (DeclaresOne.inputs {p = p} room e) lt l = (omega arith, all_append Labelled p.signals (_ ∷ []) l (lt, tt))
  one-labelled (DeclaresOne.equations {p = p} room e u d) lt l =
      (omega arith, all_append Labelled p.signals (_ ∷ []) l (lt, tt))
  one-labelled (DeclaresOne.chains room e u several few) lt l = (omega arith, l)
  one-labelled (DeclaresOne.caps room e) lt l = (omega arith, l)
  one-labelled (DeclaresOne.tags {at = at} e more s) lt l =
      (rw (declaration-sound text at _ (decoded e)).0 (two_fits text (at + 1) bytes), l)
  one-labelled (DeclaresOne.rows room e) lt l = (omega arith, l)

  declares-labelled : {at label end : ℕ} {p q : Program} → Declares least_factor text at label p end q → label < 65536 →
      All Labelled p.signals → All Labelled q.signals
  declares-labelled (Declares.ends e le) lt l = l
  declares-labelled (Declares.onward d r) lt l = let h = one-labelled d lt l in declares-labelled r h.0 h.1

pub signal-label : (text : List ℕ) (p : Program) → parse_program text ≡ accepted p → AreBytes text → (x : ℕ) → x < count p →
    (signal_at p x).label < 65536
signal-label text p e bytes x lt =
    all-at Labelled p.signals no_signal (declares-labelled bytes (declared least_factor text p e).1 (omega arith) tt) x lt

-- The links of a chain stand one after another.
module _ {text : List ℕ} where
  pub links_end : {at n : ℕ} {ls : List Link} → SpellsLinks text at ls n → n ≡ at + 2 * length ls
  links_end (SpellsLinks.ends e) = omega arith
  links_end (SpellsLinks.link e le r) = omega (arith, links_end r)

  pub links-place : {at n : ℕ} {ls : List Link} → SpellsLinks text at ls n → (j : ℕ) (d : Link) → j < length ls →
      (get_or ls j d).place ≡ at + 2 * j
  links-place (SpellsLinks.ends e) j d lt = absurd (omega arith)
  links-place (SpellsLinks.link e le r) zero d lt = omega arith
  links-place (SpellsLinks.link e le r) (suc j) d lt = omega (arith, links-place r j d (omega arith))

  pub links-command : {at n : ℕ} {ls : List Link} → SpellsLinks text at ls n →
      All (λ l. declaration_at text l.place ≡ Declaration.Link l.signal) ls
  links-command (SpellsLinks.ends e) = tt
  links-command (SpellsLinks.link {at = at} e le r) = (link-decoded text at e le, links-command r)

module _ (text : List ℕ) where
  -- The operands of a read are in range.
  pub read-sound : (ρ : Read) → SpellsRead text ρ → ReadSound ρ.operands
  read-sound ρ e = (operator-sound text ρ.place _ e).0

  body-period : (x : Signal) (b : Body) → SpellsBody text x b → (1 ≤ x.period) × (x.period ≤ 240)
  body-period x input e = let h = declaration-sound text x.place _ e in (h.0, h.1)
  body-period x (equation weight e) h = let g = declaration-sound text x.place _ h.0 in (g.0, g.1)

  body-initial : AreBytes text → (x : Signal) (b : Body) → SpellsBody text x b → SFits w32 x.initial
  body-initial bytes x input h = rw (declaration-sound text x.place _ h).2 (word_fits text (x.place + 2))
  body-initial bytes x (equation weight e) h =
      rw (declaration-sound text x.place _ h.0).2 (word_fits text (x.place + 2))

  body-depth : (x : Signal) (b : Body) → SpellsBody text x b → body_depth b ≤ 16
  body-depth x input h = omega arith
  body-depth x (equation weight e) h = h.3

  body-words : AreBytes text → (x : Signal) (b : Body) → SpellsBody text x b → BodyWords b
  body-words bytes x input h = tt
  body-words bytes x (equation weight e) h = expr-words bytes h.2

  body-reads : (x : Signal) (b : Body) → SpellsBody text x b → All (SpellsRead text) (body_reads b)
  body-reads x input h = tt
  body-reads x (equation weight e) h = expr-reads h.2

-- What a legal program keeps, signal by signal.
module _ {text : List ℕ} {end : ℕ} {p : Program} (l : Legal text end p) (x : ℕ) (lt : x < count p) where
  pub signal-spelled : SpellsSignal text (signal_at p x)
  signal-spelled = all-at (SpellsSignal text) p.signals no_signal l.signals x lt

  pub signal-period : (1 ≤ (signal_at p x).period) × ((signal_at p x).period ≤ 240)
  signal-period = body-period text (signal_at p x) (signal_at p x).body signal-spelled

  pub signal-initial : AreBytes text → SFits w32 (signal_at p x).initial
  signal-initial bytes = body-initial text bytes (signal_at p x) (signal_at p x).body signal-spelled

  pub signal-depth : body_depth (signal_at p x).body ≤ 16
  signal-depth = body-depth text (signal_at p x) (signal_at p x).body signal-spelled

  pub signal-words : AreBytes text → BodyWords (signal_at p x).body
  signal-words bytes = body-words text bytes (signal_at p x) (signal_at p x).body signal-spelled

  pub signal-reads : All (SpellsRead text) (body_reads (signal_at p x).body)
  signal-reads = body-reads text (signal_at p x) (signal_at p x).body signal-spelled

-- A legal program's rows are rows of words, no low above its high.
module _ {text : List ℕ} {end : ℕ} {p : Program} (l : Legal text end p) (n : ℕ) (lt : n < length p.rows)
  where
    pub row-spelled : SpellsRow text (row_at p.rows n)
    row-spelled = all-at (SpellsRow text) p.rows no_row l.rows n lt

    pub row-upright : Upright (row_at p.rows n)
    row-upright =
        let at = (row_at p.rows n).place in
        let h = declaration-sound text at _ row-spelled in
        record {
          low_word = rw h.0 (word_fits text (at + 1));
          high_word = rw h.1 (word_fits text (at + 5));
          upright = h.3;
        }

    pub row-result : IsWord (row_at p.rows n).result
    row-result =
        let at = (row_at p.rows n).place in
        rw (declaration-sound text at _ row-spelled).2 (word_fits text (at + 9))
