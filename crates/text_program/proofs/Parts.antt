-- Laws of the parser's steps, by which a reader's answer follows from those of its parts. Assumes nothing.
use Rattle.std.specs.Prelude.{Result, Ok, Err}
use mathlib.Core.Path.{◌≡◌, refl, sym, ap, subst, ◌∙◌}
use mathlib.Core.Bool.{Bool, true, false, cond}
use mathlib.Core.List.{List, [], ◌∷◌, ◌++◌}
use Prim.Native.Nat.{ℕ, zero, suc, ◌+◌, ◌≤◌, ◌<◌}
use native.Mathlib.Omega.{arith}
use lib.Dec.{leb, ltb}
use lib.ListN.{length, get_or-eq_default}
use borrow.Author.Tests.{leb-true, leb-false, ltb-true, le-ltb, lt-ltb, le-leb, lt-leb, eq-eqb, ne_eqb}
use denote.Enum.Declared.{tag_of, declared}
use types.Run.{OneOf, miss}
use Rattle.model.specs.Rules.Command.{is_signal, declaration_of, declaration_at}
use Rattle.model.specs.Rules.Outcome.{Outcome, accepted, refused, fault, refuse, ◌▷◌, provided, Parsed, parsed}
use Rattle.model.specs.Rules.Program.{Link, parse_links}
use Rattle.model.specs.Rules.Word.{byte_at}
use Rattle.model.specs.declared.Declaration.{Declaration}
use Rattle.model.specs.declared.Fault.{Fault}
use Rattle.model.specs.contracts.Declaration.{enum}
use Rattle.text_program.specs.Results.{links_of, chain_of}
use Rattle.text_program.specs.Results as Results
use Rattle.text_program.specs.declared.Entry.TheVariants as Entry
use Rattle.text_program.specs.declared.LinksRead.{LinksRead}
use Rattle.text_program.specs.declared.Step.{Step}

ok-same : {x y : LinksRead} → ◌≡◌ {A = Result LinksRead Fault} (Ok x) (Ok y) → x ≡ y
ok-same e = cc e

-- The LINKs of a chain end, are too many, are cut, or go on.
abbrev pub link_at : List ℕ → ℕ → Link
link_at text at = record { place = at; signal = byte_at text (at + 1) }

-- One LINK is there, or cut.
abbrev others : List ℕ
others = 0 ∷ 1 ∷ 2 ∷ 3 ∷ 4 ∷ 5 ∷ 6 ∷ 8 ∷ 9 ∷ 10 ∷ []

module _ (text : List ℕ) (at : ℕ) {r : Declaration} (e : r ≡ declaration_of 0x13 text at) where
  pub link-missing : OneOf others (tag_of (declared enum) r) → length text < at + 2
  unfolding declaration_of
  link-missing k = go (leb (at + 2) (length text)) refl
    where
      go : (b : Bool) → leb (at + 2) (length text) ≡ b → length text < at + 2
      go true t =
          let q : r ≡ Declaration.Link (byte_at text (at + 1)) = rw t at e in
          absurd (miss others 7 tt (subst (λ d. OneOf others (tag_of (declared enum) d)) q k))
      go false t = leb-false _ _ t

  pub link-there : {signal : ℕ} → r ≡ Declaration.Link signal → at + 2 ≤ length text
  unfolding declaration_of
  link-there {signal} q = go (leb (at + 2) (length text)) refl
    where
      go : (b : Bool) → leb (at + 2) (length text) ≡ b → at + 2 ≤ length text
      go true t = leb-true _ _ t
      go false t =
          let early : r ≡ Declaration.EndsEarly = rw t at e in
          let z : ◌≡◌ {A = ℕ} 0 1 = cc (early, q) in absurd (omega arith)

pub links_end : (room : ℕ) (text : List ℕ) (at : ℕ) (links : List Link) → (byte_at text at ≡ 0x13 → ⊥) →
    parse_links room text at links ≡ parsed links at
unfolding parse_links
links_end zero text at links h = rw (ne_eqb (byte_at text at) 0x13 h, parse_links)
links_end (suc room) text at links h = rw (ne_eqb (byte_at text at) 0x13 h, parse_links)

pub links-past : (room : ℕ) (text : List ℕ) (at : ℕ) (links : List Link) → length text ≤ at →
    parse_links room text at links ≡ parsed links at
links-past room text at links h =
    links_end room text at links (λ e. let z : ◌≡◌ {A = ℕ} 0 0x13 = sym (get_or-eq_default text 0 h) ∙ e in omega arith)

pub links-many : (text : List ℕ) (at : ℕ) (links : List Link) → byte_at text at ≡ 0x13 → parse_links 0 text at links ≡ refuse 4 at
unfolding parse_links
links-many text at links e = rw (eq-eqb (byte_at text at) 0x13 e, parse_links)

pub links-cut : (room : ℕ) (text : List ℕ) (at : ℕ) (links : List Link) → byte_at text at ≡ 0x13 → length text < at + 2 →
    parse_links (suc room) text at links ≡ refuse 2 (length text)
unfolding parse_links ◌▷◌ provided
links-cut room text at links e h = rw (eq-eqb (byte_at text at) 0x13 e, parse_links) (rw (lt-leb (at + 2) (length text) h))

pub links-more : (room : ℕ) (text : List ℕ) (at : ℕ) (links : List Link) → byte_at text at ≡ 0x13 → at + 2 ≤ length text →
    parse_links (suc room) text at links ≡ parse_links room text (at + 2) (links ++ (link_at text at ∷ []))
unfolding parse_links ◌▷◌ provided
links-more room text at links e h = rw (eq-eqb (byte_at text at) 0x13 e, parse_links) (rw (le-leb (at + 2) (length text) h))

-- The step of a LAT from its LINKs.
pub chain-short : (at count to looks : ℕ) (o : Outcome (Parsed (List Link))) {r : Result LinksRead Fault} {x : LinksRead} →
    r ≡ links_of o → r ≡ Ok x → x.count < 2 → Err (fault 5 at) ≡ chain_of at count to looks o
unfolding links_of chain_of
chain-short at count to looks (accepted y) {r} {x} e g h =
    let z : x.count ≡ length y.value = ap (λ l. l.count) (ok-same (sym g ∙ e)) in rw (lt-leb 2 (length y.value) (omega arith))
chain-short at count to looks (refused f) {r} {x} e g h = let z : ◌≡◌ {A = ℕ} 0 1 = cc in absurd (omega arith)

pub chain_next : (at count to looks : ℕ) (o : Outcome (Parsed (List Link))) {r : Result LinksRead Fault} {x : LinksRead} →
    r ≡ links_of o → r ≡ Ok x → 2 ≤ x.count →
    Ok (Step.Adds (Entry.Chain x.count) (record { at = x.next; reads = count; code = to; lookups = looks })) ≡
    chain_of at count to looks o
unfolding links_of chain_of
chain_next at count to looks (accepted y) {r} {x} e g h =
    let s = ok-same (sym g ∙ e) in
    let z : x.count ≡ length y.value = ap (λ l. l.count) s in
    let w : x.next ≡ y.next = ap (λ l. l.next) s in
    rw (le-leb 2 (length y.value) (omega arith), z, w)
chain_next at count to looks (refused f) {r} {x} e g h = let z : ◌≡◌ {A = ℕ} 0 1 = cc in absurd (omega arith)

pub chain-refused : (at count to looks : ℕ) (o : Outcome (Parsed (List Link))) {r : Result LinksRead Fault} {f : Fault} →
    r ≡ links_of o → r ≡ Err f → Err f ≡ chain_of at count to looks o
unfolding links_of chain_of
chain-refused at count to looks (accepted x) {r} {f} e g = let z : ◌≡◌ {A = ℕ} 0 1 = cc in absurd (omega arith)
chain-refused at count to looks (refused q) {r} {f} e g = let z : f ≡ q = cc in ap Err z

-- The step of a TAG from the byte after it.
module _ (text : List ℕ) (at label count to looks : ℕ) where
  pub tag-ends : length text ≤ at + 3 → Err (fault 2 (length text)) ≡ Results.tag_of text at label count to looks
  unfolding Results.tag_of
  tag-ends h = rw (le-ltb (at + 3) (length text) h)

  abbrev tag_by : Bool → Result Step Fault
  tag_by t = cond t (Ok (Step.Adds (Entry.Label label) (record { at = at + 3; reads = count; code = to; lookups = looks })))
      (Err (fault 3 at))

  pub tag-by : (t : Bool) → at + 3 < length text → is_signal (byte_at text (at + 3)) ≡ t →
      tag_by t ≡ Results.tag_of text at label count to looks
  unfolding Results.tag_of
  tag-by t h e = rw (lt-ltb (at + 3) (length text) h) (ap tag_by (sym e))

-- A declaration that does not end early stands within the text.
pub declaration-inside : (text : List ℕ) (at : ℕ) {k : Declaration} → declaration_at text at ≡ k →
    (Declaration.EndsEarly ≡ k → ⊥) →
    at < length text
unfolding declaration_at
declaration-inside text at {k} e h = go (ltb at (length text)) refl
  where
    go : (b : Bool) → ltb at (length text) ≡ b → at < length text
    go true f = ltb-true _ _ f
    go false f = absurd (h (rw f at e))
