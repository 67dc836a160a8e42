-- Counting the reads of a signal by their index. Assumes nothing.
use Rattle.std.specs.Prelude.{Some, None}
use Prim.Native.Nat.{ℕ, suc, ◌+◌, ◌-◌, ◌≤◌, ◌<◌}
use mathlib.Core.Bool.{Bool, true, false, cond}
use mathlib.Core.List.{List, []}
use mathlib.Core.Path.{◌≡◌, refl, sym, ap, subst, ◌∙◌}
use native.Mathlib.Decide.{dec_lt}
use native.Mathlib.Nat.{zero-add}
use native.Mathlib.Omega.{arith}
use borrow.Author.Tests.{eq-eqb, ne_eqb, eqb-true}
use lib.Dec.{eqb}
use lib.ListN.{length, get_or, drop, get_or-eq_default}
use lib.Seq.{drop-cons, drop-length}
use Rattle.model.specs.Rules.Command.{operator_at}
use Rattle.model.specs.Rules.Program.{Program, Read, no_signal, count, signal_at, body_reads}
use Rattle.model.specs.Rules.Latency.{read_among}
use Rattle.model.specs.Rules.Rates.{count_reads}
use Rattle.model.specs.declared.Operator.TheVariants as Operator
use Rattle.model.specs.declared.Kind.{Kind}
use Rattle.model.specs.declared.Sampled.{Sampled}
use Rattle.model.proofs.Texts.Legal.{stands, signal-reads}
use Rattle.model.specs.Says.Grammar.{LegalProgram}
use Rattle.model.specs.Says.Stands.{SpellsRead}
use Rattle.model.proofs.Pairs.Links.{read_of}
use Rattle.text_command.specs.Operator.{ReadStands}
use Rattle.text_command.proofs.Shape.{Shape, read-shape}
use Rattle.text_program.specs.Tables.{Indexes}
use Rattle.check_links.specs.Links.{one_read}
use Rattle.text_program.proofs.ByIndex.{no_read, read_at, all_seen, seen, place_is, spells}

-- The signal of a read stands in its second byte.
pub signal-byte : (text : List ℕ) (at : ℕ) (kind : Kind) (x : Sampled) → operator_at text at ≡ Operator.Read kind x →
    (x.signal ≡ get_or text (at + 1) 0) × (at + 2 ≤ length text)
signal-byte text at kind x e = (go (dec_lt (get_or text at 0) 0x23), h.inside)
  where
    h : Shape text at kind x
    h = read-shape text at kind x e

    go : Dec (get_or text at 0 < 0x23) → x.signal ≡ get_or text (at + 1) 0
    go (yes l) = ap (λ (y : Sampled). y.signal) (h.plain l)
    go (no l) = ap (λ (y : Sampled). y.signal) (h.sampled (omega arith))

pub stands-inside : {text : List ℕ} {at : ℕ} → ReadStands text at → at + 2 ≤ length text
stands-inside {text} {at} s = (signal-byte text at s.kind s.operands s.is).1

-- A search among the reads: those from the m-th on are left, `many` before them are reads of w, the last of these at `found`.
pub record Searched (w : ℕ) (ρs : List Read) (m many found : ℕ) : Type 0 where
  pub counts : many + count_reads w (drop m ρs) ≡ count_reads w ρs
  pub none : many ≡ 0 → read_among w ρs ≡ read_among w (drop m ρs)
  pub one : many ≡ 1 → (read_among w ρs).place ≡ found

pub same-search : {w m k f : ℕ} {ρs : List Read} (many found : ℕ) → many ≡ k → found ≡ f → Searched w ρs m k f →
    Searched w ρs m many found
same-search many found a b s = rw (a, b) s

module _ (w : ℕ) (ρs : List Read) where
  pub search-starts : (m : ℕ) → m ≡ 0 → Searched w ρs m 0 0
  search-starts m z =
      subst (λ (k : ℕ). Searched w ρs k 0 0) (sym z)
      (record { counts = zero-add _; none = λ _. refl; one = λ e. absurd (omega arith) })

  -- One read more, which is one of w or is not.
  module _ (m : ℕ) (l : m < length ρs) where
    abbrev here : Read
    here = get_or ρs m no_read

    count-on : (b : Bool) → eqb here.operands.signal w ≡ b →
        count_reads w (drop m ρs) ≡ cond b 1 0 + count_reads w (drop (suc m) ρs)
    unfolding count_reads
    count-on b t =
        ap (count_reads w) (drop-cons ρs m no_read l) ∙ ap (λ (c : Bool). cond c 1 0 + count_reads w (drop (suc m) ρs)) t

    read-on : (b : Bool) → eqb here.operands.signal w ≡ b →
        read_among w (drop m ρs) ≡ cond b here (read_among w (drop (suc m) ρs))
    unfolding read_among
    read-on b t =
        ap (read_among w) (drop-cons ρs m no_read l) ∙ ap (λ (c : Bool). cond c here (read_among w (drop (suc m) ρs))) t

    module _ {many found : ℕ} (s : Searched w ρs m many found) where
      search-hits : (at : ℕ) → here.place ≡ at → here.operands.signal ≡ w → Searched w ρs (suc m) (many + 1) at
      search-hits at z q =
          let t = eq-eqb here.operands.signal w q in
          record {
            counts = omega (arith, s.counts, count-on true t);
            none = λ e. absurd (omega arith);
            one = λ e. ap (λ (ρ : Read). ρ.place) (s.none (omega arith) ∙ read-on true t) ∙ z;
          }

      search-misses : (here.operands.signal ≡ w → ⊥) → Searched w ρs (suc m) many found
      search-misses q =
          let t = ne_eqb here.operands.signal w q in
          record {
            counts = omega (arith, s.counts, count-on false t);
            none = λ e. s.none e ∙ read-on false t;
            one = s.one;
          }

  -- All of them.
  module _ (m : ℕ) (z : m ≡ length ρs) {many found : ℕ} (s : Searched w ρs m many found) where
    all-counted : many ≡ count_reads w ρs
    unfolding count_reads
    all-counted =
        let f : drop m ρs ≡ [] = ap (λ (k : ℕ). drop k ρs) z ∙ drop-length ρs in
        let g : count_reads w (drop m ρs) ≡ 0 = ap (count_reads w) f in
        omega (arith, s.counts, g)

    pub one_found : many ≡ 1 → Some found ≡ one_read w ρs
    unfolding one_read
    one_found e = rw (eq-eqb (count_reads w ρs) 1 (omega (arith, all-counted)), s.one e)

    pub none_found : (many ≡ 1 → ⊥) → None ≡ one_read w ρs
    unfolding one_read
    none_found n = rw (ne_eqb (count_reads w ρs) 1 (λ e. n (omega (arith, all-counted))))

-- A signal that is not declared has no reads.
pub none-far : (p : Program) (w x : ℕ) → count p ≤ x → None ≡ one_read w (body_reads (signal_at p x).body)
unfolding count_reads one_read
none-far p w x le = rw (get_or-eq_default p.signals no_signal le)

-- The search by the index in the table, where the first entry has a name.
module _ {text reads firsts : List ℕ} {n : ℕ} {p : Program} (ix : Indexes text reads firsts n p)
    (w x i : ℕ) (lt : x < n) (first : ℕ) (start : first ≡ get_or firsts x 0) (low : first ≤ i) where
  abbrev ρs : List Read
  ρs = body_reads (signal_at p x).body

  abbrev least : get_or firsts x 0 ≤ i
  least = omega (arith, low, start)

  module _ (high : i < get_or firsts (x + 1) 0) (at : ℕ) (z : at ≡ get_or reads i 0) where
    inside : i - first < length ρs
    inside = omega (arith, seen ix x i lt least high, start)

    place_at : (read_at p x (i - first)).place ≡ at
    place_at = rw start (sym (place_is ix x i lt least high) ∙ sym z)

    names : (read_at p x (i - first)).operands.signal ≡ get_or text (at + 1) 0
    names =
        (signal-byte text (read_at p x (i - first)).place (read_at p x (i - first)).kind (read_at p x (i - first)).operands
        (rw start (spells ix x i lt least high))).0 ∙
        ap (λ (m : ℕ). get_or text (m + 1) 0) place_at

    module _ {many found : ℕ} (s : Searched w ρs (i - first) many found) where
      pub one_hit : get_or text (at + 1) 0 ≡ w → Searched w ρs (i + 1 - first) (many + 1) at
      one_hit q =
          subst (λ (m : ℕ). Searched w ρs m (many + 1) at) (omega (arith, low))
          (search-hits w ρs (i - first) inside s at place_at (names ∙ q))

      pub one-missed : (get_or text (at + 1) 0 ≡ w → ⊥) → Searched w ρs (i + 1 - first) many found
      one-missed q =
          subst (λ (m : ℕ). Searched w ρs m many found) (omega (arith, low))
          (search-misses w ρs (i - first) inside s (λ r. q (sym names ∙ r)))

  pub over : get_or firsts (x + 1) 0 ≡ i → i - first ≡ length ρs
  over h = omega (arith, all_seen ix x i lt least h, start)

-- What the answer says of the reads.
module _ (w : ℕ) (ρs : List Read) where
  pub found-one : (at : ℕ) → one_read w ρs ≡ Some at → (eqb (count_reads w ρs) 1 ≡ true) × ((read_among w ρs).place ≡ at)
  unfolding one_read
  found-one at e = go (eqb (count_reads w ρs) 1) e
    where
      go : (b : Bool) → cond b (Some (read_among w ρs).place) None ≡ Some at → (b ≡ true) × ((read_among w ρs).place ≡ at)
      go true h = (refl, cc)
      go false h = let z : ◌≡◌ {A = ℕ} 0 1 = cc in absurd (omega arith)

  pub found_none : one_read w ρs ≡ None → eqb (count_reads w ρs) 1 ≡ false
  unfolding one_read
  found_none e = go (eqb (count_reads w ρs) 1) e
    where
      go : (b : Bool) → cond b (Some (read_among w ρs).place) None ≡ None → b ≡ false
      go true h = let z : ◌≡◌ {A = ℕ} 0 1 = cc in absurd (omega arith)
      go false h = refl

-- The one read of w in the equation of x stands at `at`.
module _ (text : List ℕ) (p : Program) (e : LegalProgram text p) (w x at : ℕ)
    (one : one_read w (body_reads (signal_at p x).body) ≡ Some at) where
  abbrev only : Read
  only = read_among w (body_reads (signal_at p x).body)

  declared : x < count p
  declared = go (dec_lt x (count p))
    where
      go : Dec (x < count p) → x < count p
      go (yes l) = l
      go (no n) =
          let f : None ≡ Some at = none-far p w x (omega arith) ∙ one in
          let z : ◌≡◌ {A = ℕ} 0 1 = cc in
          absurd (omega arith)

  pub one-spelled : operator_at text at ≡ Operator.Read only.kind only.operands
  one-spelled =
      let ρs = body_reads (signal_at p x).body in
      let f = found-one w ρs at one in
      let many : 1 ≤ count_reads w ρs = omega (arith, eqb-true (count_reads w ρs) 1 f.0) in
      subst (λ (m : ℕ). operator_at text m ≡ Operator.Read only.kind only.operands) f.1
      (read_of (SpellsRead text) w ρs (signal-reads (stands text p e).1 x declared) many).0

  pub one-stands : ReadStands text at
  one-stands = record { kind = only.kind; operands = only.operands; is = one-spelled }
