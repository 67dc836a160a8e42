-- The signals of the parts by their joined numbers, and the reads of links. Assumes nothing.
use Prim.Native.Nat.{ℕ, zero, suc, ◌+◌, ◌*◌, ◌≤◌, ◌<◌}
use mathlib.Core.Bool.{Bool, true, ◌&&◌, and-eq-true_iff}
use mathlib.Core.List.{List, [], ◌∷◌, map}
use mathlib.Core.Path.{◌≡◌, sym, ap, ap₂, subst, ◌∙◌}
use native.Mathlib.Nat.{zero-add}
use native.Mathlib.Omega.{arith}
use borrow.Author.Tests.{ltb-true, leb-true}
use lib.Dec.{leb, ltb}
use lib.ListN.{length, get_or}
use Rattle.model.specs.Rules.Join.{link_at, links_in, links_of, is_declared, is_named, is_right}
use Rattle.model.specs.Rules.Parts.{
  Part,
  joined_parts,
  base,
  part_at,
  PartLink,
  wire_of,
  wire_read,
  joined_pair,
}
use Rattle.model.specs.Rules.Program.{Signal, count, signal_at}
use Rattle.model.specs.Rules.Reads.{Rate, rate_of, line_holds, ordered, is_met}
use Rattle.model.specs.Rules.Schedule.{phase_of}
use Rattle.model.specs.Rules.Search.{table_from, table}
use Rattle.model.specs.Rules.Word.{byte_at}
use Rattle.model.specs.declared.Index.TheVariants.{Fixed}
use Rattle.model.specs.declared.Kind.TheVariants.{Now}
use Rattle.model.proofs.Joining.Numbers.{number-below, number-signal, wired-signal}
use Rattle.read_rule.specs.Reads.{met_by}
use Rattle.text_program.specs.Tables.{rate_at}
use Rattle.text_program.proofs.Rising.{Rising, InTurn}
use Rattle.text_program.proofs.InTurn.{turn-single}
use Rattle.join_links.specs.ByPart.{signal_in}
use Rattle.join_links.proofs.Right.{Pieces, pieces, right-at, link_from}
use Rattle.join_check.specs.Met.{reader_at, source_at, LinkInside, EqualPeriods, link_met_by, Linking}

-- A signal keeps its period.
pub number-period : (parts : List Part) (k x : ℕ) → k < length parts → x < count (part_at parts k).program →
    (signal_at (joined_parts parts).program (base parts k + x)).period ≡ (signal_in parts k x).period
number-period parts k x lk lx = ap (λ (σ : Signal). σ.period) (number-signal parts k x lk lx)

-- Links change no rate.
pub wired-rate : (parts : List Part) (links : List PartLink) (periods phases : List ℕ) (x : ℕ) →
    x < count (joined_parts parts).program → get_or periods x 0 ≡ (signal_at (joined_parts parts).program x).period →
    get_or phases x 0 ≡ phase_of (joined_parts parts).schedule x →
    rate_of (joined_pair parts links).program (joined_pair parts links).schedule x ≡ rate_at periods phases x
unfolding joined_pair
wired-rate parts links periods phases x lt p q i =
    record {
      period =
          (ap (λ (σ : Signal). σ.period)
          (wired-signal (map (wire_of parts) links) (joined_parts parts).program x lt) ∙ sym p) i;
      phase = sym q i;
    }

module _ {parts : List Part} {links bases periods phases ranks : List ℕ}
    (l : Linking parts links bases periods phases ranks) (i at : ℕ) (e : at ≡ 4 * i) (lt : at < length links) where
  whole : 4 * i + 4 ≤ length links
  unfolding is_right
  whole =
      let right = l.right i (omega (arith, e)) in
      let a = (and-eq-true_iff (leb (4 * i + 4) (length links) && is_named parts (link_at links i)) _).0 right in
      leb-true _ _ ((and-eq-true_iff (leb (4 * i + 4) (length links)) (is_named parts (link_at links i))).0 a.0).0

  names : Pieces parts links i (link_from links i at)
  names = pieces parts links i (link_from links i at) (sym (right-at parts links i at e) ∙ l.right i (omega (arith, e)))

  declared : (k x : ℕ) → is_declared parts k x ≡ true → (k < length parts) × (x < count (part_at parts k).program)
  declared k x d =
      let h = (and-eq-true_iff (ltb k (length parts)) (ltb x (count (part_at parts k).program))).0 d in
      (ltb-true k (length parts) h.0, ltb-true x (count (part_at parts k).program) h.1)

  abbrev rk : ℕ
  rk = byte_at links at

  abbrev rx : ℕ
  rx = byte_at links (at + 1)

  abbrev wk : ℕ
  wk = byte_at links (at + 2)

  abbrev wx : ℕ
  wx = byte_at links (at + 3)

  pub reader-is : reader_at links at bases ≡ base parts rk + rx
  reader-is = ap (λ (n : ℕ). n + rx) (l.bases-are rk (omega (arith, (declared rk rx names.reader).0)))

  pub source_is : source_at links at bases ≡ base parts wk + wx
  source_is = ap (λ (n : ℕ). n + wx) (l.bases-are wk (omega (arith, (declared wk wx names.source).0)))

  reader-below : reader_at links at bases < count (joined_parts parts).program
  reader-below =
      let d = declared rk rx names.reader in
      omega (arith, reader-is, number-below parts rk rx d.0 d.1)

  source-below : source_at links at bases < count (joined_parts parts).program
  source-below =
      let d = declared wk wx names.source in
      omega (arith, source_is, number-below parts wk wx d.0 d.1)

  pub link-inside : LinkInside links at bases
  link-inside =
      record {
        whole = omega (arith, e, whole);
        part = omega (arith, (declared rk rx names.reader).0, l.few);
        other = omega (arith, (declared wk wx names.source).0, l.few);
        reader = omega (arith, reader-below, l.small);
        source = omega (arith, source-below, l.small);
      }

  pub equal-periods : EqualPeriods links at bases periods phases
  equal-periods =
      let d = declared rk rx names.reader in
      let f = declared wk wx names.source in
      let r = reader_at links at bases in
      let w = source_at links at bases in
      let p = l.periods-are r reader-below in
      let q = l.periods-are w source-below in
      record {
        same =
            p ∙ ap (λ (n : ℕ). (signal_at (joined_parts parts).program n).period) reader-is ∙
            number-period parts rk rx d.0 d.1 ∙ names.periods ∙ sym (number-period parts wk wx f.0 f.1) ∙
            sym (ap (λ (n : ℕ). (signal_at (joined_parts parts).program n).period) source_is) ∙ sym q;
        reader = omega (arith, p, l.phases-are r reader-below, l.ordered.phases r reader-below);
        source = omega (arith, q, l.phases-are w source-below, l.ordered.phases w source-below);
      }

  abbrev both : Rate → Rate → Bool → Bool
  both a b t = line_holds Now a b 1 (Fixed 0) && ordered Now a b t

  -- The read of link i by the tables.
  pub met-is : (ls : List PartLink) →
      is_met (joined_pair parts ls).program (joined_pair parts ls).schedule (wire_of parts (link_at links i)).input
      (wire_read (wire_of parts (link_at links i))) ≡
      link_met_by links at bases periods phases ranks
  unfolding is_met met_by joined_pair
  met-is ls =
      let r = reader_at links at bases in
      let w = source_at links at bases in
      let re : base parts (byte_at links (4 * i)) + byte_at links (4 * i + 1) ≡ r =
      ap (λ (n : ℕ). base parts (byte_at links n) + byte_at links (n + 1)) (sym e) ∙ sym reader-is in
      let we : base parts (byte_at links (4 * i + 2)) + byte_at links (4 * i + 3) ≡ w =
      ap (λ (n : ℕ). base parts (byte_at links (n + 2)) + byte_at links (n + 3)) (sym e) ∙ sym source_is in
      ap₂ (λ (x y : ℕ).
      is_met (joined_pair parts ls).program (joined_pair parts ls).schedule x
      (record { place = i; kind = Now; operands = record { signal = y; factor = 1; index = Fixed 0 } })) re we ∙
      λ j.
      both
      (wired-rate parts ls periods phases w source-below (l.periods-are w source-below) (l.phases-are w source-below) j)
      (wired-rate parts ls periods phases r reader-below (l.periods-are r reader-below) (l.phases-are r reader-below) j)
      (ltb (sym (l.ranks-are w source-below) j) (sym (l.ranks-are r reader-below) j))

-- The numbers of the links rise.
rising-from : (links : List ℕ) (i n : ℕ) → Rising i (map (λ (m : PartLink). m.place) (table_from i n (link_at links))) (i + n)
unfolding table_from
rising-from links i zero = omega arith
rising-from links i (suc n) = (
  omega arith,
  subst (λ (b : ℕ). Rising (suc i) (map (λ (m : PartLink). m.place) (table_from (suc i) n (link_at links))) b)
      (omega arith) (rising-from links (suc i) n),
)

pub links-turn : (links : List ℕ) → InTurn (λ (m : PartLink). m.place ∷ []) 0 (links_of links) (links_in links)
unfolding table
links-turn links =
    turn-single (λ (m : PartLink). m.place) 0 (links_of links) (links_in links)
    (subst (λ (b : ℕ). Rising 0 (map (λ (m : PartLink). m.place) (table_from 0 (links_in links) (link_at links))) b) (zero-add _)
    (rising-from links 0 (links_in links)))
