-- The links of a chain (10), link after link. Assumes nothing.
use Rattle.std.specs.Prelude.{Ok, Err}
use Prim.Native.Nat.{ℕ, suc, ◌+◌, ◌-◌, ◌≤◌, ◌<◌}
use mathlib.Core.Bool.{Bool, true, false, cond, ◌&&◌}
use mathlib.Core.List.{List, [], ◌∷◌, map}
use mathlib.Core.Path.{◌≡◌, refl, ap, ◌∙◌}
use native.Mathlib.Omega.{arith}
use lib.Dec.{eqb}
use lib.ListN.{length, get_or}
use Rattle.model.specs.Rules.Outcome.{fault, lowest}
use Rattle.model.specs.Rules.Program.{Link, Chain, Program, signal_at, body_reads}
use Rattle.model.specs.Rules.Rates.{count_reads, is_linked}
use Rattle.model.specs.Rules.Word.{byte_at}
use Rattle.model.specs.declared.Fault.{Fault}
use Rattle.model.proofs.Basics.All.{all-at}
use Rattle.model.proofs.Texts.Legal.{stands}
use Rattle.model.specs.Says.Stands.{SpellsChain}
use Rattle.model.specs.Says.Grammar.{SpellsLinks, LegalProgram}
use Rattle.basics.specs.Judgement.{judgement_of}
use Rattle.text_program.specs.Tables.{no_chain, chain_at, TablesOf, Stands}
use Rattle.text_program.specs.declared.Tables.{Tables}
use Rattle.text_program.proofs.InTurn.{Within, AtPlaces}
use Rattle.text_program.proofs.Rising.{chain_places, rising_le}

-- The LINKs from `at` on, of whose chain so much is judged.
pub record LinksLeft (text : List ℕ) (p : Program) (whole : List Link) (at left : ℕ) : Type 0 where
  pub links : List Link
  pub end : ℕ
  pub spelled : SpellsLinks text at links end
  pub many : length links ≡ left
  pub judged : is_linked p whole ≡ is_linked p links

-- Two links, the second of them linked to the first or not.
record Two (text : List ℕ) (p : Program) (links : List Link) (at end : ℕ) : Type 0 where
  rest : List Link
  spelled : SpellsLinks text (at + 2) rest end
  fewer : length links ≡ suc (length rest)
  inside : at + 4 ≤ length text
  judged :
      is_linked p links ≡
      eqb (count_reads (byte_at text (at + 1)) (body_reads (signal_at p (byte_at text (at + 2 + 1))).body)) 1 && is_linked p rest

module _ (text : List ℕ) (p : Program) where
  two : (links : List Link) (at end : ℕ) → SpellsLinks text at links end → 2 ≤ length links → Two text p links at end
  unfolding is_linked
  two links at end (SpellsLinks.ends e) h = absurd (omega arith)
  two links at end (SpellsLinks.link e le (SpellsLinks.ends f)) h = absurd (omega arith)
  two links at end (SpellsLinks.link e le (SpellsLinks.link {ls = ls} f lf r)) h =
      record {
        rest = record { place = at + 2; signal = byte_at text (at + 2 + 1) } ∷ ls;
        spelled = SpellsLinks.link f lf r;
        fewer = refl;
        inside = omega arith;
        judged = refl;
      }

  one : (links : List Link) → length links ≤ 1 → is_linked p links ≡ true
  unfolding is_linked
  one [] h = refl
  one (a ∷ []) h = refl
  one (a ∷ (b ∷ ls)) h = absurd (omega arith)

  module _ (whole : List Link) (at left : ℕ) (h : LinksLeft text p whole at left) where
    pub link-inside : 1 < left → at + 4 ≤ length text
    link-inside lt = (two h.links at h.end h.spelled (omega (arith, h.many))).inside

    -- The next link is not linked, or is; or there is none.
    abbrev once : Bool
    once = eqb (count_reads (byte_at text (at + 1)) (body_reads (signal_at p (byte_at text (at + 2 + 1))).body)) 1

    pub link-broken : 1 < left → once ≡ false → is_linked p whole ≡ false
    link-broken lt f =
        let t = two h.links at h.end h.spelled (omega (arith, h.many)) in
        h.judged ∙ t.judged ∙ ap (λ b. b && is_linked p t.rest) f

    pub link_on : 1 < left → once ≡ true → LinksLeft text p whole (at + 2) (left - 1)
    link_on lt f =
        let t = two h.links at h.end h.spelled (omega (arith, h.many)) in
        record {
          links = t.rest;
          end = h.end;
          spelled = t.spelled;
          many = omega (arith, h.many, t.fewer);
          judged = h.judged ∙ t.judged ∙ ap (λ b. b && is_linked p t.rest) f;
        }

    pub link-over : left ≤ 1 → is_linked p whole ≡ true
    link-over le = h.judged ∙ one h.links (omega (arith, h.many))

-- Where a chain's links start.
chain-start : (text : List ℕ) (p : Program) → LegalProgram text p → (j : ℕ) → j < length p.chains →
    LinksLeft text p (chain_at p j).links ((chain_at p j).place + 4) (length (chain_at p j).links)
chain-start text p q j lt =
    let c = all-at (SpellsChain text) p.chains no_chain (stands text p q).1.chains j lt in
    record { links = (chain_at p j).links; end = c.end; spelled = c.links; many = refl; judged = refl }

-- The same by the tables.
module _ {text reads : List ℕ} {tables : Tables} {p : Program} (h : Stands text reads tables p)
    (chain : ℕ) (lt : chain < tables.chains) where
  abbrev t : TablesOf p tables
  t = h.tables-are

  l : chain < length p.chains
  l = omega (arith, t.counts.chains-are)

  pub chain-begins :
      LinksLeft text p (chain_at p chain).links (get_or tables.starts chain 0 + 4) (get_or tables.lengths chain 0)
  chain-begins = rw (t.starts chain l, t.lengths chain l) (chain-start text p h.declares chain l)

-- The fault of a LAT that fails a test stands at its place.
pub lat-at : (number : ℕ) (test : Chain → Bool) → AtPlaces chain_places (λ j c. cond (test c) [] (fault number c.place ∷ []))
lat-at number test j c a b r = go (test c)
  where
    go : (t : Bool) → Within a (cond t [] (fault number c.place ∷ [])) b
    go true = tt
    go false = (
      (
        omega (arith, r.0),
        omega (
          arith,
          rising_le (suc c.place) (map (λ (l : Link). l.place) c.links) b
              r.1,
        ),
      ),
      tt,
    )

-- Its judgement goes by the test.
pub lat-judged : (f : Fault) (t b : Bool) → t ≡ b → cond b (Ok tt) (Err f) ≡ judgement_of
    (lowest (cond t [] (f ∷ [])))
unfolding judgement_of lowest
lat-judged f true b e = rw (← e)
lat-judged f false b e = rw (← e)
