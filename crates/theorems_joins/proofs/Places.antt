-- Every refusal of a join has a number above 0 and a small place, and what it yields is small. Assumes nothing.
use Rattle.std.specs.Prelude.{Option}
use Prim.Native.Nat.{ℕ, ◌+◌, ◌*◌, ◌≤◌, ◌<◌}
use mathlib.Core.Bool.{Bool, true, false, false≢true}
use mathlib.Core.List.{List}
use mathlib.Core.Path.{◌≡◌, refl, sym, ap, ◌∙◌}
use native.Mathlib.Decide.{dec_lt}
use native.Mathlib.Omega.{arith}
use lib.ListN.{length}
use Rattle.model.specs.Rules.Compile.{Pair}
use Rattle.model.specs.Rules.Join.{is_right, link_at, links_in, links_of, join_of}
use Rattle.model.specs.Rules.Outcome.{accepted, refused}
use Rattle.model.specs.Rules.Parts.{Part, part_at, PartLink}
use Rattle.model.specs.Rules.Program.{count}
use Rattle.model.specs.Rules.Word.{AreBytes}
use Rattle.model.specs.declared.Fault.{Fault}
use Rattle.model.proofs.Basics.Outcomes.{table-length, table_at}
use Rattle.model.proofs.Joining.Lent.{link-back}
use Rattle.model.proofs.Pairs.Pigeons.{pigeons}
use Rattle.model.proofs.Pairs.Verdict.{pair-passed}
use Rattle.model.proofs.Texts.Legal.{legal}
use Rattle.theorems_pairs.specs.Conditions.{◌among◌}
use Rattle.theorems_calls.specs.Exactness.{size_of}
use Rattle.theorems_joins.specs.JoinExactness.{JoinRefusedAt}
use Rattle.theorems_joins.specs.Join.{
  TextsLent,
  PartsLegal,
  LinkRight,
  LinksRight,
  WrongLink,
  LinkFault,
  JoinedRefused,
  JoinLegal,
  JoinRefused,
}
use Rattle.theorems_pairs.specs.Refusals.{LowestFault}
use Rattle.theorems_calls.proofs.Numbers.{pair-number, load-number}
use Rattle.theorems_calls.proofs.Places.{load_below, refusal-small}
use Rattle.theorems_joins.proofs.Called.{join-exactly}
use Rattle.theorems_joins.proofs.Demand as Demand
use Rattle.theorems_joins.proofs.Exact.{right-decides}
use Rattle.theorems_pairs.proofs.Exact.{accepted-exactly}
use Rattle.theorems_pairs.proofs.Faults.{among-at}

-- At most 8 parts of at most 64 signals each.
record FewSignals (parts : List Part) : Type 0 where
  pub few : length parts ≤ 8
  pub each : (k : ℕ) → k < length parts → count (part_at parts k).program ≤ 64

legal-few : {buffer numbers : List ℕ} {parts : List Part} → TextsLent buffer numbers → PartsLegal buffer numbers parts →
    FewSignals parts
legal-few lent l =
    record {
      few = omega (arith, lent.few, l.count-is);
      each = λ k lt.
          let passed = pair-passed _ _ _ ((accepted-exactly _ _ _).1 (l.each k lt).1) in
          (legal _ _ passed.parses).1.few_signals;
    }

-- Right links name different INs, of which there are at most 8 × 64.
module _ (parts : List Part) (links : List ℕ) (bound : FewSignals parts) where
  abbrev input_number : ℕ → ℕ
  input_number j = 64 * (link_at links j).input_part + (link_at links j).input

  module _ (i : ℕ) (right : (j : ℕ) → j < i → LinkRight parts links j) where
    number-low : (j : ℕ) → j < i → input_number j < 512
    number-low j lt =
        let n = (right j lt).names in
        omega (arith, n.input_part, n.input, bound.few, bound.each (link_at links j).input_part n.input_part)

    before-apart : (j k : ℕ) → j < k → k < i → ¬ (input_number j ≡ input_number k)
    before-apart j k before lt e =
        let m = (right j (omega arith)).names in
        let n = (right k lt).names in
        let x = bound.each (link_at links j).input_part m.input_part in
        let y = bound.each (link_at links k).input_part n.input_part in
        (right k lt).first j before (omega (arith, m.input, n.input), omega (arith, m.input, n.input))

    number-apart : (j k : ℕ) → j < i → k < i → input_number j ≡ input_number k → j ≡ k
    number-apart j k lj lk e = go (dec_lt j k) (dec_lt k j)
      where
        go : Dec (j < k) → Dec (k < j) → j ≡ k
        go (yes l) d = absurd (before-apart j k l lk e)
        go (no l) (yes m) = absurd (before-apart k j m lj (sym e))
        go (no l) (no m) = omega arith

    right-few : i ≤ 512
    right-few = pigeons 512 i input_number number-low number-apart

  -- All links before the lowest wrong one are right.
  before-right : {f : Fault} → LowestFault (WrongLink parts links) f → (j : ℕ) → j < f.place → LinkRight parts links j
  before-right w j lt = go (is_right parts links j) refl
    where
      inside : {g : Fault} → WrongLink parts links g → j < g.place → 4 * j < length links
      inside (WrongLink.wrong i l u) before = omega arith

      go : (b : Bool) → is_right parts links j ≡ b → LinkRight parts links j
      go true e = (right-decides parts links j).0 e
      go false e =
          let wrong = WrongLink.wrong j (inside w.fault lt) (λ r. false≢true (sym e ∙ (right-decides parts links j).1 r)) in
          absurd (omega (arith, w.least _ wrong))

  wrong-small : {f : Fault} → LowestFault (WrongLink parts links) f → f.place ≤ 512
  wrong-small {f} w = right-few f.place (before-right w)

  -- Where all links are right, each has a number of at most 512.
  link-small : LinksRight parts links → (l : PartLink) → l among links_of links → l.place ≤ 512
  link-small right l m =
      let h = among-at l (links_of links) (link_at links 0) m in
      let lt : h.0 < links_in links = omega (arith, h.1, table-length (links_in links) (link_at links)) in
      let is = table_at (links_in links) (link_at links) h.0 (link_at links 0) lt in
      let place : l.place ≡ h.0 = ap (λ (a : PartLink). a.place) (sym h.2 ∙ is) in
      omega (arith, right-few (links_in links) (λ j k. right j (link-back links j k)))

-- What the joined checks refuse with.
joined_small : {parts : List Part} {links : List ℕ} {f : Fault} → FewSignals parts → LinksRight parts links →
    JoinedRefused parts (links_of links) f → f.place ≤ 512
joined_small bound right (JoinedRefused.many u) = omega arith
joined_small bound right (JoinedRefused.unbounded few u) = omega arith
joined_small {parts} {links} bound right (JoinedRefused.unmet few least w) = go w.fault
  where
    go : {g : Fault} → LinkFault parts (links_of links) g → g.place ≤ 512
    go (LinkFault.unmet l m u) = link-small parts links bound right l m
joined_small bound right (JoinedRefused.overloaded {h = h} few least met w) =
    omega (arith, least.bound, load_below h least.multiple w.fault w.least)

joined_number : {parts : List Part} {links : List PartLink} {f : Fault} → JoinedRefused parts links f → 1 ≤ f.number
joined_number (JoinedRefused.many u) = omega arith
joined_number (JoinedRefused.unbounded few u) = omega arith
joined_number {parts} {links} (JoinedRefused.unmet few least w) = go w.fault
  where
    go : {g : Fault} → LinkFault parts links g → 1 ≤ g.number
    go (LinkFault.unmet l m u) = omega arith
joined_number (JoinedRefused.overloaded few least met w) = load-number w.fault

module _ {buffer numbers links : List ℕ} where
  refused-small : {k : Option ℕ} {f : Fault} → JoinRefused buffer numbers links k f → f.place ≤ 65535
  refused-small (JoinRefused.long u) = omega arith
  refused-small (JoinRefused.ninth short u) = omega arith
  refused-small (JoinRefused.outside short few k lt u) = omega arith
  refused-small (JoinRefused.inside l k lt before r) = refusal-small r
  refused-small (JoinRefused.wrong {parts = parts} l p w) = omega (arith, wrong-small parts links (legal-few l p) w)
  refused-small (JoinRefused.tables l p right u) = omega arith
  refused-small (JoinRefused.joined l p right one w) = omega (arith, joined_small (legal-few l p) right w)

  refused-number : {k : Option ℕ} {f : Fault} → JoinRefused buffer numbers links k f → 1 ≤ f.number
  refused-number (JoinRefused.long u) = omega arith
  refused-number (JoinRefused.ninth short u) = omega arith
  refused-number (JoinRefused.outside short few k lt u) = omega arith
  refused-number (JoinRefused.inside l k lt before r) = pair-number r
  refused-number (JoinRefused.wrong {parts = parts} l p w) = go w.fault
    where
      go : {g : Fault} → WrongLink parts links g → 1 ≤ g.number
      go (WrongLink.wrong i lt u) = omega arith
  refused-number (JoinRefused.tables l p right u) = omega arith
  refused-number (JoinRefused.joined l p right one w) = joined_number w

-- 24,679 bytes hold the image of every accepted join, with its tail.
pub join-size-most : (buffer numbers links : List ℕ) → AreBytes buffer → (q : Pair) → JoinLegal buffer numbers links q →
    size_of q ≤ 24679
join-size-most buffer numbers links bytes q l =
    let b = Demand.bounded buffer numbers links q l bytes in
    omega (arith, b.size, b.signals)

-- The call.
module _ (buffer numbers links image : List ℕ) where
  refused-at : (f : Fault) → (join_of buffer numbers links image).answer ≡ refused f →
      (k : Option ℕ) × JoinRefusedAt buffer numbers links image k f
  refused-at f e = (_, (((join-exactly buffer numbers links image).refuses _ f _).0 (e, refl, refl)).0)

  pub join-places-small : AreBytes buffer → (f : Fault) → (join_of buffer numbers links image).answer ≡ refused f →
      f.place ≤ 65535
  join-places-small bytes f e = go (refused-at f e).1
    where
      go : {k : Option ℕ} {g : Fault} → JoinRefusedAt buffer numbers links image k g → g.place ≤ 65535
      go (JoinRefusedAt.pair r) = refused-small r
      go (JoinRefusedAt.space {q = q} l lt) = omega (arith, join-size-most buffer numbers links bytes q l)

  pub join-number : (f : Fault) → (join_of buffer numbers links image).answer ≡ refused f → 1 ≤ f.number
  join-number f e = go (refused-at f e).1
    where
      go : {k : Option ℕ} {g : Fault} → JoinRefusedAt buffer numbers links image k g → 1 ≤ g.number
      go (JoinRefusedAt.pair r) = refused-number r
      go (JoinRefusedAt.space l lt) = omega arith

  -- What a join yields is small.
  pub join-most : AreBytes buffer → (n : ℕ) → (join_of buffer numbers links image).answer ≡ accepted n → n ≤ 24679
  join-most bytes n e =
      let d = ((join-exactly buffer numbers links image).done n _).0 (e, refl) in
      omega (arith, d.is, join-size-most buffer numbers links bytes d.pair d.legal)
