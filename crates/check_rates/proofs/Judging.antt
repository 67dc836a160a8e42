-- One read and one LINK by the tables, as the definition judges them, and the lower of two faults. Assumes nothing.
use Rattle.std.specs.Prelude.{Result}
use Prim.Native.Nat.{ℕ, zero, suc, ◌+◌, ◌*◌, ◌-◌, ◌≤◌, ◌<◌}
use mathlib.Core.Bool.{Bool, true, false, cond}
use mathlib.Core.List.{List, [], ◌∷◌}
use mathlib.Core.Path.{◌≡◌, refl, sym, ap, subst, ◌∙◌}
use native.Mathlib.Omega.{arith}
use lib.Dec.{ltb}
use lib.ListN.{length, get_or}
use borrow.Author.Tests.{lt-ltb, ltb-true}
use Rattle.model.specs.Says.Feasible.{All}
use Rattle.model.specs.Rules.Outcome.{Outcome, accepted, refused, fault, lowest}
use Rattle.model.specs.Rules.Program.{Program, Read, Link, Signal, count, signal_at, body_reads}
use Rattle.model.specs.Rules.Rates.{period_rule, read_faults, link_faults, declared_and_rated}
use Rattle.model.specs.Says.Grammar.{SpellsLinks}
use Rattle.model.specs.Rules.Word.{byte_at}
use Rattle.model.specs.declared.Fault.{Fault}
use Rattle.model.proofs.Basics.All.{all-at}
use Rattle.model.proofs.Texts.Legal.{stands}
use Rattle.model.specs.Says.Stands.{SpellsChain}
use Rattle.text_command.specs.Operator.{ReadTaken}
use Rattle.text_command.specs.declared.Taken.{Taken}
use Rattle.basics.specs.Judgement.{judgement_of}
use Rattle.text_program.specs.Tables.{no_chain, chain_at, TablesOf, PeriodsOf, Stands, Indexes}
use Rattle.text_program.specs.declared.Tables.{Tables}
use Rattle.text_program.proofs.ByIndex.{no_link, read_at, place_is, taken_is}
use Rattle.text_program.proofs.InTurn.{AtPlaces, within_more, single-at, singles-within, or_lower, lowest-append}
use Rattle.text_program.proofs.Rising.{signal_places, chain_places}
use Rattle.check_rates.specs.Rates.{
  rate_judged,
  period_at,
  read_judged,
  signal_rates,
  read_rates,
  chain_rates,
  link_rates,
  lower_of,
}

module _ (p : Program) where
  either-there : (n : ℕ) (b c : Bool) → All (λ (f : Fault). f.place ≡ n) (cond b (cond c [] (fault 8 n ∷ [])) (fault 7 n ∷ []))
  either-there n true true = tt
  either-there n true false = (refl, tt)
  either-there n false c = (refl, tt)

  read-there : (x : Signal) (ρ : Read) → All (λ (f : Fault). f.place ≡ ρ.place) (read_faults p x ρ)
  unfolding read_faults
  read-there x ρ =
      either-there ρ.place (ltb ρ.operands.signal (count p))
      (period_rule ρ.kind (signal_at p ρ.operands.signal).period x.period ρ.operands.factor)

  link-there : (l : Link) → All (λ (f : Fault). f.place ≡ l.place) (link_faults p l)
  unfolding link_faults
  link-there l = either-there l.place (ltb l.signal (count p)) true

  -- The faults of a read, of a signal's reads, of a LINK and of a chain's stand at their places.
  pub read-at : (x : Signal) → AtPlaces (λ (ρ : Read). ρ.place ∷ []) (λ i ρ. read_faults p x ρ)
  read-at x = single-at (λ ρ. ρ.place) (λ ρ. read_faults p x ρ) (read-there x)

  pub signal-at : AtPlaces signal_places (λ s x. signal_rates p x)
  signal-at s x a b r = singles-within (λ ρ. ρ.place) (λ ρ. read_faults p x ρ) (read-there x) (body_reads x.body) a b r

  pub link-at-place : AtPlaces (λ (l : Link). l.place ∷ []) (λ i l. link_faults p l)
  link-at-place = single-at (λ l. l.place) (λ l. link_faults p l) link-there

  pub chain-at : AtPlaces chain_places (λ j c. chain_rates p c)
  chain-at j c a b r =
      within_more (suc c.place) b a b (chain_rates p c) (omega (arith, r.0)) (omega arith)
      (singles-within (λ l. l.place) (λ l. link_faults p l) link-there c.links (suc c.place) b r.1)

  -- A LINK.
  judged-link : (l : Link) → rate_judged (ltb l.signal (count p)) true l.place ≡ judgement_of (lowest (link_faults p l))
  unfolding link_faults rate_judged lowest judgement_of
  judged-link l = go (ltb l.signal (count p))
    where
      go : (b : Bool) → rate_judged b true l.place ≡ judgement_of (lowest (cond b [] (fault 7 l.place ∷ [])))
      go true = refl
      go false = refl

  module _ (periods : List ℕ) (few : count p ≤ 64) (table : PeriodsOf p periods) where
    -- The table's periods are the program's.
    period-is : (x : ℕ) → x < count p → (signal_at p x).period ≡ period_at periods x
    unfolding period_at
    period-is x lt = rw (lt-ltb x 64 (omega arith)) (sym (table x lt))

    judged-rate : (x : ℕ) (ρ : Read) → x < count p →
        read_judged (count p) periods ρ.place x ρ.kind ρ.operands ≡ judgement_of (lowest (read_faults p (signal_at p x) ρ))
    unfolding read_faults read_judged rate_judged lowest judgement_of
    judged-rate x ρ lt = go (ltb ρ.operands.signal (count p)) refl
      where
        by : (b c : Bool) → rate_judged b c ρ.place ≡
            judgement_of (lowest (cond b (cond c [] (fault 8 ρ.place ∷ [])) (fault 7 ρ.place ∷ [])))
        by true true = refl
        by true false = refl
        by false c = refl

        go : (b : Bool) → ltb ρ.operands.signal (count p) ≡ b →
            rate_judged b
            (period_rule ρ.kind (period_at periods ρ.operands.signal) (period_at periods x) ρ.operands.factor)
            ρ.place ≡
            judgement_of (lowest (cond b
            (cond (period_rule ρ.kind (signal_at p ρ.operands.signal).period (signal_at p x).period ρ.operands.factor)
            []
            (fault 8 ρ.place ∷ []))
            (fault 7 ρ.place ∷ [])))
        go true e =
            let lw : ρ.operands.signal < count p = ltb-true ρ.operands.signal (count p) e in
            rw (period-is ρ.operands.signal lw, period-is x lt)
            (by true (period_rule ρ.kind (period_at periods ρ.operands.signal) (period_at periods x) ρ.operands.factor))
        go false e = refl

-- One read of the table.
module _ {text reads firsts : List ℕ} {n : ℕ} {p : Program} (ix : Indexes text reads firsts n p)
    (periods : List ℕ) (few : n ≤ 64) (table : PeriodsOf p periods) (x i : ℕ) (lt : x < n) (low : get_or firsts x 0 ≤ i)
    (high : i < get_or firsts (x + 1) 0) where
  abbrev ρ : Read
  ρ = read_at p x (i - get_or firsts x 0)

  pub one-read : (r : Taken) (j : Result (Unit {0}) Fault) (at : ℕ) → at ≡ get_or reads i 0 → ReadTaken text at r →
      j ≡ read_judged n periods at x r.kind r.operands → j ≡ judgement_of (lowest (read_faults p (signal_at p x) ρ))
  one-read r j at z h q =
      let t = taken_is ix x i lt low high r (subst (λ (k : ℕ). ReadTaken text k r) z h) in
      let c = ix.count-is in
      q ∙ ap (λ (y : Taken). read_judged n periods at x y.kind y.operands) t ∙
      ap (λ (k : ℕ). read_judged n periods k x ρ.kind ρ.operands) (z ∙ place_is ix x i lt low high) ∙
      ap (λ (k : ℕ). read_judged k periods ρ.place x ρ.kind ρ.operands) (sym c) ∙
      judged-rate p periods (omega (arith, c)) table x ρ (omega (arith, c))

-- The lower of two judgements.
pub both-rates : (p : Program) →
    lower_of (judgement_of (lowest (read_rates p))) (judgement_of (lowest (link_rates p))) ≡ judgement_of (declared_and_rated p)
unfolding declared_and_rated judgement_of lower_of
both-rates p = sym (ap judgement_of (lowest-append (read_rates p) (link_rates p)) ∙ go (lowest (read_rates p)) (lowest (link_rates p)))
  where
    go : (o q : Outcome (Unit {0})) → judgement_of (or_lower o q) ≡ lower_of (judgement_of o) (judgement_of q)
    go (accepted a) q = refl
    go (refused f) (accepted b) = refl
    go (refused f) (refused g) = refl

-- The LINKs of a chain, by its table.
module _ {text : List ℕ} where
  link-at : {at n : ℕ} {ls : List Link} → SpellsLinks text at ls n → (j : ℕ) → j < length ls →
      ((get_or ls j no_link).place ≡ at + 2 * j) × ((get_or ls j no_link).signal ≡ byte_at text (at + 2 * j + 1)) ×
      (at + 2 * j + 2 ≤ length text)
  link-at (SpellsLinks.ends e) j lt = absurd (omega arith)
  link-at (SpellsLinks.link {at = at} e le r) zero lt =
      let z : at + 1 ≡ at + 2 * 0 + 1 = omega arith in (omega arith, ap (λ (k : ℕ). get_or text k 0) z, omega arith)
  link-at (SpellsLinks.link {at = at} {ls = ls} e le r) (suc j) lt =
      let h = link-at r j (omega arith) in
      let z : at + 2 + 2 * j ≡ at + 2 * suc j = omega arith in
      (omega (arith, h.0), rw z at h.1, omega (arith, h.2))

module _ {text reads : List ℕ} {t : Tables} {p : Program} (h : Stands text reads t p) where
  abbrev tables : TablesOf p t
  tables = h.tables-are

  pub chains-are : length p.chains ≡ t.chains
  chains-are = tables.counts.chains-are

  module _ (x : ℕ) (lt : x < t.chains) where
    chain-stands : SpellsChain text (chain_at p x)
    chain-stands =
        all-at (SpellsChain text) p.chains no_chain (stands text p h.declares).1.chains x (omega (arith, chains-are))

    start_is : get_or t.starts x 0 ≡ (chain_at p x).place
    start_is = tables.starts x (omega (arith, chains-are))

    pub length-is : get_or t.lengths x 0 ≡ length (chain_at p x).links
    length-is = tables.lengths x (omega (arith, chains-are))

    module _ (i : ℕ) (li : i < get_or t.lengths x 0) where
      pub link-seen : i < length (chain_at p x).links
      link-seen = omega (arith, length-is)

      abbrev l : Link
      l = get_or (chain_at p x).links i no_link

      pub link-inside : get_or t.starts x 0 + 4 + 2 * i + 2 ≤ length text
      link-inside = omega (arith, start_is, (link-at chain-stands.links i link-seen).2)

      pub one_link : (at signal : ℕ) (j : Result (Unit {0}) Fault) → at ≡ get_or t.starts x 0 + 4 + 2 * i → signal ≡ get_or text (at + 1) 0 →
          j ≡ rate_judged (ltb signal t.signals) true at → j ≡ judgement_of (lowest (link_faults p l))
      one_link at signal j z w q =
          let g = link-at chain-stands.links i link-seen in
          let a : l.place ≡ at = omega (arith, g.0, start_is) in
          let b : l.signal ≡ signal =
          g.1 ∙ ap (λ (k : ℕ). get_or text (k + 1) 0) (sym g.0 ∙ a) ∙ sym w in
          q ∙
          sym (ap (λ (k : ℕ). rate_judged (ltb l.signal (count p)) true k) a ∙
          ap (λ (k : ℕ). rate_judged (ltb k (count p)) true at) b ∙
          ap (λ (k : ℕ). rate_judged (ltb signal k) true at) tables.counts.signals-are) ∙
          judged-link p l
