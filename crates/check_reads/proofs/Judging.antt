-- One read by the tables, as the definition judges it. Assumes nothing.
use Rattle.std.specs.Prelude.{Result, Ok, Err}
use Prim.Native.Nat.{ℕ, ◌+◌, ◌-◌, ◌≤◌, ◌<◌}
use mathlib.Core.Bool.{Bool, true, false, cond}
use mathlib.Core.List.{List, [], ◌∷◌}
use mathlib.Core.Path.{◌≡◌, refl, sym, ap, subst, ◌∙◌}
use native.Mathlib.Omega.{arith}
use lib.ListN.{get_or}
use borrow.Author.Tests.{lt-ltb}
use Rattle.model.specs.Says.Feasible.{All}
use Rattle.model.specs.Rules.Outcome.{accepted, fault, lowest}
use Rattle.model.specs.Rules.Program.{Program, Read, count, signal_at, body_reads}
use Rattle.model.specs.Rules.Rates.{declared_and_rated}
use Rattle.model.specs.Rules.Reads.{is_met}
use Rattle.model.specs.Rules.Schedule.{Schedule}
use Rattle.model.specs.Rules.Search.{join_from}
use Rattle.model.specs.declared.Fault.{Fault}
use Rattle.model.proofs.Basics.All.{all-at}
use Rattle.model.proofs.Texts.Legal.{stands, read-sound, signal-reads}
use Rattle.model.specs.Says.Stands.{SpellsRead}
use Rattle.model.proofs.Pairs.Verdict.{Rated, reads-rated}
use Rattle.text_command.specs.Operator.{ReadTaken}
use Rattle.text_command.specs.declared.Taken.{Taken}
use Rattle.text_program.specs.Tables.{PeriodsOf, SlotsOf, Indexes}
use Rattle.basics.specs.Judgement.{judgement_of}
use Rattle.text_program.proofs.ByIndex.{no_read, read_at, rate-is, seen, place_is, taken_is}
use Rattle.text_program.proofs.InTurn.{AtPlaces, single-at, singles-within}
use Rattle.text_program.proofs.Rising.{signal_places}
use Rattle.read_rule.specs.Reads.{met_by}
use Rattle.check_reads.specs.Met.{Below, PacedAt, is_met_at, read_met}

module _ (p : Program) (s : Schedule) where
  -- The fault of a read in the equation of r, if it has one.
  abbrev pub read_fault : ℕ → Read → List Fault
  read_fault r ρ = cond (is_met p s r ρ) [] (fault 14 ρ.place ∷ [])

  fault-there : (r : ℕ) (ρ : Read) → All (λ f. f.place ≡ ρ.place) (read_fault r ρ)
  fault-there r ρ = go (is_met p s r ρ)
    where
      go : (b : Bool) → All (λ (f : Fault). f.place ≡ ρ.place) (cond b [] (fault 14 ρ.place ∷ []))
      go true = tt
      go false = (refl, tt)

  -- The faults of a read and of a signal's reads stand at their places.
  pub read-at : (r : ℕ) → AtPlaces (λ (ρ : Read). ρ.place ∷ []) (λ i ρ. read_fault r ρ)
  read-at r = single-at (λ ρ. ρ.place) (read_fault r) (fault-there r)

  pub signal-at : AtPlaces signal_places (λ r x. join_from 0 (λ i ρ. read_fault r ρ) (body_reads x.body))
  signal-at r x a b h = singles-within (λ ρ. ρ.place) (read_fault r) (fault-there r) (body_reads x.body) a b h

  module _ (order periods phases ranks : List ℕ) (table : PeriodsOf p periods) (slots : SlotsOf p s order phases ranks) where
    -- The tables tell whether a read is met.
    met-is : (r : ℕ) (ρ : Read) → r < count p → ρ.operands.signal < count p →
        is_met p s r ρ ≡ is_met_at periods phases ranks r ρ.kind ρ.operands
    unfolding is_met met_by
    met-is r ρ lr lw =
        rw (
          rate-is periods table slots ρ.operands.signal lw,
          rate-is periods table slots r lr,
          slots.ranks-are ρ.operands.signal lw,
          slots.ranks-are r lr,
        )

    pub judged-met : (r : ℕ) (ρ : Read) → r < count p → ρ.operands.signal < count p →
        read_met periods phases ranks (count p) ρ.place r ρ.kind ρ.operands ≡ judgement_of (lowest (read_fault r ρ))
    unfolding read_met lowest judgement_of
    judged-met r ρ lr lw =
        rw (lt-ltb ρ.operands.signal (count p) lw, lt-ltb r (count p) lr, ← (met-is r ρ lr lw)) (go (is_met p s r ρ))
      where
        go : (b : Bool) → cond b (Ok tt) (Err (fault 14 ρ.place)) ≡
            judgement_of (lowest (cond b [] (fault 14 ρ.place ∷ [])))
        go true = refl
        go false = refl

-- One read of the table.
module _ {text reads firsts : List ℕ} {n : ℕ} {p : Program} (ix : Indexes text reads firsts n p)
    (s : Schedule) (order periods phases ranks : List ℕ) (rated : declared_and_rated p ≡ accepted tt) (table : PeriodsOf p periods)
    (slots : SlotsOf p s order phases ranks) (below : Below periods phases n) (x i : ℕ) (lt : x < n) (low : get_or firsts x 0 ≤ i)
    (high : i < get_or firsts (x + 1) 0) where
  abbrev ρ : Read
  ρ = read_at p x (i - get_or firsts x 0)

  reader-count : x < count p
  reader-count = omega (arith, ix.count-is)

  rated-read : Rated p x ρ
  rated-read =
      all-at (Rated p x) (body_reads (signal_at p x).body) no_read (reads-rated p rated x reader-count) (i - get_or firsts x 0)
      (seen ix x i lt low high)

  declared : ρ.operands.signal < count p
  declared = rated-read.0

  paced : PacedAt periods phases x ρ.kind ρ.operands
  paced =
      let l = stands text p ix.declares in
      let spelled =
      all-at (SpellsRead text) (body_reads (signal_at p x).body) no_read (signal-reads l.1 x reader-count)
      (i - get_or firsts x 0) (seen ix x i lt low high) in
      record {
        rule = rw (table ρ.operands.signal declared, table x reader-count) rated-read.1;
        positive = (read-sound text ρ spelled).positive;
        read_below = below ρ.operands.signal (omega (arith, ix.count-is, declared));
        reader-below = below x lt;
      }

  pub one-read : (r : Taken) (j : Result (Unit {0}) Fault) (at : ℕ) → at ≡ get_or reads i 0 → ReadTaken text at r →
      (PacedAt periods phases x r.kind r.operands → j ≡ read_met periods phases ranks n at x r.kind r.operands) →
      j ≡ judgement_of (lowest (read_fault p s x ρ))
  one-read r j at z h q =
      let t = taken_is ix x i lt low high r (subst (λ (k : ℕ). ReadTaken text k r) z h) in
      q (subst (λ (y : Taken). PacedAt periods phases x y.kind y.operands) (sym t) paced) ∙
      ap (λ (y : Taken). read_met periods phases ranks n at x y.kind y.operands) t ∙
      ap (λ (k : ℕ). read_met periods phases ranks n k x ρ.kind ρ.operands) (z ∙ place_is ix x i lt low high) ∙
      ap (λ (k : ℕ). read_met periods phases ranks k ρ.place x ρ.kind ρ.operands) (sym ix.count-is) ∙
      judged-met p s order periods phases ranks table slots x ρ reader-count declared
