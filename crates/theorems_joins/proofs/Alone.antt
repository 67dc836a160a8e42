-- The join of one part without links is the compile of that part. Assumes nothing.
use Prim.Native.Nat.{ℕ, ◌≤◌}
use mathlib.Core.List.{List, [], ◌∷◌, ◌++◌, append-nil}
use mathlib.Core.Path.{◌≡◌, refl, sym, ap, ◌∙◌}
use native.Mathlib.Nat.{zero-add}
use native.Mathlib.Omega.{arith}
use lib.Dec.{leb}
use lib.ListN.{length, drop}
use Rattle.model.specs.Rules.Compile.{Pair, pair_of, verdict_of, compile_of}
use Rattle.model.specs.Rules.Image.{written_of}
use Rattle.model.specs.Rules.Join.{
  PartTexts,
  parts_in,
  texts_at,
  program_text,
  schedule_text,
  part_pair,
  parts_from,
  links_of,
  named,
  one_table,
  joined_verdict,
  joined_pair_of,
  join_of,
}
use Rattle.model.specs.Rules.Machine.{effect}
use Rattle.model.specs.Rules.Outcome.{Outcome, accepted, refused, ◌▷◌, provided}
use Rattle.model.specs.Rules.Parts.{Part, smaller, ◌⊕◌, joined_parts, wired_body, wired_with, joined_pair}
use Rattle.model.specs.Rules.Program.{Program, Signal, Limit, unlimited, limit, no_signal, count, signal_at}
use Rattle.model.specs.Rules.Search.{first_from, first_below, table_from, table}
use Rattle.theorems_pairs.specs.Conditions.{LegalPair}
use Rattle.theorems_joins.specs.Join.{OneTable, TextsLent, JoinedLegal}
use Rattle.model.proofs.Basics.Outcomes.{accepted-then}
use Rattle.model.proofs.Rows.Spelled.{table-from}
use Rattle.model.proofs.Texts.Legal.{legal}
use Rattle.model.proofs.Pairs.Verdict.{pair-passed}
use Rattle.theorems_joins.proofs.Bounds.{pair-feasible}
use Rattle.theorems_joins.proofs.Exact.{lent-judged, table-judged}
use Rattle.theorems_joins.proofs.Verdict.{joined-exactly}
use Rattle.theorems_pairs.proofs.Exact.{accepted-exactly}

-- One part joined with nothing is that part.
own-cap : (l : Limit) → smaller l unlimited ≡ l
own-cap unlimited = refl
own-cap (limit n) = refl

all-signals : (xs : List Signal) (p : Program) → p.signals ≡ xs ++ [] →
    table (count p) (λ x. signal_at p x) ≡ xs
unfolding table
all-signals xs p e =
    table-from 0 p.signals (λ x. signal_at p x) no_signal (λ n lt. ap (signal_at p) (zero-add n)) ∙ e ∙ append-nil xs

pub alone-part : (a : Part) → joined_pair (a ∷ []) [] ≡ a
unfolding joined_pair joined_parts ◌⊕◌ wired_with wired_body
alone-part a =
    λ i. record {
      program =
          record {
            signals = all-signals a.program.signals (a ⊕ joined_parts []).program refl i;
            chains = append-nil a.program.chains i;
            cap = own-cap a.program.cap i;
            rows = append-nil a.program.rows i;
          };
      schedule =
          record { order = append-nil a.schedule.order i; phases = append-nil a.schedule.phases i };
    }

-- So is its verdict ..
module _ (program schedule : List ℕ) (q : Pair) (e : pair_of program schedule ≡ accepted q) where
  abbrev part : Part
  part = record { program = q.program; schedule = q.schedule }

  one-table : OneTable (part ∷ [])
  one-table j k lj lk s t = omega arith

  legal-pair : LegalPair program schedule q
  legal-pair = (accepted-exactly program schedule q).0 e

  few : (count q.program ≤ 64) × (length q.program.chains ≤ 16)
  few =
      let l = (legal program q.program (pair-passed program schedule q e).parses).1 in
      (l.few_signals, l.few_chains)

  alone-legal : JoinedLegal (part ∷ []) [] q
  alone-legal =
      let back = sym (alone-part part) in
      record {
        program = ap (λ a. a.program) back;
        schedule = ap (λ a. a.schedule) back;
        few = rw (alone-part part) few;
        hypercycle = rw (alone-part part) legal-pair.places.rates.hypercycle;
        met = tt;
        loads = rw (alone-part part) legal-pair.loads;
      }

  pub alone-accepted : joined_verdict (part ∷ []) [] ≡ accepted q
  alone-accepted =
      (joined-exactly (part ∷ []) (pair-feasible program schedule q e, tt) [] tt q).1 alone-legal

-- .. and its call.
module _ (buffer numbers : List ℕ) (inside : TextsLent buffer numbers) (one : parts_in numbers ≡ 1) where
  abbrev texts : PartTexts
  texts = texts_at numbers 0

  abbrev own : Outcome Pair
  own = pair_of (program_text buffer texts) (schedule_text buffer texts)

  pub alone-pair : joined_pair_of buffer numbers [] ≡ own
  unfolding joined_pair_of parts_from part_pair ◌▷◌ named first_below first_from table table_from
  alone-pair =
      accepted-then _ _ _ (((lent-judged buffer numbers).accepts tt).1 inside) ∙ rw one (go own refl)
    where
      go : (o : Outcome Pair) → own ≡ o →
          (o ▷ λ q. accepted (record { program = q.program; schedule = q.schedule } ∷ [])) ▷
          (λ parts. named parts [] ▷ λ _. one_table parts ▷ λ _. joined_verdict parts (links_of [])) ≡ o
      go (refused f) e = refl
      go (accepted q) e =
          let parts : List Part = record { program = q.program; schedule = q.schedule } ∷ [] in
          rw (((table-judged parts).accepts tt).1 (one-table _ _ q e)) (alone-accepted _ _ q e)

  pub alone-call : (image : List ℕ) →
      join_of buffer numbers [] image ≡ compile_of (program_text buffer texts) (schedule_text buffer texts) image
  unfolding join_of compile_of verdict_of ◌▷◌
  alone-call image = rw alone-pair (go own)
    where
      go : (o : Outcome Pair) →
          effect image (o ▷ λ q.
          let written = written_of q.program q.schedule q.hypercycle in
          provided (leb (length written) (length image)) 17 (length written) ▷ λ _.
          accepted (record { yields = length written; leaves = written ++ drop (length written) image })) ≡
          effect image ((o ▷ λ q. accepted (written_of q.program q.schedule q.hypercycle)) ▷ λ written.
          provided (leb (length written) (length image)) 17 (length written) ▷ λ _.
          accepted (record { yields = length written; leaves = written ++ drop (length written) image }))
      go (accepted q) = refl
      go (refused f) = refl
