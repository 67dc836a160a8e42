-- Request l. Assumes nothing.
use Prim.Native.Nat.{ℕ, zero, suc, ◌*◌, ◌≤◌, ◌<◌}
use mathlib.Core.Bool.{Bool, true, false}
use mathlib.Core.List.{List}
use mathlib.Core.Path.{◌≡◌, refl, sym}
use native.Mathlib.Omega.{arith}
use lib.ListN.{length, length-append}
use Rattle.model.specs.Rules.Compile.{pair_of}
use Rattle.model.specs.Rules.Moves.{may_take, entry_if, entries_of, all_entries, moves_of}
use Rattle.model.specs.Rules.Outcome.{◌▷◌}
use Rattle.model.specs.Rules.Program.{count, signal_at, body_reads}
use Rattle.model.specs.Rules.Reads.{settled}
use Rattle.model.specs.Rules.Report.{report_of}
use Rattle.model.specs.Rules.Search.{join_below}
use Rattle.promises.specs.Moves.{RequestL}
use Rattle.model.proofs.Basics.All.{all_map}
use Rattle.model.proofs.Pairs.Verdict.{pair-passed}
use Rattle.model.proofs.Texts.Legal.{legal, signal-period}
use Rattle.promises.proofs.ForEver.{for-ever}
use Rattle.promises.proofs.MovesListed as Listed
use Rattle.theorems_pairs.proofs.Exact as Pairs
use Rattle.theorems_streams.proofs.Alike.{open-alike, alike-satisfy}

-- A list joined of short ones.
few-joined : {A : Type 0} (b n : ℕ) (f : ℕ → List A) → ((i : ℕ) → i < n → length (f i) ≤ b) → length (join_below n f) ≤ n * b
unfolding join_below
few-joined b zero f h = omega arith
few-joined b (suc n) f h =
    rw length-append (omega (arith, few-joined b n f (λ i l. h i (omega arith)), h n (omega arith)))

one_entry : (b : Bool) (x f : ℕ) → length (entry_if b x f) ≤ 1
one_entry true x f = omega arith
one_entry false x f = omega arith

pub request-l : RequestL
request-l =
    record {
      moves-exactly = λ program schedule list.
          unfold moves_of report_of ◌▷◌ in
          (record {
            refuses = λ counts. Listed.refuses program schedule list counts (pair_of program schedule);
            keeps = Listed.keeps program schedule list (pair_of program schedule);
            lists = λ q l.
                let e = (Pairs.accepted-exactly program schedule q).1 l in
                rw e (length (all_entries program schedule q), refl, Listed.lists program schedule q e list);
          });
      moves-streams = λ program schedule q e x f lt m inputs X.
          let p = q.program in
          let s = q.schedule in
          let s' = m.pair.schedule in
          let alike = open-alike p s s' (Listed.settle-here program schedule q e x f lt m) in (
            alike-satisfy p s s' alike inputs X,
            alike-satisfy p s' s
                (λ r lr. all_map (λ ρ. settled p s r ρ ≡ settled p s' r ρ) (λ ρ. settled p s' r ρ ≡ settled p s r ρ)
                (λ ρ h. sym h) (body_reads (signal_at p r).body) (alike r lr)) inputs X,
          );
      moves-words = λ program schedule q e x f lt m bytes.
          (for-ever.of-alike program schedule m.schedule bytes q.program q.schedule m.pair.schedule q.hypercycle e
          (Listed.accepts-here program schedule q e x f lt m) (Listed.settle-here program schedule q e x f lt m)).alike-words;
      moves-few = λ program schedule q e.
          let p = q.program in
          let l = (legal program p (pair-passed program schedule q e).parses).1 in
          unfold all_entries entries_of in
          (let all = few-joined 240 (count p) (entries_of program schedule q) (λ x lt.
          let one = few-joined 1 (signal_at p x).period (λ f. entry_if (may_take program schedule q x f) x f)
          (λ f lf. one_entry (may_take program schedule q x f) x f) in
          omega (arith, one, (signal-period l x lt).1)) in
          omega (arith, all, l.few_signals));
    }
