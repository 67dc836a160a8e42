-- The joined checks accept exactly under their conditions, and what they accept runs as the equations say. Assumes nothing.
use Prim.Native.Nat.{ℕ, ◌+◌, ◌≤◌, ◌<◌}
use mathlib.Core.Bool.{Bool, true, cond, ◌&&◌, and-eq-true_iff, false≢true}
use mathlib.Core.List.{List, [], ◌∷◌, map}
use mathlib.Core.Logic.{◌↔◌}
use mathlib.Core.Path.{◌≡◌, refl, sym, ap, subst, ◌∙◌}
use native.Mathlib.Omega.{arith}
use borrow.Author.Tests.{leb-true, le-leb}
use lib.Dec.{leb}
use lib.ListN.{length, get_or}
use Rattle.model.specs.Says.Feasible.{All, Met, Multiple}
use Rattle.model.specs.Rules.Compile.{Pair}
use Rattle.theorems_pairs.specs.Conditions.{◌among◌}
use Rattle.model.specs.Rules.Join.{links_met, joined_verdict}
use Rattle.model.specs.Rules.Parts.{Part, joined_parts, base, part_at, PartLink, wire_of, wire_read, joined_pair}
use Rattle.theorems_joins.specs.Join.{FeasiblePart, LinkNames, LinkMet, FewJoined, JoinedLegal, LinkFault, JoinedRefused}
use Rattle.model.specs.Rules.Load.{loaded}
use Rattle.model.specs.Rules.Outcome.{accepted, refused, fault, provided, lowest}
use Rattle.model.specs.Rules.Program.{Program, count, signal_at}
use Rattle.model.specs.Rules.Rates.{hypercycle}
use Rattle.model.specs.Rules.Reads.{Rate, rank, is_met}
use Rattle.theorems_pairs.specs.Refusals.{LowestFault}
use Rattle.model.specs.Rules.Schedule.{Schedule, phase_of}
use Rattle.model.specs.Rules.Search.{join_from}
use Rattle.model.specs.declared.Fault.{Fault}
use Rattle.model.proofs.Basics.All.{all-at, all_map, all_both, all-joined}
use Rattle.model.proofs.Pairs.Decide.{met-true, true-met}
use Rattle.theorems_pairs.proofs.Faults.{among-at, at-among, all_among, among-cond, cond-among, among-join, join-among}
use Rattle.theorems_joins.proofs.Timely.{pair-embeds}
use Rattle.model.proofs.Joining.Numbers.{wired-count}
use Rattle.theorems_joins.proofs.Parts.{Embeds, met-kept, parts-feasible, wired-embeds, link-met-exactly}
use Rattle.theorems_pairs.proofs.Judged.{
  Judged,
  Answers,
  answers-then,
  answers-accepted,
  answers-refused,
  Only,
  provided-judged,
  lowest-judged,
  hypercycle-judged,
}
use Rattle.theorems_pairs.proofs.JudgedRuns.{loaded-judged}
use Rattle.model.proofs.Basics.Outcomes.{not-true-false, accepted-then, refused-then, lowest-none, cond-none}

abbrev no_link : PartLink
no_link = record { place = 0; input_part = 0; input = 0; signal_part = 0; signal = 0 }

module _ (parts : List Part) (ok : All FeasiblePart parts) (links : List PartLink) (names : All (LinkNames parts) links) where
  abbrev p : Program
  p = (joined_pair parts links).program

  abbrev s : Schedule
  s = (joined_pair parts links).schedule

  -- The joined pair has the rates and the order of the joined parts.
  links-embed : Embeds (joined_parts parts).program (joined_parts parts).schedule p s (λ x. x)
  unfolding joined_pair
  links-embed = wired-embeds (map (wire_of parts) links) (joined_parts parts).program (joined_parts parts).schedule

  links-back : Embeds p s (joined_parts parts).program (joined_parts parts).schedule (λ x. x)
  unfolding joined_pair
  links-back =
      let ls = map (wire_of parts) links in
      let q = (joined_parts parts).program in
      record {
        below = λ x lt. omega (arith, wired-count ls q);
        rates = λ x lt.
            let l : x < count q = omega (arith, wired-count ls q) in
            sym ((wired-embeds ls q (joined_parts parts).schedule).rates x l);
        orders = λ w r lw lr h. h;
      }

  phase-below : (k x : ℕ) → k < length parts → x < count (part_at parts k).program →
      phase_of s (base parts k + x) < (signal_at p (base parts k + x)).period
  phase-below k x lk lx =
      subst (λ (a : Rate). a.phase < a.period) (sym ((pair-embeds parts ok links names k lk).rates x lx))
      ((all-at FeasiblePart parts _ ok k lk).feasible.ordered.phases x lx)

  is-put : (x : ℕ) → x < count p → rank s.order x < length s.order
  unfolding joined_pair
  is-put x lt =
      (parts-feasible parts ok).feasible.ordered.put x
      (omega (arith, wired-count (map (wire_of parts) links) (joined_parts parts).program))

  abbrev test : PartLink → Bool
  test l = is_met p s (wire_of parts l).input (wire_read (wire_of parts l))

  -- The test of a link read.
  link-tested : (l : PartLink) → LinkNames parts l → (test l ≡ true) ↔ LinkMet parts l
  link-tested l n = (
    (λ e. exactly.0
        (met-kept p s (joined_parts parts).program (joined_parts parts).schedule (λ x. x) links-back (wire_of parts l).input
        reader (wire_read (wire_of parts l))
        (met-true p s (wire_of parts l).input (wire_read (wire_of parts l)) writer (is-put _ writer) (is-put _ reader) (omega arith)
        periods e))),
    (λ m. true-met p s (wire_of parts l).input (wire_read (wire_of parts l))
        (phase-below l.signal_part l.signal n.signal_part n.signal)
        (phase-below l.input_part l.input n.input_part n.input)
        (met-kept (joined_parts parts).program (joined_parts parts).schedule p s (λ x. x) links-embed (wire_of parts l).input
        (links-back.below _ reader) (wire_read (wire_of parts l)) (exactly.1 m))),
  )
    where
      exactly :
          Met (joined_parts parts).program (joined_parts parts).schedule (wire_of parts l).input (wire_read (wire_of parts l)) ↔
          LinkMet parts l
      exactly = link-met-exactly parts ok l n

      reader : (wire_of parts l).input < count p
      reader = (pair-embeds parts ok links names l.input_part n.input_part).below l.input n.input

      writer : (wire_of parts l).signal < count p
      writer = (pair-embeds parts ok links names l.signal_part n.signal_part).below l.signal n.signal

      periods : (signal_at p (wire_of parts l).input).period ≡ (signal_at p (wire_of parts l).signal).period
      periods =
          ap (λ (a : Rate). a.period)
          ((pair-embeds parts ok links names l.input_part n.input_part).rates l.input n.input) ∙
          n.periods ∙
          sym (ap (λ (a : Rate). a.period)
          ((pair-embeds parts ok links names l.signal_part n.signal_part).rates l.signal n.signal))

  -- The faults that are collected.
  unmet_of : ℕ → PartLink → List Fault
  unmet_of i l = cond (test l) [] (fault 14 l.place ∷ [])

  links-sound : (f : Fault) → f among join_from 0 unmet_of links → LinkFault parts links f
  unfolding unmet_of
  links-sound f m =
      let a = among-join unmet_of 0 links no_link f m in
      let l = get_or links a.0 no_link in
      let i = at-among links no_link a.0 a.1 in
      let g = among-cond (test l) f (fault 14 l.place) a.2 in
      let n = all-at (LinkNames parts) links no_link names a.0 a.1 in
      rw g.1 (LinkFault.unmet l i (λ k. false≢true (sym g.0 ∙ (link-tested l n).1 k)))

  links-complete : (f : Fault) → LinkFault parts links f → f among join_from 0 unmet_of links
  unfolding unmet_of
  links-complete f (LinkFault.unmet l i u) =
      let a = among-at l links no_link i in
      let t = not-true-false (test l) (λ e. u ((link-tested l (all_among (LinkNames parts) links names l i)).0 e)) in
      join-among unmet_of 0 links no_link (fault 14 l.place) a.0 a.1
      (rw a.2 (cond-among (test l) (fault 14 l.place) t))

  links-single : (f g : Fault) → LinkFault parts links f → LinkFault parts links g → f.place ≡ g.place → f.number ≡ g.number
  links-single f g (LinkFault.unmet l i u) (LinkFault.unmet k j v) e = refl

  links-none : All (LinkMet parts) links → (f : Fault) → ¬ LinkFault parts links f
  links-none g f (LinkFault.unmet l i u) = u (all_among (LinkMet parts) links g l i)

  links-hold : lowest (join_from 0 unmet_of links) ≡ accepted tt → All (LinkMet parts) links
  unfolding unmet_of
  links-hold e =
      all_map (λ l. LinkNames parts l × (test l ≡ true)) (LinkMet parts) (λ l h. (link-tested l h.0).0 h.1) links
      (all_both (LinkNames parts) (λ l. test l ≡ true) links names
      (all-joined unmet_of (λ l. test l ≡ true) (λ i l t. cond-none _ _ t) 0 links (lowest-none _ e)))

  -- 14.
  links-judged : Judged (λ u. All (LinkMet parts) links) (LowestFault (LinkFault parts links)) (links_met parts links)
  unfolding links_met unmet_of
  links-judged =
      lowest-judged (join_from 0 unmet_of links) (LinkFault parts links) (All (LinkMet parts) links) links-sound links-complete
      links-single links-none links-hold

  -- 4.
  abbrev few_test : Bool
  few_test = leb (count p) 64 && leb (length p.chains) 16

  few-judged : Judged (λ u. FewJoined parts links) (Only 4 0 (¬ FewJoined parts links)) (provided few_test 4 0)
  few-judged =
      provided-judged few_test 4 0 (FewJoined parts links) (¬ FewJoined parts links) (forth, back)
      (λ e c. false≢true (sym e ∙ back c)) (λ h. h)
    where
      forth : few_test ≡ true → FewJoined parts links
      forth e =
          let h = (and-eq-true_iff (leb (count p) 64) (leb (length p.chains) 16)).0 e in
          (leb-true (count p) 64 h.0, leb-true (length p.chains) 16 h.1)

      back : FewJoined parts links → few_test ≡ true
      back c =
          (and-eq-true_iff (leb (count p) 64) (leb (length p.chains) 16)).1
          (le-leb (count p) 64 c.0, le-leb (length p.chains) 16 c.1)

  -- Whatever the joined checks say, its condition holds.
  judged : Answers (JoinedLegal parts links) (JoinedRefused parts links) (joined_verdict parts links)
  unfolding joined_verdict
  judged =
      let Q = JoinedLegal parts links in
      let R = JoinedRefused parts links in
      answers-then Q R (provided few_test 4 0) _ few-judged (λ g f. many f) (λ u few.
      answers-then Q R (hypercycle p) _ (hypercycle-judged p) (λ g f. unbounded few f) (λ h least.
      answers-then Q R (links_met parts links) _ links-judged (λ g f. JoinedRefused.unmet few least f) (λ v met.
      answers-then Q R (loaded p s h) _ (loaded-judged p s h least.multiple)
      (λ g f. JoinedRefused.overloaded few least met f) (λ w loads.
      record { program = refl; schedule = refl; few = few; hypercycle = least; met = met; loads = loads }))))
    where
      many : {g : Fault} → Only 4 0 (¬ FewJoined parts links) g → JoinedRefused parts links g
      many (Only.only h) = JoinedRefused.many h

      unbounded : {g : Fault} → FewJoined parts links → Only 9 0 ((h : ℕ) → h ≤ 240 → ¬ Multiple p h) g →
          JoinedRefused parts links g
      unbounded few (Only.only h) = JoinedRefused.unbounded few h

  legal-back : (q : Pair) → JoinedLegal parts links q → joined_verdict parts links ≡ accepted q
  unfolding joined_verdict
  legal-back q l =
      accepted-then _ _ _ ((few-judged.accepts tt).1 l.few) ∙
      accepted-then _ _ _ (((hypercycle-judged p).accepts q.hypercycle).1 l.hypercycle) ∙
      accepted-then _ _ _ ((links-judged.accepts tt).1 l.met) ∙
      accepted-then _ _ _ (((loaded-judged p s q.hypercycle l.hypercycle.multiple).accepts tt).1 l.loads) ∙
      (λ i. accepted (record { program = sym l.program i; schedule = sym l.schedule i; hypercycle = q.hypercycle }))

  refused-back : {f : Fault} → JoinedRefused parts links f → joined_verdict parts links ≡ refused f
  unfolding joined_verdict
  refused-back (JoinedRefused.many u) = refused-then _ _ _ ((few-judged.refuses (fault 4 0)).1 (Only.only u))
  refused-back (JoinedRefused.unbounded few u) =
      accepted-then _ _ _ ((few-judged.accepts tt).1 few) ∙
      refused-then _ _ _ (((hypercycle-judged p).refuses (fault 9 0)).1 (Only.only u))
  refused-back (JoinedRefused.unmet {h = h} few least f) =
      accepted-then _ _ _ ((few-judged.accepts tt).1 few) ∙
      accepted-then _ _ _ (((hypercycle-judged p).accepts h).1 least) ∙
      refused-then _ _ _ ((links-judged.refuses _).1 f)
  refused-back (JoinedRefused.overloaded {h = h} few least met f) =
      accepted-then _ _ _ ((few-judged.accepts tt).1 few) ∙
      accepted-then _ _ _ (((hypercycle-judged p).accepts h).1 least) ∙
      accepted-then _ _ _ ((links-judged.accepts tt).1 met) ∙
      refused-then _ _ _ (((loaded-judged p s h least.multiple).refuses _).1 f)

  -- The joined checks accept exactly if the joined bounds and H hold, every link read is met and the joined load fits; they
  -- refuse exactly under the condition of each number, in the order stated.
  pub joined-exactly : (q : Pair) → (joined_verdict parts links ≡ accepted q) ↔ JoinedLegal parts links q
  joined-exactly q =
      (answers-accepted (JoinedLegal parts links) (JoinedRefused parts links) (joined_verdict parts links) q judged, legal-back q)

  pub joined-refused-exactly : (f : Fault) → (joined_verdict parts links ≡ refused f) ↔ JoinedRefused parts links f
  joined-refused-exactly f =
      (answers-refused (JoinedLegal parts links) (JoinedRefused parts links) (joined_verdict parts links) f judged, refused-back)

  pub joined-judged : Judged (JoinedLegal parts links) (JoinedRefused parts links) (joined_verdict parts links)
  joined-judged = record { accepts = joined-exactly; refuses = joined-refused-exactly }
