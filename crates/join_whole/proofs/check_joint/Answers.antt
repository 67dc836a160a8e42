-- `join_whole::check_joint` meets its contract. Assumes nothing.
use Prim.Native.Nat.{ℕ, ◌≤◌, ◌<◌}
use mathlib.Core.Bool.{◌&&◌}
use mathlib.Core.Path.{◌≡◌, refl, sym, ap, ◌∙◌}
use mathlib.Core.List.{List}
use borrow.Author.Tests.{le-leb, lt-leb}
use lib.Dec.{leb}
use lib.ListN.{length}
use Rattle.model.specs.Rules.Join.{links_of, links_met, joined_verdict}
use Rattle.model.specs.Rules.Outcome.{Outcome, accepted, refused, yielded_of, fault, provided}
use Rattle.model.specs.Rules.Parts.{Part, joined_pair}
use Rattle.model.specs.Rules.Program.{count}
use Rattle.model.specs.Rules.Rates.{hypercycle}
use Rattle.model.proofs.Basics.Outcomes.{true-provided, false-provided}
use Rattle.model.proofs.Pairs.Hypercycle.{hypercycle-least}
use Rattle.basics.proofs.Judgements.{
  judgement-fine,
  judgement-refused,
  answers-then,
  answers-stop,
  answers-accepted,
  handed-on,
}
use Rattle.join_gather.specs.declared.Joint.{Joint}
use Rattle.join_whole.specs.Whole.{Joining}
use Rattle.join_whole.proofs.Wired.{
  wired-count,
  wired-chains,
  wired-cap,
  linking,
  wired-periods,
  wired-phases,
  wired-weights,
  phases-below,
}
use Rattle.join_whole.proofs.check_joint.Goals as goal
use Rattle.join_whole.proofs.check_joint.Goals.{Else-joint-gt16, In_ok-hypercycle, In_ok-links_met}

abbrev few : ℕ → ℕ → Outcome (Unit {0})
few n m = provided (leb n 64 && leb m 16) 4 0

few-signals : (n m : ℕ) → 64 < n → few n m ≡ refused (fault 4 0)
few-signals n m lt = false-provided _ 4 0 (rw (lt-leb n 64 lt))

few-chains : (n m : ℕ) → n ≤ 64 → 16 < m → few n m ≡ refused (fault 4 0)
few-chains n m le lt = false-provided _ 4 0 (rw (le-leb n 64 le, lt-leb m 16 lt))

few-both : (n m : ℕ) → n ≤ 64 → m ≤ 16 → few n m ≡ accepted tt
few-both n m le le' = true-provided _ 4 0 (rw (le-leb n 64 le, le-leb m 16 le'))

-- The counts of the joined pair.
counted : {parts : List Part} {size : ℕ} {links : List ℕ} {t : Joint} (j : Joining parts size links t) →
    few (count (joined_pair parts (links_of links)).program) (length (joined_pair parts (links_of links)).program.chains) ≡
    few t.signals t.chains
counted j = rw (wired-count j, wired-chains j)

pub returns-then-joint-gt64 : goal.returns-then-joint-gt64
unfolding joined_verdict
returns-then-joint-gt64 c = λ parts size j.
    answers-stop _ _ _ _ (fault 4 0) (counted j ∙ few-signals _ c.args.joint.now.chains c.if-joint-gt64.true) c.refuse.ensures

pub returns-then-joint-gt16 : goal.returns-then-joint-gt16
unfolding joined_verdict
returns-then-joint-gt16 c = λ parts size j.
    answers-stop _ _ _ _ (fault 4 0) (counted j ∙ few-chains _ _ c.if-joint-gt64.false c.if-joint-gt16.true)
    c.refuse-then-joint-gt16.ensures

-- where there are at most 64 signals and 16 chains
module _ (e : Else-joint-gt16) where
  abbrev links : List ℕ
  links = e.args.links.now

  abbrev Joins : List Part → ℕ → Type 0
  Joins parts size = Joining parts size links e.args.joint.now

  abbrev pair : List Part → Part
  pair parts = joined_pair parts (links_of links)

  small : e.args.joint.now.signals ≤ 64
  small = e.if-joint-gt64.false

  passed : (parts : List Part) (size : ℕ) → Joins parts size →
      few (count (pair parts).program) (length (pair parts).program.chains) ≡ accepted tt
  passed parts size j = counted j ∙ few-both _ _ small e.if-joint-gt16.false

-- the hypercycle, and the links
least : (d : In_ok-hypercycle) (parts : List Part) (size : ℕ) → Joins (goal.at.In_ok-hypercycle d).Else-joint-gt16 parts size →
    hypercycle (pair (goal.at.In_ok-hypercycle d).Else-joint-gt16 parts).program ≡ accepted d.in_ok-hypercycle.hypercycle
least d parts size j =
    let e = (goal.at.In_ok-hypercycle d).Else-joint-gt16 in
    sym (d.check_hypercycle.ensures (pair e parts).program (wired-count j) (wired-periods j (small e))) ∙
    ap yielded_of d.in_ok-hypercycle.was

met : (d : In_ok-links_met) (parts : List Part) (size : ℕ) → Joins (goal.at.In_ok-links_met d).Else-joint-gt16 parts size →
    links_met parts (links_of d.args.links.now) ≡ accepted tt
met d parts size j =
    let e = (goal.at.In_ok-links_met d).Else-joint-gt16 in
    judgement-fine _ _ (d.links_met.ensures parts (linking j (small e))) d.in_ok-links_met.was

pub returns-in_err-hypercycle : goal.returns-in_err-hypercycle
unfolding joined_verdict
returns-in_err-hypercycle c = λ parts size j.
    let e = (goal.at.returns-in_err-hypercycle c).Else-joint-gt16 in
    answers-then _ _ _ _ _ (passed e parts size j)
    (answers-stop _ _ _ _ _
    (sym (c.check_hypercycle.ensures (pair e parts).program (wired-count j) (wired-periods j (small e))) ∙
    ap yielded_of c.in_err-hypercycle.was)
    (handed-on _ c.from_residual.ensures.1))

pub links_met-requires : goal.links_met-requires
links_met-requires c =
    let e = (goal.at.links_met-requires c).Else-joint-gt16 in
    (c.requires.0, linking c.requires.2 (small e))

pub returns-in_err-links_met : goal.returns-in_err-links_met
unfolding joined_verdict
returns-in_err-links_met c = λ parts size j.
    let e = (goal.at.returns-in_err-links_met c).Else-joint-gt16 in
    answers-then _ _ _ _ _ (passed e parts size j)
    (answers-then _ _ _ _ _ (least (goal.at.returns-in_err-links_met c).In_ok-hypercycle parts size j)
    (answers-stop _ _ _ _ _
    (judgement-refused _ _ _ (c.links_met.ensures parts (linking j (small e))) c.in_err-links_met.was)
    (handed-on _ c.from_residual-in_err-links_met.ensures.1)))

pub judge_load-requires : goal.judge_load-requires
judge_load-requires c =
    let d = (goal.at.judge_load-requires c).In_ok-hypercycle in
    let e = (goal.at.judge_load-requires c).Else-joint-gt16 in
    let j = c.requires.2 in
    (small e, ((hypercycle-least _ _).0 (least d c.requires.0 c.requires.1 j)).bound, phases-below j (small e))

pub returns-in_err-judge_load : goal.returns-in_err-judge_load
unfolding joined_verdict
returns-in_err-judge_load c = λ parts size j.
    let e = (goal.at.returns-in_err-judge_load c).Else-joint-gt16 in
    let q = pair e parts in
    answers-then _ _ _ _ _ (passed e parts size j)
    (answers-then _ _ _ _ _ (least (goal.at.returns-in_err-judge_load c).In_ok-hypercycle parts size j)
    (answers-then _ _ _ _ _ (met (goal.at.returns-in_err-judge_load c).In_ok-links_met parts size j)
    (answers-stop _ _ _ _ _
    (judgement-refused _ _ _
    (c.judge_load.ensures q.program q.schedule (wired-count j) (wired-periods j (small e)) (wired-weights j (small e))
    (wired-phases j (small e)) (wired-cap j)) c.in_err-judge_load.was)
    (handed-on _ c.from_residual-in_err-judge_load.ensures.1))))

pub returns : goal.returns
unfolding joined_verdict
returns c = λ parts size j.
    let e = (goal.at.returns c).Else-joint-gt16 in
    let q = pair e parts in
    answers-then _ _ _ _ _ (passed e parts size j)
    (answers-then _ _ _ _ _ (least (goal.at.returns c).In_ok-hypercycle parts size j)
    (answers-then _ _ _ _ _ (met (goal.at.returns c).In_ok-links_met parts size j)
    (answers-then _ _ _ _ _
    (judgement-fine _ _
    (c.judge_load.ensures q.program q.schedule (wired-count j) (wired-periods j (small e)) (wired-weights j (small e))
    (wired-phases j (small e)) (wired-cap j)) c.in_ok-judge_load.was)
    (answers-accepted _ _ _ _ _ refl refl refl))))
