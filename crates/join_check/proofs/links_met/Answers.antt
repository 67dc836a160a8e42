-- `join_check::links_met` meets its contract. Assumes nothing.
use Rattle.std.specs.Prelude.{Result, Ok, Err}
use Prim.Native.Nat.{ℕ, suc, ◌+◌, ◌*◌, ◌/◌, ◌≤◌, ◌<◌}
use mathlib.Core.Bool.{Bool, true, false, cond}
use mathlib.Core.List.{List, [], ◌∷◌}
use mathlib.Core.Path.{◌≡◌, refl, sym, ap, ◌∙◌}
use native.Mathlib.Decide.{dec_lt}
use native.Mathlib.Omega.{arith}
use lib.ListN.{length, get_or}
use Rattle.model.specs.Rules.Join.{link_at, links_in, links_of, links_met}
use Rattle.model.specs.Rules.Outcome.{fault, lowest}
use Rattle.model.specs.Rules.Parts.{Part, PartLink, wire_of, wire_read, joined_pair}
use Rattle.model.specs.Rules.Reads.{is_met}
use Rattle.model.specs.Says.Feasible.{All}
use Rattle.model.specs.declared.Fault.{Fault}
use Rattle.model.proofs.Basics.Outcomes.{table-length, table_at}
use Rattle.basics.specs.Judgement.{judgement_of}
use Rattle.text_program.proofs.InTurn.{check-starts, check-passes, check-refuses, check-ends, single-at}
use Rattle.model.proofs.Joining.Lent.{link-in, link-out}
use Rattle.join_check.specs.Met.{Linking, link_met_by}
use Rattle.join_check.proofs.Numbered.{link-inside, equal-periods, met-is, links-turn}
use Rattle.join_check.proofs.links_met.Invariants.{link_fault}
use Rattle.join_check.proofs.links_met.Goals as goal
use Rattle.join_check.proofs.links_met.Goals.{In-loop-i}

pub loop-i-init : goal.loop-i-init
unfolding links_met
loop-i-init c = λ parts k. check-starts _ _ _ _ 0 (links_in c.args.links.now) (links-turn c.args.links.now) refl

-- The link at which the loop is.
some : (c : In-loop-i) → 4 * c.loop-i.i < length c.args.links.now
some c = omega (arith, c.loop-i-test.true)

pub link_met-requires : goal.link_met-requires
link_met-requires c = link-inside c.requires.1 c.loop-i.i _ refl (some (goal.at.link_met-requires c).In-loop-i)

faults-there : (parts : List Part) (ls : List PartLink) (l : PartLink) →
    All (λ (f : Fault). f.place ≡ l.place) (link_fault parts ls l)
faults-there parts ls l =
    go (is_met (joined_pair parts ls).program (joined_pair parts ls).schedule (wire_of parts l).input (wire_read (wire_of parts l)))
  where
    go : (b : Bool) → All (λ (f : Fault). f.place ≡ l.place) (cond b [] (fault 14 l.place ∷ []))
    go true = tt
    go false = (refl, tt)

-- The judgement of one link.
module _ (parts : List Part) (links bases periods phases ranks : List ℕ)
    (k : Linking parts links bases periods phases ranks) (i at : ℕ) (e : at ≡ 4 * i) (lt : at < length links) where
  below : i < links_in links
  below = link-in links i (omega (arith, e))

  pub below-list : i < length (links_of links)
  below-list = omega (arith, below, table-length (links_in links) (link_at links))

  link-is : get_or (links_of links) i (link_at links 0) ≡ link_at links i
  link-is = table_at (links_in links) (link_at links) i (link_at links 0) below

  pub judged : (b : Bool) (r : Result (Unit {0}) Fault) → link_met_by links at bases periods phases ranks ≡ b →
      r ≡ cond b (Ok tt) (Err (fault 14 i)) →
      r ≡ judgement_of (lowest (link_fault parts (links_of links) (get_or (links_of links) i (link_at links 0))))
  unfolding judgement_of lowest
  judged b r m q =
      q ∙ go b ∙
      sym (ap (λ (l : PartLink). judgement_of (lowest (link_fault parts (links_of links) l))) link-is ∙
      ap (λ (t : Bool). judgement_of (lowest (cond t [] (fault 14 i ∷ [])))) (met-is k i at e lt (links_of links) ∙ m))
    where
      go : (t : Bool) → cond t (Ok tt) (Err (fault 14 i)) ≡ judgement_of (lowest (cond t [] (fault 14 i ∷ [])))
      go true = refl
      go false = refl

pub returns-then-not-link_met : goal.returns-then-not-link_met
returns-then-not-link_met c =
    let i = c.loop-i.i in
    let links = c.args.links.now in
    let lt = some (goal.at.returns-then-not-link_met c).In-loop-i in
    λ parts k.
    let met = sym (c.link_met.ensures (equal-periods k i _ refl lt)) ∙ c.if-not-link_met.true in
    check-refuses _ _ _ _ i (link_at links 0) (below-list parts links _ _ _ _ k i _ refl lt) (c.loop-i.invariant parts k) _
    (judged parts links _ _ _ _ k i _ refl lt false _ met c.refuse.ensures)
    (single-at (λ (m : PartLink). m.place) (link_fault parts (links_of links)) (faults-there parts (links_of links)))
    _ c.refuse.ensures

pub loop-i-preserved : goal.loop-i-preserved
loop-i-preserved c =
    let i = c.loop-i.i in
    let links = c.args.links.now in
    let lt = some (goal.at.loop-i-preserved c).In-loop-i in
    let next : suc i ≡ i + 1 = omega arith in
    λ parts k.
    let met = sym (c.link_met.ensures (equal-periods k i _ refl lt)) ∙ c.if-not-link_met.false in
    rw (sym next)
    (check-passes _ _ _ _ i (link_at links 0) (below-list parts links _ _ _ _ k i _ refl lt) (c.loop-i.invariant parts k)
    (Ok tt) (judged parts links _ _ _ _ k i _ refl lt true (Ok tt) met refl) refl)

-- No link is cut.
all-whole : {parts : List Part} {links bases periods phases ranks : List ℕ} → Linking parts links bases periods phases ranks →
    (i : ℕ) → length links / 4 ≤ i → length links ≤ 4 * i
all-whole {links = links} k i le = go (dec_lt (4 * (length links / 4)) (length links))
  where
    go : Dec (4 * (length links / 4) < length links) → length links ≤ 4 * i
    go (yes lt) = absurd (omega (arith, (link-inside k (length links / 4) _ refl lt).whole))
    go (no ge) = omega arith

pub returns : goal.returns
returns c =
    let i = c.loop-i.i in
    let links = c.args.links.now in
    λ parts k.
    check-ends _ _ _ _ i
    (omega (arith, table-length (links_in links) (link_at links), link-out links i (all-whole k i c.loop-i-test.false)))
    (c.loop-i.invariant parts k)
