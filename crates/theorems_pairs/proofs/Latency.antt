-- What an accepted pair says of the latency of its chains. Assumes nothing.
use Prim.Native.Nat.{ℕ, ◌≤◌, ◌<◌}
use mathlib.Core.List.{List, [], ◌∷◌, map, reverse_aux}
use mathlib.Core.Path.{◌≡◌, refl, subst}
use mathlib.Core.Bool.{true, cond}
use native.Mathlib.Omega.{arith}
use lib.ListN.{length}
use Rattle.model.specs.Says.Feasible.{All}
use Rattle.model.specs.Rules.Compile.{Pair, pair_of}
use Rattle.model.specs.Rules.Latency.{reads_back, backwards, keeps, timely}
use Rattle.model.specs.Rules.Outcome.{accepted, fault}
use Rattle.model.specs.Rules.Program.{Program, Link, Chain, count}
use Rattle.model.specs.Rules.Schedule.{Schedule}
use Rattle.model.specs.Rules.Rates.{is_linked}
use Rattle.theorems_pairs.specs.Conditions.{◌among◌, TimelyFrom, KeepsTime}
use Rattle.model.proofs.Texts.Legal.{legal}
use Rattle.model.proofs.Pairs.Links.{LinkedBack, linked-backwards, declared-backwards, chain-met, ChainMet}
use Rattle.model.proofs.Pairs.Verdict.{Passed, pair-passed, pair-accepted, pair-multiple, links-declared, chains-linked}
use Rattle.model.proofs.Basics.All.{all_both, all_map, all-joined}
use Rattle.model.proofs.Basics.Outcomes.{lowest-none, cond-none}
use Rattle.theorems_pairs.proofs.Faults.{all_among}
use Rattle.theorems_pairs.proofs.Window.{bound-positive, keeps-decides}

module _ (p : Program) where
  pub chains-keep : (s : Schedule) (h : ℕ) → timely p s h ≡ accepted tt → All (λ c. keeps p s h c ≡ true) p.chains
  unfolding timely
  chains-keep s h e =
      all-joined (λ j c. cond (keeps p s h c) [] (fault 16 c.place ∷ [])) (λ c. keeps p s h c ≡ true)
      (λ j c t. cond-none _ _ t) 0 p.chains (lowest-none _ e)

-- An accepted pair.
module _ (program schedule : List ℕ) (q : Pair) (e : pair_of program schedule ≡ accepted q) where
  pub pair-timely : All (KeepsTime q.program q.schedule) q.program.chains
  pair-timely =
      let passed = pair-passed program schedule q e in
      let acc = pair-accepted program schedule q e in
      let whole = pair-multiple program schedule q e in
      all_map (λ c. D c × (L c × K c)) (KeepsTime p s) (λ c h.
      (keeps-decides p s acc q.hypercycle whole c h.1.0 h.0).0 h.1.1) p.chains
      (all_both D (λ c. L c × K c) p.chains (links-declared p passed.rated)
      (all_both L K p.chains (chains-linked p passed.links) (chains-keep p s q.hypercycle passed.times)))
    where
      p : Program
      p = q.program

      s : Schedule
      s = q.schedule

      D : Chain → Type 0
      D c = All (λ l. l.signal < count p) c.links

      L : Chain → Type 0
      L c = is_linked p c.links ≡ true

      K : Chain → Type 0
      K c = keeps p s q.hypercycle c ≡ true

-- A chain with a link has a last one.
pub last-link : (ls : List Link) → 1 ≤ length ls → (r : ℕ) × (ws : List ℕ) × (reverse_aux (map (λ l. l.signal) ls) [] ≡ r ∷ ws)
last-link [] le = absurd (omega arith)
last-link (l ∷ ls) le = go ls l.signal []
  where
    go : (ls : List Link) (r : ℕ) (ws : List ℕ) →
        (r' : ℕ) × (ws' : List ℕ) × (reverse_aux (map (λ l. l.signal) ls) (r ∷ ws) ≡ r' ∷ ws')
    go [] r ws = (r, ws, refl)
    go (l ∷ ls) r ws = go ls l.signal (r ∷ ws)

module _ (program schedule : List ℕ) (q : Pair) (e : pair_of program schedule ≡ accepted q) (c : Chain)
    (one : c among q.program.chains) where
  abbrev p : Program
  p = q.program

  abbrev s : Schedule
  s = q.schedule

  passed : Passed program schedule q
  passed = pair-passed program schedule q e

  declared : All (λ w. w < count p) (backwards c)
  declared = declared-backwards p c (all_among _ _ (links-declared p (pair-passed program schedule q e).rated) c one)

  joined : LinkedBack p (backwards c)
  joined = linked-backwards p c (all_among _ _ (chains-linked p (pair-passed program schedule q e).links) c one)

  -- From the last link r back through the links ws every read is met.
  module _ (r : ℕ) (ws : List ℕ) (from : backwards c ≡ r ∷ ws) where
    last-declared : r < count p
    last-declared = (subst (All (λ w. w < count p)) from declared).0

    reads-met : ChainMet p s r (reads_back p r ws)
    reads-met =
        chain-met p s (pair-accepted program schedule q e) ws r (subst (All (λ w. w < count p)) from declared)
        (subst (LinkedBack p) from joined)

    kept-positive : 0 < c.bound
    kept-positive =
        bound-positive p s (pair-accepted program schedule q e) q.hypercycle (pair-multiple program schedule q e) r
        (reads_back p r ws) last-declared reads-met c.mode c.bound
        (subst (TimelyFrom p s c) from (all_among (KeepsTime p s) _ (pair-timely program schedule q e) c one))

  -- No chain keeps a bound of 0, in either mode.
  pub no-zero-bound : 0 < c.bound
  no-zero-bound =
      let lawful = (legal program p (pair-passed program schedule q e).parses).1 in
      let l = last-link c.links (omega (arith, (all_among _ _ lawful.chains c one).several)) in
      kept-positive l.0 l.1 l.2
