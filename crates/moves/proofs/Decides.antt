-- A signal may take a phase exactly if all reads and all chains stay and there is room for it. Assumes nothing.
use Prim.Native.Nat.{ℕ, ◌<◌}
use mathlib.Core.Bool.{true, cond}
use mathlib.Core.List.{List, [], ◌∷◌}
use mathlib.Core.Logic.{◌↔◌}
use mathlib.Core.Path.{◌≡◌, sym, ap, ◌∙◌}
use lib.ListN.{length}
use Rattle.model.specs.Rules.Compile.{Pair, pair_of}
use Rattle.model.specs.Rules.Latency.{backwards, keeps, timely}
use Rattle.model.specs.Rules.Outcome.{accepted, fault}
use Rattle.model.specs.Rules.Program.{Program, Read, count, signal_at, body_reads}
use Rattle.model.specs.Rules.Rates.{is_linked}
use Rattle.model.specs.Rules.Reads.{rate_of, before, settled, met}
use Rattle.model.specs.Rules.Schedule.{Schedule}
use Rattle.model.specs.Says.Feasible.{All, Met, Feasible, Multiple}
use Rattle.model.proofs.Basics.All.{all-at, all_map, all_both}
use Rattle.model.proofs.Basics.Outcomes.{none-lowest, none-join_from}
use Rattle.model.proofs.Pairs.Links.{LinkedBack, linked-backwards, declared-backwards}
use Rattle.model.proofs.Texts.Legal.{legal}
use Rattle.model.proofs.Pairs.Verdict.{
  Passed,
  pair-passed,
  pair-accepted,
  pair-multiple,
  steps-accepted,
  links-declared,
  chains-linked,
}
use Rattle.text_program.specs.Tables.{no_chain, chain_at}
use Rattle.read_rule.specs.Reads.{met_at}
use Rattle.move_rule.proofs.Limits.{timely-each}
use Rattle.model.specs.Rules.Moves.{may_take}
use Rattle.move_rule.specs.Ranges.{rate_after, ReadStays, ReadsStay, ChainsStay, Room}
use Rattle.model.proofs.Pairs.Moves.{Moved, moved-pair, Alike, take-passes}
use Rattle.moves.proofs.MetAgain.{moved-ordered, MetAgain, met-again}
use Rattle.moves.proofs.Loads.{loaded-moved}
use Rattle.moves.proofs.Chains.{phase-after, keeps-moved}

-- Every chain keeps its limit.
module _ (p : Program) (s : Schedule) (h : ℕ) where
  each-timely : ((j : ℕ) → j < length p.chains → keeps p s h (chain_at p j) ≡ true) → timely p s h ≡ accepted tt
  unfolding timely
  each-timely g =
      none-lowest _ (none-join_from _ 0 p.chains no_chain (λ j lt.
      ap (λ b. cond b [] (fault 16 (chain_at p j).place ∷ [])) (g j lt)))

module _ (program schedule : List ℕ) (q : Pair) (e : pair_of program schedule ≡ accepted q) (x f : ℕ)
    (lt : x < count q.program) (below : f < (signal_at q.program x).period) where
  abbrev p : Program
  p = q.program

  abbrev s : Schedule
  s = q.schedule

  abbrev h : ℕ
  h = q.hypercycle

  passed : Passed program schedule q
  passed = pair-passed program schedule q e

  abbrev s' : Schedule
  s' = (moved-pair program schedule q e x f lt below).0

  mv : Moved p s x f s'
  mv = (moved-pair program schedule q e x f lt below).1

  acc : Feasible p s
  acc = pair-accepted program schedule q e

  whole : Multiple p h
  whole = pair-multiple program schedule q e

  rate-after : (y : ℕ) → y < count p → rate_of p s' y ≡ rate_after p s x f y
  rate-after y l = ap (λ k. record { period = (signal_at p y).period; phase = k }) (phase-after p s s' x f mv y l)

  abbrev Again : ℕ → Read → Type 0
  Again r ρ = MetAgain p s s' x f mv r ρ

  same_met : (r : ℕ) (ρ : Read) → r < count p → ρ.operands.signal < count p →
      met_at ρ.kind (rate_of p s' ρ.operands.signal) (rate_of p s' r) (settled p s r ρ) (before s ρ.operands.signal r) ≡
      met_at ρ.kind (rate_after p s x f ρ.operands.signal) (rate_after p s x f r) (settled p s r ρ)
      (before s ρ.operands.signal r)
  same_met r ρ lr lw = λ i. met_at ρ.kind (rate-after ρ.operands.signal lw i) (rate-after r lr i) (settled p s r ρ)
      (before s ρ.operands.signal r)

  reads-stay : ((r : ℕ) → r < count p → All (Again r) (body_reads (signal_at p r).body)) ↔ ReadsStay p s x f
  reads-stay = (
    λ g r l. each r l (Again r) (ReadStays p s x f r) (λ ρ m t. sym (same_met r ρ l m.declared) ∙ t) (g r l),
    λ g r l. each r l (ReadStays p s x f r) (Again r) (λ ρ m t. same_met r ρ l m.declared ∙ t) (g r l),
  )
    where
      each : (r : ℕ) → r < count p → (Q R : Read → Type 0) → ((ρ : Read) → Met p s r ρ → Q ρ → R ρ) →
          All Q (body_reads (signal_at p r).body) → All R (body_reads (signal_at p r).body)
      each r l Q R g k =
          let ρs = body_reads (signal_at p r).body in
          all_map (λ ρ. Met p s r ρ × Q ρ) R (λ ρ m. g ρ m.0 m.1) ρs (all_both (Met p s r) Q ρs (acc.met r l) k)

  declared : (j : ℕ) → j < length p.chains → All (λ w. w < count p) (backwards (chain_at p j))
  declared j l =
      declared-backwards p (chain_at p j)
      (all-at (λ c. All (λ l. l.signal < count p) c.links) p.chains no_chain (links-declared p passed.rated) j l)

  linked-back : (j : ℕ) → j < length p.chains → LinkedBack p (backwards (chain_at p j))
  linked-back j l =
      linked-backwards p (chain_at p j)
      (all-at (λ c. is_linked p c.links ≡ true) p.chains no_chain (chains-linked p passed.links) j l)

  abbrev Stays : Type 0
  Stays = ReadsStay p s x f × ChainsStay p s h x f × Room p s h x f

  again : ((met p s' ≡ accepted tt) × Alike p s s') ↔ ((r : ℕ) → r < count p → All (Again r) (body_reads (signal_at p r).body))
  again = met-again p s s' x f mv program passed.parses acc

  feasible : met p s' ≡ accepted tt → Feasible p s'
  feasible m =
      steps-accepted p s' (legal program p passed.parses).1 passed.rated
      (moved-ordered p s s' x f mv acc.ordered below) m

  -- Whether signal x may take phase f is told by the reads, the chains and the loads.
  pub take-decides : (may_take program schedule q x f ≡ true) ↔ Stays
  take-decides =
      let passes = take-passes program schedule q e x f lt below in (
        λ t.
            let k = passes.0 t in (
              reads-stay.0 (again.0 (k.0, k.3)),
              λ j l.
                  (keeps-moved p s s' x f mv acc (feasible k.0) k.3 h whole (chain_at p j) (declared j l) (linked-back j l)).0
                  (timely-each p s' h k.2 j l),
              (loaded-moved p s s' x f mv lt h passed.loads).0 k.1,
            ),
        λ (rs, cs, room).
            let m = again.1 (reads-stay.1 rs) in
            passes.1 (
              m.0,
              (loaded-moved p s s' x f mv lt h passed.loads).1 room,
              each-timely p s' h (λ j l.
                  (keeps-moved p s s' x f mv acc (feasible m.0) m.1 h whole (chain_at p j) (declared j l)
                  (linked-back j l)).1 (cs j l)),
              m.1,
            ),
      )
