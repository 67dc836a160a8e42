-- `check_latency::check_latency` meets its contract. Assumes nothing.
use Rattle.std.specs.Prelude.{Result, Ok}
use Prim.Native.Nat.{ℕ}
use mathlib.Core.List.{List, [], ◌∷◌}
use mathlib.Core.Path.{◌≡◌, refl, ap}
use native.Mathlib.Omega.{arith}
use lib.ListN.{length}
use Rattle.model.specs.Rules.Latency.{timely}
use Rattle.model.specs.Rules.Outcome.{accepted, lowest}
use Rattle.model.specs.Rules.Program.{Program, Chain}
use Rattle.model.specs.Rules.Reads.{met}
use Rattle.model.specs.Rules.Schedule.{Schedule}
use Rattle.model.specs.Rules.Search.{join_from}
use Rattle.basics.specs.Judgement.{judgement_of}
use Rattle.model.specs.declared.Fault.{Fault}
use Rattle.model.proofs.Pairs.Hypercycle.{hypercycle-least}
use Rattle.model.proofs.Pairs.Verdict.{steps-accepted}
use Rattle.model.proofs.Texts.Legal.{stands}
use Rattle.text_schedule.specs.Arranged.{Arranged}
use Rattle.text_schedule.specs.declared.PairTables.{PairTables}
use Rattle.text_schedule.proofs.Arranged.{ordered}
use Rattle.check_latency.specs.Timely.{Timed}
use Rattle.check_latency.proofs.check_latency.Goals as goal

-- Reads that are met leave a pair whose latencies can be judged.
timed : (text reads : List ℕ) (t : PairTables) (p : Program) (s : Schedule) → Arranged text reads t p s →
    met p s ≡ accepted tt → Timed text reads t.tables t.tables.periods t.slots.phases t.hypercycle p s
timed text reads t p s g m =
    let h = (hypercycle-least p t.hypercycle).0 g.hyper in
    record {
      joined =
          record {
            known =
                record {
                  stands = g.stands;
                  periods-are = g.stands.tables-are.periods;
                  phases-are = g.slots-are.phases-are;
                };
            rated = g.rated;
            links = g.links;
          };
      accepted = steps-accepted p s (stands _ p g.stands.declares).1 g.rated (ordered g) m;
      multiple = h.multiple;
      hyper = h.bound;
    }

-- A program without chains keeps every latency.
unchained : (p : Program) (s : Schedule) (h n : ℕ) → length p.chains ≡ n → n ≡ 0 →
    (Ok tt) ≡ judgement_of (timely p s h)
unfolding timely join_from lowest judgement_of
unchained p s h n e z = go p.chains refl
  where
    go : (cs : List Chain) → p.chains ≡ cs → (Ok tt) ≡ judgement_of (timely p s h)
    go [] q = rw q refl
    go (c ∷ cs) q = absurd (omega (arith, e, z, ap length q))

pub returns-then-pair-eq0 : goal.returns-then-pair-eq0
returns-then-pair-eq0 c p s g m = unchained p s _ _ g.stands.tables-are.counts.chains-are c.if-pair-eq0.true

pub judge_chains-requires : goal.judge_chains-requires
judge_chains-requires c =
    let c8 = c in
    let q = c8.requires in
    (q.0, q.1, timed _ _ _ _ _ q.2 q.3)

pub returns : goal.returns
returns c p s g m = c.judge_chains.ensures p s (timed _ _ _ p s g m)
