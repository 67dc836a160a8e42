-- `move_rule::narrow_by_chains` meets its contract. Assumes nothing.
use Prim.Native.Nat.{ℕ, ◌-◌, ◌≤◌, ◌<◌}
use mathlib.Core.Path.{◌≡◌}
use native.Mathlib.Omega.{arith}
use lib.ListN.{length}
use Rattle.model.specs.Rules.Latency.{timely}
use Rattle.model.specs.Rules.Outcome.{accepted}
use Rattle.model.specs.Rules.Program.{Program, count}
use Rattle.model.specs.Rules.Schedule.{Schedule}
use Rattle.model.proofs.Texts.Legal.{stands, signal-period}
use Rattle.text_program.proofs.ByIndex.{few-chains}
use Rattle.text_program.specs.Tables.{chain_at}
use Rattle.check_latency.specs.Timely.{Timed, LeewayOf}
use Rattle.move_rule.specs.Ranges.{ChainStays}
use Rattle.move_rule.specs.Narrowing.{Long, Narrowed, Slack, LinksPhased}
use Rattle.move_rule.proofs.Narrowings.{narrowed_none, narrowed-next, narrowed-as}
use Rattle.move_rule.proofs.Limits.{Links, leeway-links}
use Rattle.move_rule.proofs.narrow_by_chains.Goals as goal
use Rattle.move_rule.proofs.narrow_by_chains.Goals.{After-leeway_of-leeway, Start}

pub loop-chain-init : goal.loop-chain-init
loop-chain-init c =
    let a = c in
    (omega arith, a.requires.0, λ p s t e. narrowed_none (λ j x f. ChainStays p s a.args.h x f (chain_at p j)) a.requires.0)

pub leeway_of-leeway-requires : goal.leeway_of-leeway-requires
leeway_of-leeway-requires c =
    let a = c in
    ((a.requires.1.0, a.requires.1.1, a.requires.1.2), c.loop-chain-test.true)

-- The leeway of the chain.
module _ (l : After-leeway_of-leeway) where
  abbrev start : Start
  start = (goal.at.After-leeway_of-leeway l).Start

  abbrev chain : ℕ
  chain = l.loop-chain.chain

  module _ (p : Program) (s : Schedule)
      (t : Timed start.args.text.now start.args.reads.now start.args.tables start.args.periods.now
      start.args.phases.now start.args.h p s) where
    leeway : LeewayOf p s start.args.h (chain_at p chain) l.leeway_of-leeway.result
    leeway = l.leeway_of-leeway.ensures p s t

    module _ (e : timely p s start.args.h ≡ accepted tt) where
      links : Links p l.leeway_of-leeway.result
      links = leeway-links t e chain l.loop-chain-test.true l.leeway_of-leeway.result leeway

      few : count p ≤ 64
      few = (stands _ p t.joined.known.stands.declares).1.few_signals

      slack : Slack l.leeway_of-leeway.result
      slack =
          record {
            last-small = omega (arith, links.last-is, few);
            source-small = omega (arith, links.source_is, few);
            bound-small = leeway.small;
            kept = links.kept;
          }

      placed : LinksPhased p s start.args.phases.now l.leeway_of-leeway.result
      placed =
          record {
            last-is = t.joined.known.phases-are _ links.last-is;
            source_is = t.joined.known.phases-are _ links.source_is;
            last_byte = omega (
              arith,
              t.accepted.ordered.phases _ links.last-is,
              (signal-period (stands _ p t.joined.known.stands.declares).1 _ links.last-is).1,
            );
            source_byte = omega (
              arith,
              t.accepted.ordered.phases _ links.source_is,
              (signal-period (stands _ p t.joined.known.stands.declares).1 _ links.source_is).1,
            );
            short = λ x lt. (signal-period (stands _ p t.joined.known.stands.declares).1 x lt).1;
          }

pub narrow_by_chain-requires : goal.narrow_by_chain-requires
narrow_by_chain-requires c =
    let l = (goal.at.narrow_by_chain-requires c).After-leeway_of-leeway in
    let a = c in
    (slack l a.requires.1.0 a.requires.1.1 a.requires.1.2 a.requires.1.3, l.loop-chain.invariant.1)

pub loop-chain-preserved : goal.loop-chain-preserved
loop-chain-preserved c =
    let l = (goal.at.loop-chain-preserved c).After-leeway_of-leeway in
    let a = c in
    let k = a.requires.1 in (
      omega (arith, l.loop-chain-test.true),
      (c.narrow_by_chain.ensures k.0 k.1 a.args.h (chain_at k.0 (chain l)) (placed l k.0 k.1 k.2 k.3)
          (leeway l k.0 k.1 k.2)).long,
      λ p s t e.
          narrowed-next (λ j x f. ChainStays p s a.args.h x f (chain_at p j)) (chain l) _ (omega arith)
          (l.loop-chain.invariant.2 p s t e)
          (c.narrow_by_chain.ensures p s a.args.h (chain_at p (chain l)) (placed l p s t e) (leeway l p s t)),
    )

pub returns : goal.returns
returns c =
    let l = c.loop-chain in (
      l.invariant.1,
      λ p s t e.
          let n : length p.chains ≡ l.chain =
          omega (arith, t.joined.known.stands.tables-are.counts.chains-are, c.loop-chain-test.false, l.invariant.0) in
          narrowed-as (l.invariant.2 p s t e)
          (λ x f lt below. (λ h j lj. h j (omega (arith, n)), λ h j lj. h j (omega (arith, n)))),
    )
