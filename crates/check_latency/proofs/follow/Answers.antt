-- `check_latency::follow` meets its contract. Assumes nothing.
use Prim.Native.Nat.{◌+◌, ◌≤◌, ◌<◌}
use mathlib.Core.Path.{refl, ap, ◌∙◌}
use native.Mathlib.Omega.{arith}
use lib.ListN.{length}
use borrow.Author.Rules.{rules}
use Rattle.model.specs.Rules.Latency.{backwards}
use Rattle.model.specs.Rules.Program.{Program}
use Rattle.model.specs.Rules.Schedule.{Schedule}
use Rattle.text_program.specs.Tables.{chain_at}
use Rattle.text_program.proofs.ByIndex.{few-chains}
use Rattle.read_rule.specs.Reads.{rate_in}
use Rattle.check_latency.specs.Timely.{ChainsLinked}
use Rattle.check_latency.proofs.Following.{Following, next-link, route-of, Begun, begun, chain-command}
use Rattle.check_latency.proofs.Indices.{rate-at}
use Rattle.check_latency.proofs.follow.Goals as goal
use Rattle.check_latency.proofs.follow.Goals.{After-in_program, In-loop-more, Start}

-- the first link lies within the text
module _ (c : After-in_program) where
  abbrev start : Start
  start = (goal.at.After-in_program c).Start

  begins : Begun start.args.text.now start.args.tables start.requires.0.0 start.requires.0.1 start.args.chain
  begins = begun _ _ _ _ _ _ _ _ start.requires.0.2 start.requires.1

-- and so do the two at hand
next : (c : In-loop-more) →
    let c5 = (goal.at.In-loop-more c).After-in_program in
    (c.loop-more.at + 4 ≤ length (start c5).args.text.now) × (c.loop-more.count < 15)
next c =
    let c5 = (goal.at.In-loop-more c).After-in_program in
    let s = c in
    let n = next-link _ _ _ _ _ _ _ _ _ _ (c.loop-more.invariant s.requires.0.0 s.requires.0.1 s.requires.0.2)
    c.loop-more-test.true in
    (n.inside, n.room)

pub bounds-text-at : goal.bounds-text-at
bounds-text-at c =
    let c2 = (goal.at.bounds-text-at c).After-in_program in
    omega (arith, (begins c2).inside, c2.from_entry-start.ensures.0)

pub loop-more-init : goal.loop-more-init
loop-more-init c =
    let c3 = (goal.at.loop-more-init c).After-in_program in
    λ p s j.
    rw (c3.in_program.ensures, c3.from_entry-start.ensures.0, c.from_byte-links.ensures.0)
    ((begun _ _ _ _ _ p s _ j (start c3).requires.1).start _ refl)

pub offset_bounds-hops-count : goal.offset_bounds-hops-count
offset_bounds-hops-count c = omega (arith, (next (goal.at.offset_bounds-hops-count c).In-loop-more).1)

pub overflow_add-count : goal.overflow_add-count
overflow_add-count c = omega (arith, (next (goal.at.overflow_add-count c).In-loop-more).1)

pub loop-more-preserved : goal.loop-more-preserved
loop-more-preserved c =
    let b = c in
    let two = c.in_program-in-loop-more.ensures in
    λ p s j.
    let n = next-link _ _ _ _ _ _ _ _ _ _ (b.loop-more.invariant p s j) b.loop-more-test.true in
    rw two (n.on _ ((rw two at c.hop_at-hop.ensures) p s j.known n.read n.reader n.once))

pub returns : goal.returns
returns c =
    let z = c in
    let l = c in
    let entered = c in
    λ p s j. (
      (rw entered.from_entry-start.ensures.0 at c.limit_at.ensures) _ _
          (chain-command _ _ _ _ _ p s _ j.known (start (goal.at.returns l).After-in_program).requires.1),
      route-of _ _ _ _ _ _ _ _ _ _ _ _ _ (λ lt. ap rate_in z.timing_at.ensures ∙ rate-at j.known _ lt)
          (λ lt. ap rate_in z.timing_at-2.ensures ∙ rate-at j.known _ lt) (l.loop-more.invariant p s j)
          (omega (arith, l.loop-more-test.false)),
    )

pub offset_bounds-starts-chain : goal.offset_bounds-starts-chain
offset_bounds-starts-chain c = omega (arith, c.requires.1, few-chains c.requires.0.2.known.stands)

pub bounds-starts-chain : goal.bounds-starts-chain
bounds-starts-chain c = omega (arith, c.requires.1, few-chains c.requires.0.2.known.stands)

pub overflow_add-at : goal.overflow_add-at
overflow_add-at c = omega (arith, (begins c).inside, c.from_entry-start.ensures.0)

pub bounds-lengths-chain : goal.bounds-lengths-chain
bounds-lengths-chain c = omega (arith, c.requires.1, few-chains c.requires.0.2.known.stands)

pub overflow_add-source : goal.overflow_add-source
overflow_add-source c =
    omega (arith, (begins (goal.at.overflow_add-source c).After-in_program).inside, c.from_entry-start.ensures.0)

pub overflow_add-second : goal.overflow_add-second
overflow_add-second c = omega (arith, (next (goal.at.overflow_add-second c).In-loop-more).0)

pub overflow_add-signal : goal.overflow_add-signal
overflow_add-signal c = omega (arith, (next (goal.at.overflow_add-signal c).In-loop-more).0)

pub bounds-text-second : goal.bounds-text-second
bounds-text-second c = omega (arith, (next (goal.at.bounds-text-second c).In-loop-more).0)

pub bounds-hops-count : goal.bounds-hops-count
bounds-hops-count c = (next (goal.at.bounds-hops-count c).In-loop-more).1
