-- `check_links::is_linked` meets its contract. Assumes nothing.
use Prim.Native.Nat.{◌+◌, ◌≤◌, ◌<◌}
use mathlib.Core.Path.{sym, ◌∙◌}
use native.Mathlib.Omega.{arith}
use lib.ListN.{length}
use borrow.Author.Rules.{rules}
use Rattle.model.specs.Rules.Program.{Program}
use Rattle.text_program.specs.Tables.{Stands, chain_at}
use Rattle.check_links.proofs.Counting.{found-one, found_none}
use Rattle.text_program.proofs.ByIndex.{few-signals, few-chains, chain-inside, indexes}
use Rattle.check_links.proofs.Linking.{
  LinksLeft,
  link-inside,
  link-broken,
  link_on,
  link-over,
  chain-begins,
}
use Rattle.check_links.proofs.is_linked.Goals as goal
use Rattle.check_links.proofs.is_linked.Goals.{After-from_byte-links, In-loop-more, Start}

abbrev begun : After-from_byte-links → Start
begun c = (goal.at.After-from_byte-links c).Start

-- the two links at hand lie within the text
inside : (c : In-loop-more) →
    c.loop-more.at + 4 ≤ length (begun (goal.at.In-loop-more c).After-from_byte-links).args.text.now
inside c =
    let r = (begun (goal.at.In-loop-more c).After-from_byte-links).requires.0 in
    link-inside _ _ _ _ _ (c.loop-more.invariant r.0 r.1) c.loop-more-test.true

pub overflow_add-at : goal.overflow_add-at
overflow_add-at c =
    let s = c in
    omega (arith, c.from_entry.ensures.0, chain-inside s.requires.0.1 _ s.requires.1)

pub loop-more-init : goal.loop-more-init
loop-more-init c =
    λ p q.
    rw (c.in_program.ensures, c.from_entry.ensures.0, c.from_byte-links.ensures.0)
    (chain-begins q _ (begun c).requires.1)

pub bounds-text-second : goal.bounds-text-second
bounds-text-second c = omega (arith, inside (goal.at.bounds-text-second c).In-loop-more)

pub one_read-read-requires : goal.one_read-read-requires
one_read-read-requires c =
    let c6 = (goal.at.one_read-read-requires c).After-from_byte-links in
    let s = c in
    let k = s.requires.0.1 in
    (few-signals _ _ _ k.declares k.tables-are, (s.requires.0.0, indexes k))

pub returns-in_default : goal.returns-in_default
returns-in_default c =
    let c6 = c in
    let c7 = c in
    let b = c in
    let two = c6.in_program-in-loop-more.ensures in
    λ p q.
    let r = rw two at (c.one_read-read.ensures p (indexes q)) in
    sym (link-broken _ _ _ _ _ (b.loop-more.invariant p q) b.loop-more-test.true
    (found_none _ _ (sym r ∙ c.in_default.is)))

pub loop-more-preserved : goal.loop-more-preserved
loop-more-preserved c =
    let c6 = c in
    let c7 = c in
    let b = c in
    let two = c6.in_program-in-loop-more.ensures in
    λ p q.
    let r = rw two at (c.one_read-read.ensures p (indexes q)) in
    rw two
    (link_on _ _ _ _ _ (b.loop-more.invariant p q) b.loop-more-test.true (found-one _ _ _ (sym r ∙ c.in-Some.is)).0)

pub returns : goal.returns
returns c = λ p q. sym (link-over _ _ _ _ _ (c.loop-more.invariant p q) (omega (arith, c.loop-more-test.false)))

pub offset_bounds-starts-chain : goal.offset_bounds-starts-chain
offset_bounds-starts-chain c = omega (arith, c.requires.1, few-chains c.requires.0.1)

pub bounds-starts-chain : goal.bounds-starts-chain
bounds-starts-chain c = omega (arith, c.requires.1, few-chains c.requires.0.1)

pub bounds-lengths-chain : goal.bounds-lengths-chain
bounds-lengths-chain c = omega (arith, c.requires.1, few-chains c.requires.0.1)

pub overflow_add-second : goal.overflow_add-second
overflow_add-second c = omega (arith, inside (goal.at.overflow_add-second c).In-loop-more)

pub overflow_add-before : goal.overflow_add-before
overflow_add-before c = omega (arith, inside (goal.at.overflow_add-before c).In-loop-more)

pub bounds-text-at : goal.bounds-text-at
bounds-text-at c = omega (arith, inside (goal.at.bounds-text-at c).In-loop-more)

pub overflow_add-signal : goal.overflow_add-signal
overflow_add-signal c = omega (arith, inside (goal.at.overflow_add-signal c).In-loop-more)
