-- `image_valid::lists_ok` meets its contract. Assumes nothing.
use mathlib.Core.Path.{◌≡◌, sym, ap, ◌∙◌}
use mathlib.Core.Bool.{true, false}
use Prim.Native.Nat.{ℕ}
use native.Mathlib.Omega.{arith}
use borrow.Author.Tests.{le-leb, lt-leb, eq-eqb, ne_eqb}
use lib.Dec.{eqb}
use Rattle.model.specs.Rules.Image.{lists_at}
use Rattle.model.specs.Rules.Machine.{hyper_of, count_of, list_offset, table_offset, lists_ok}
use Rattle.model.specs.Rules.Search.{all_below}
use Rattle.model.proofs.Pairs.Decide.{all_none, all_more, all-fails}
use Rattle.image_valid.proofs.Parts.{head}
use Rattle.image_valid.proofs.lists_ok.Invariants.{rising}
use Rattle.image_valid.proofs.lists_ok.Goals as goal
use Rattle.image_valid.proofs.lists_ok.Goals.{After-lists_at, After-loop-c, At-loop-c, Else-last-lists_at, Start}

abbrev start : At-loop-c → Start
start l = (goal.at.At-loop-c l).Start

-- where the lists start
starts : (a : After-lists_at) → let image = a.args.image.now in
    a.lists_at.result ≡ lists_at (count_of image) (hyper_of image)
starts a = let s = a in rw (a.lists_at.ensures, s.requires.1, s.requires.2)

first : (e : Else-last-lists_at) → let image = e.args.image.now in
    eqb (list_offset image 0) (lists_at (count_of image) (hyper_of image)) ≡ true
first e = eq-eqb _ _ (sym e.list_offset-last.ensures ∙ e.if-last-lists_at.false ∙ starts (goal.at.Else-last-lists_at e).After-lists_at)

-- after the loop: the last list ends here
done : (a : After-loop-c) → a.loop-c.c ≡ hyper_of (start (goal.at.After-loop-c a).At-loop-c).args.image.now
done a = omega (arith, (start (goal.at.After-loop-c a).At-loop-c).requires.2)

rose : (a : After-loop-c) → let image = (start (goal.at.After-loop-c a).At-loop-c).args.image.now in
    all_below (hyper_of image) (rising image) ≡ true
rose a = ap (λ (k : ℕ). all_below k (rising (start (goal.at.After-loop-c a).At-loop-c).args.image.now)) (sym (done a)) ∙ a.loop-c.invariant.0

ends : (a : After-loop-c) → let image = (start (goal.at.After-loop-c a).At-loop-c).args.image.now in
    a.loop-c.last ≡ list_offset image (hyper_of image)
ends a = a.loop-c.invariant.2 ∙ ap (list_offset (start (goal.at.After-loop-c a).At-loop-c).args.image.now) (done a)

pub list_offset-last-requires : goal.list_offset-last-requires
list_offset-last-requires c = (c.requires.0, c.requires.1, omega arith)

pub lists_at-requires : goal.lists_at-requires
lists_at-requires c =
    let s = c in
    let h = head _ s.requires.0 in
    (omega (arith, s.requires.1, h.signals), omega (arith, s.requires.2, h.hyper))

pub returns-then-last-lists_at : goal.returns-then-last-lists_at
unfolding lists_ok
returns-then-last-lists_at c =
    let a = (goal.at.returns-then-last-lists_at c).After-lists_at in
    let o = c in
    let s = c in
    rw (ne_eqb (list_offset s.args.image.now 0) _ (λ e. c.if-last-lists_at.true (o.list_offset-last.ensures ∙ e ∙ sym (starts a))))

pub loop-c-init : goal.loop-c-init
loop-c-init c = (all_none _, omega arith, c.list_offset-last.ensures)

pub list_offset-next-requires : goal.list_offset-next-requires
list_offset-next-requires c = let s = c in
    (s.requires.0, s.requires.1, omega (arith, s.requires.2))

pub returns-then-next-last : goal.returns-then-next-last
unfolding lists_ok
returns-then-next-last c =
    let o = c in
    let l = (goal.at.returns-then-next-last c).At-loop-c in
    let i = (goal.at.returns-then-next-last c).Else-last-lists_at in
    let image = (start l).args.image.now in
    let falls : all_below (hyper_of image) (rising image) ≡ false =
    all-fails _ _ l.loop-c.c (omega (arith, o.loop-c-test.true, (start l).requires.2))
    (rw (← l.loop-c.invariant.2, ← o.list_offset-next.ensures) (lt-leb _ _ c.if-next-last.true)) in
    rw (first i, falls)

pub loop-c-preserved : goal.loop-c-preserved
loop-c-preserved c =
    let o = c in
    let l = (goal.at.loop-c-preserved c).At-loop-c in (
      all_more l.loop-c.c (rising (start l).args.image.now) l.loop-c.invariant.0
          (rw (← l.loop-c.invariant.2, ← o.list_offset-next.ensures) (le-leb _ _ c.if-next-last.false)),
      omega arith,
      o.list_offset-next.ensures,
    )

pub returns : goal.returns
unfolding lists_ok table_offset
returns c =
    let l = (goal.at.returns c).At-loop-c in
    let image = (start l).args.image.now in
    rw (first (goal.at.At-loop-c l).Else-last-lists_at, rose c, ← (ends c))
