-- `image_valid::entries_ok` meets its contract. Assumes nothing.
use mathlib.Core.Path.{◌≡◌, sym, ◌∙◌}
use Prim.Native.Nat.{◌≤◌}
use native.Mathlib.Omega.{arith}
use Rattle.model.specs.Rules.Image.{lists_at}
use Rattle.model.specs.Rules.Machine.{hyper_of, count_of}
use Rattle.image_valid.proofs.Parts.{Lists, head, lists, room, entries_by, entries_none}
use Rattle.image_valid.proofs.entries_ok.Goals as goal
use Rattle.image_valid.proofs.entries_ok.Goals.{After-lists_at-start, Start}

abbrev start : After-lists_at-start → Start
start a = (goal.at.After-lists_at-start a).Start

listed : (s : Start) → Lists s.args.image.now
listed s = lists _ s.requires.1

-- where the lists start
begins : (a : After-lists_at-start) → let image = a.args.image.now in
    a.lists_at-start.result ≡ lists_at (count_of image) (hyper_of image)
begins a =
    let w = a in
    let s = a in
    rw (a.lists_at-start.ensures, w.from_byte-count.ensures.0, s.requires.2, s.requires.3)

holds : (a : After-lists_at-start) → a.lists_at-start.result ≤ (start a).args.end
holds a = omega (arith, begins a, (start a).requires.4, room _ (listed (goal.at.After-lists_at-start a).Start))

pub lists_at-start-requires : goal.lists_at-start-requires
lists_at-start-requires c =
    let s = c in
    let h = head _ s.requires.0 in
    (omega (arith, c.from_byte-count.ensures.0, s.requires.2, h.signals), omega (arith, s.requires.3, h.hyper))

pub returns-then-n-eq0 : goal.returns-then-n-eq0
returns-then-n-eq0 c =
    let a = (goal.at.returns-then-n-eq0 c).After-lists_at-start in
    let s = (goal.at.returns-then-n-eq0 c).Start in
    let none : count_of s.args.image.now ≡ 0 = sym s.requires.2 ∙ c.if-n-eq0.true in
    rw (begins a, s.requires.4) (entries_none _ (listed s) none)

pub returns : goal.returns
returns c =
    let e = c in
    let a = (goal.at.returns c).After-lists_at-start in
    let s = (goal.at.returns c).Start in
    sym (c.greatest_byte.ensures s.args.n (omega (arith, e.if-n-eq0.false)))
    ∙ entries_by _ (listed s) _ _ _ s.requires.2 (begins a) s.requires.4

pub slice_bounds-greatest_byte-count : goal.slice_bounds-greatest_byte-count
slice_bounds-greatest_byte-count c = holds (goal.at.slice_bounds-greatest_byte-count c).After-lists_at-start

pub slice_bounds-greatest_byte-end : goal.slice_bounds-greatest_byte-end
slice_bounds-greatest_byte-end c = let s = (goal.at.slice_bounds-greatest_byte-end c).Start in rw s.requires.4 (listed s).end

pub slice_bounds-greatest_byte-start : goal.slice_bounds-greatest_byte-start
slice_bounds-greatest_byte-start c = holds (goal.at.slice_bounds-greatest_byte-start c).After-lists_at-start
