-- `image_valid::image_length` meets its contract. Assumes nothing.
use mathlib.Core.List.{List}
use Prim.Native.Nat.{ℕ}
use native.Mathlib.Omega.{arith}
use Rattle.model.specs.Rules.Word.{two_at}
use Rattle.image_valid.proofs.Lent.{lends-short, lends-all, lends_first, lends-neither}
use Rattle.image_valid.proofs.image_length.Goals as goal
use Rattle.image_valid.proofs.image_length.Goals.{After-from_byte-n}

abbrev lent : After-from_byte-n → List ℕ
lent w = w.args.lent.now

pub returns-then-lent-length : goal.returns-then-lent-length
returns-then-lent-length c =
    let w = (goal.at.returns-then-lent-length c).After-from_byte-n in
    let o = c in
    (omega (arith, c.if-lent-length.true), lends-all (lent w) _ _ o.stated_length-length.ensures w.from_byte-n.ensures.0 c.if-lent-length.true)

pub overflow_add-length : goal.overflow_add-length
unfolding two_at
overflow_add-length c =
    let w = c in
    omega (arith, w.stated_length-length.ensures, w.from_byte-n.ensures.1, (w.shared_slice_known-2-1.given 2).fits, (w.shared_slice_known-2-1.given 3).fits)

pub returns-then-lent-length-2 : goal.returns-then-lent-length-2
returns-then-lent-length-2 c =
    let w = (goal.at.returns-then-lent-length-2 c).After-from_byte-n in
    let o = c in
    (omega (arith, c.if-lent-length-2.true), lends_first (lent w) _ _ o.stated_length-length.ensures w.from_byte-n.ensures.0 c.if-lent-length-2.true)

pub returns : goal.returns
returns c =
    let w = (goal.at.returns c).After-from_byte-n in
    let o = c in
    let neither = lends-neither (lent w) _ _ o.stated_length-length.ensures w.from_byte-n.ensures.0 in
    (omega arith, neither c.if-lent-length.false c.if-lent-length-2.false)

pub returns-then-lent-lt4 : goal.returns-then-lent-lt4
returns-then-lent-lt4 c = (omega arith, lends-short _ c.if-lent-lt4.true)
