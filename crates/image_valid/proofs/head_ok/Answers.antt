-- `image_valid::head_ok` meets its contract. Assumes nothing.
use mathlib.Core.Path.{sym, ◌∙◌}
use borrow.Author.Tests.{le-leb, lt-leb, eq-eqb, ne_eqb}
use Rattle.model.specs.Rules.Machine.{head_ok}
use Rattle.image_valid.proofs.head_ok.Goals as goal

pub returns-then-image-lt4 : goal.returns-then-image-lt4
unfolding head_ok
returns-then-image-lt4 c = rw (lt-leb 4 _ c.if-image-lt4.true)

pub returns-then-stated_length-image : goal.returns-then-stated_length-image
unfolding head_ok
returns-then-stated_length-image c = let o = c in
    rw (le-leb 4 _ o.if-image-lt4.false, ne_eqb _ _ (λ e. c.if-stated_length-image.true (o.stated_length.ensures ∙ e)))

pub returns-then-h-lt1 : goal.returns-then-h-lt1
unfolding head_ok
returns-then-h-lt1 c =
    let w2 = c in
    let w1 = c in
    let e2 = c in
    let o = c in
    rw (
      le-leb 4 _ o.if-image-lt4.false,
      eq-eqb _ _ (sym o.stated_length.ensures ∙ e2.if-stated_length-image.false),
      ← w1.from_byte-h.ensures.0,
      lt-leb 1 _ c.if-h-lt1.true,
    )

pub returns-then-h-gt240 : goal.returns-then-h-gt240
unfolding head_ok
returns-then-h-gt240 c =
    let w2 = c in
    let w1 = c in
    let e2 = c in
    let o = c in
    rw (
      le-leb 4 _ o.if-image-lt4.false,
      eq-eqb _ _ (sym o.stated_length.ensures ∙ e2.if-stated_length-image.false),
      ← w1.from_byte-h.ensures.0,
      le-leb 1 _ c.if-h-lt1.false,
      lt-leb _ 240 c.if-h-gt240.true,
    )

pub returns-then-n-gt64 : goal.returns-then-n-gt64
unfolding head_ok
returns-then-n-gt64 c =
    let w2 = c in
    let w1 = c in
    let e2 = c in
    let o = c in
    rw (
      le-leb 4 _ o.if-image-lt4.false,
      eq-eqb _ _ (sym o.stated_length.ensures ∙ e2.if-stated_length-image.false),
      ← w1.from_byte-h.ensures.0,
      ← w2.from_byte-n.ensures.0,
      le-leb 1 _ c.if-h-lt1.false,
      le-leb _ 240 c.if-h-gt240.false,
      lt-leb _ 64 c.if-n-gt64.true,
    )

pub returns : goal.returns
unfolding head_ok
returns c =
    let w2 = c in
    let w1 = c in
    let e2 = c in
    let o = c in
    rw (
      le-leb 4 _ o.if-image-lt4.false,
      eq-eqb _ _ (sym o.stated_length.ensures ∙ e2.if-stated_length-image.false),
      ← w1.from_byte-h.ensures.0,
      ← w2.from_byte-n.ensures.0,
      le-leb 1 _ c.if-h-lt1.false,
      le-leb _ 240 c.if-h-gt240.false,
      le-leb _ 64 c.if-n-gt64.false,
      ← c.lists_at.ensures,
    )
