-- `text_program::read_links` meets its contract. Assumes nothing.
use Rattle.text_program.specs.Results.{links_of}
use Prim.Native.Nat.{ℕ, suc, ◌+◌, ◌-◌, ◌≤◌, ◌<◌}
use mathlib.Core.List.{List, [], ◌∷◌, ◌++◌}
use mathlib.Core.Path.{◌≡◌, sym, ap, ◌∙◌}
use lib.ListN.{length, length-append}
use native.Mathlib.Omega.{arith}
use Rattle.model.specs.Rules.Program.{Link, parse_links}
use Rattle.text_program.proofs.Parts.{
  link_at,
  link-missing,
  link-there,
  links_end,
  links-past,
  links-many,
  links-cut,
  links-more,
}
use borrow.Enum.Refused.{opened}
use Rattle.text_program.proofs.read_links.Goals as goal
use Rattle.text_program.proofs.read_links.Goals.{At-loop-next, Else-count-ge16, In-Link}

none : (n : ℕ) → 16 ≤ n → 16 - n ≡ 0
none n h = omega arith

some : (n : ℕ) → n < 16 → 16 - n ≡ suc (16 - (n + 1))
some n h = omega arith

pub returns-then-text-next-ne19 : goal.returns-then-text-next-ne19
unfolding links_of
returns-then-text-next-ne19 c =
    let l = c.loop-next in
    sym (ap links_of (l.invariant.3 ∙ links_end _ _ l.next l.invariant.0 c.if-text-next-ne19.true) ∙ rw l.invariant.1)

-- a LINK, after the test of its byte
module _ (c : Else-count-ge16) where
  abbrev loop : At-loop-next
  loop = (goal.at.Else-count-ge16 c).At-loop-next

  abbrev text : List ℕ
  text = loop.args.text.now

  abbrev read : List Link
  read = loop.loop-next.invariant.0

  more : parse_links 16 text loop.args.at [] ≡
      parse_links (suc (16 - (loop.loop-next.count + 1))) text loop.loop-next.next read
  more =
      loop.loop-next.invariant.3 ∙
      ap (λ m. parse_links m text loop.loop-next.next read) (some loop.loop-next.count (omega arith))

pub returns-then-count-ge16 : goal.returns-then-count-ge16
unfolding links_of
returns-then-count-ge16 c =
    let l = c.loop-next in
    let text = c.args.text.now in
    c.refuse.ensures ∙ sym (ap links_of
    (l.invariant.3 ∙ ap (λ m. parse_links m text l.next l.invariant.0) (none l.count (omega arith)) ∙
    links-many text l.next l.invariant.0 c.if-text-next-ne19.false))

pub returns-in_default : goal.returns-in_default
unfolding links_of
returns-in_default c =
    let b = (goal.at.returns-in_default c).Else-count-ge16 in
    c.refuse-in_default.ensures ∙
    sym (ap links_of
    (more b ∙
    links-cut _ (text b) (loop b).loop-next.next (read b) b.if-text-next-ne19.false
    (link-missing (text b) (loop b).loop-next.next c.link_at-link.ensures (opened c.in_default.in_default-own.keys2))))

-- a LINK that is there
there : (c : In-Link) →
    (loop (goal.at.In-Link c).Else-count-ge16).loop-next.next + 2 ≤ length (text (goal.at.In-Link c).Else-count-ge16)
there c = link-there _ _ c.link_at-link.ensures c.in-Link.is

pub loop-next-preserved : goal.loop-next-preserved
loop-next-preserved c =
    let b = (goal.at.loop-next-preserved c).Else-count-ge16 in
    let l = (loop b).loop-next in (
      l.invariant.0 ++ (link_at (text b) l.next ∷ []),
      length-append l.invariant.0 _ ∙ ap (◌+ 1) l.invariant.1,
      omega arith,
      more b ∙
          rw c.in_program-next.ensures
          (links-more _ (text b) l.next (read b) b.if-text-next-ne19.false (there (goal.at.loop-next-preserved c).In-Link)),
    )

pub returns : goal.returns
unfolding links_of
returns c =
    let l = c.loop-next in
    sym (ap links_of (l.invariant.3 ∙ links-past _ _ l.next l.invariant.0 c.loop-next-test.false) ∙ rw l.invariant.1)
