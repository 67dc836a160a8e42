-- `move_rule::narrow_by_chain` meets its contract. Assumes nothing.
use Prim.Native.Nat.{◌+◌, ◌-◌}
use mathlib.Core.Path.{sym, ap, ◌∙◌}
use native.Mathlib.Omega.{arith}
use lib.ListN.{get_or}
use borrow.Author.Rules.{rules}
use Rattle.move_rule.proofs.Narrowings.{unnarrowed, narrowed-both, narrowed_at}
use Rattle.move_rule.proofs.Limits.{same-stays, apart-stays}
use Rattle.move_rule.proofs.narrow_by_chain.Goals as goal

pub returns-then-last-first : goal.returns-then-last-first
returns-then-last-first c =
    let a = c in
    let same = sym c.from_byte-last.ensures.0 ∙ c.if-last-first.true ∙ c.from_byte-first.ensures.0 in
    λ p s h ch t k.
    unnarrowed a.requires.1 (λ x f lt below.
    same-stays p s h ch a.args.leeway k a.requires.0.kept t.last_byte t.source_byte same x f (omega (
      arith,
      t.short x
          lt,
    )))

-- What is below the bound to spare is none of what is left.
pub overflow_sub-earlier : goal.overflow_sub-earlier
overflow_sub-earlier c = omega (arith, ((c.greater-reach.ensures c.greater-reach.result).0 (omega arith)).1)

pub returns : goal.returns
returns c =
    let n = c in
    let e = c in
    let w2 = c in
    let a = c in
    let g = c in
    let r = a.args.leeway in
    let phases = a.args.phases.now in
    let last-same = w2.from_byte-last.ensures.0 in
    let first-same = w2.from_byte-first.ensures.0 in
    λ p s h ch t k.
    let at_last = n.from_byte.ensures.0 ∙ ap (λ x. get_or phases x 0) last-same ∙ t.last-is in
    let at_first = g.from_byte-2.ensures.0 ∙ ap (λ x. get_or phases x 0) first-same ∙ t.source_is in
    narrowed-both (narrowed_at n.narrow.ensures) (narrowed_at c.narrow-2.ensures) (λ x f lt below.
    let stays = apart-stays p s h ch r k a.requires.0.kept t.last_byte t.source_byte
    (λ z. e.if-last-first.false (last-same ∙ z ∙ sym first-same)) x f (omega (arith, t.short x lt)) in
    let most = g.greater-reach.ensures (r.bound - r.least + f) in (
      λ h. stays.0 (
        λ z. omega (arith, a.requires.0.kept, at_last, (h.0 (z ∙ sym last-same)).1),
        λ z. omega (arith, a.requires.0.kept, at_first, (most.0 (omega (arith, (h.1 (z ∙ sym first-same)).0))).0),
      ),
      λ h.
          let v = stays.1 h in (
            λ z. (omega arith, omega (arith, a.requires.0.kept, at_last, v.0 (z ∙ last-same))),
            λ z. (
              omega (arith, most.1 (omega (arith, a.requires.0.kept, at_first, v.1 (z ∙ first-same)), omega arith)),
              omega (arith, t.short x lt),
            ),
          ),
    ))
