-- `check_latency::leeway_of` meets its contract. Assumes nothing.
use mathlib.Core.Path.{sym, ap, ◌∙◌}
use borrow.Author.Rules.{rules}
use Rattle.latency_rule.specs.Back.{timely_in}
use Rattle.check_latency.proofs.Decided.{decided}
use Rattle.check_latency.proofs.leeway_of.Goals as goal

pub least_bound-requires : goal.least_bound-requires
least_bound-requires c =
    let k = c in
    let a = c in
    let t = a.requires.0.2 in
    (decided _ _ _ _ _ _ _ _ _ _ t a.requires.1 (k.follow-followed.ensures _ _ t.joined).1).passable

pub returns : goal.returns
returns c =
    let k = c in
    let a = c in
    λ p s t.
    let o = k.follow-followed.ensures p s t.joined in
    record {
      links = (o.1.ws, o.1.whole, o.1.ends);
      bound-is = c.from_entry.ensures.0 ∙ ap (λ l. l.bound) o.0;
      small = c.from_entry.ensures.1;
      least-is = λ bound small. sym ((decided _ _ _ _ _ _ p s _ _ t a.requires.1 o.1).same bound) ∙
          sym (λ j. timely_in (o.0 j).mode bound k.follow-followed.result.route a.args.h) ∙
          c.least_bound.ensures bound small;
    }
