-- `check_latency::keeps_time` meets its contract. Assumes nothing.
use mathlib.Core.Path.{◌∙◌}
use borrow.Author.Rules.{rules}
use Rattle.latency_rule.specs.Back.{timely_in}
use Rattle.check_latency.proofs.Decided.{decided}
use Rattle.check_latency.proofs.keeps_time.Goals as goal

pub is_timely-requires : goal.is_timely-requires
is_timely-requires c =
    let k = c in
    let a = c in
    let t = a.requires.0.2 in
    (decided _ _ _ _ _ _ _ _ _ _ t a.requires.1 (k.follow-followed.ensures _ _ t.joined).1).passable

pub returns : goal.returns
returns c =
    let k = c in
    let a = c in
    λ p s t.
    let o = k.follow-followed.ensures p s t.joined in
    c.is_timely.ensures ∙
    (λ j. timely_in (o.0 j).mode (o.0 j).bound k.follow-followed.result.route a.args.h) ∙
    (decided _ _ _ _ _ _ p s _ _ t a.requires.1 o.1).same _
