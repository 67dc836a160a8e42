-- `text_schedule::judge_put` meets its contract. Assumes nothing.
use mathlib.Core.Path.{sym, ap, subst, ◌∙◌}
use borrow.Author.Rules.{rules}
use lib.ListN.{get_or}
use Rattle.text_schedule.specs.Slots.{PutJudged}
use Rattle.text_schedule.proofs.Puts.{put-undeclared, put-twice, put-late, put-good}
use Rattle.text_schedule.proofs.judge_put.Goals as goal

pub returns-then-signals-x : goal.returns-then-signals-x
returns-then-signals-x c t e = subst (PutJudged t _ _ _) (sym c.refuse.ensures) (put-undeclared t _ _ _ c.if-signals-x.true)

pub returns-then-ranks-x-ne64 : goal.returns-then-ranks-x-ne64
returns-then-ranks-x-ne64 c t e =
    let i = c in
    subst (PutJudged t _ _ _) (sym c.refuse-then-ranks-x-ne64.ensures)
    (put-twice t _ _ _ i.if-signals-x.false i.requires
    (λ z. c.if-ranks-x-ne64.true (ap (λ l. get_or l i.args.signal 0) (sym e) ∙ z)))

pub returns-then-periods-x : goal.returns-then-periods-x
returns-then-periods-x c t e =
    let r = c in
    let i = c in
    subst (PutJudged t _ _ _) (sym c.refuse-then-periods-x.ensures)
    (put-late t _ _ _ i.if-signals-x.false i.requires (ap (λ l. get_or l i.args.signal 0) e ∙ r.if-ranks-x-ne64.false)
    c.if-periods-x.true)

pub returns : goal.returns
returns c t e =
    let r = c in
    let i = c in
    put-good t _ _ _ i.if-signals-x.false i.requires (ap (λ l. get_or l i.args.signal 0) e ∙ r.if-ranks-x-ne64.false)
    c.if-periods-x.false
