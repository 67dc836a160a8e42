-- `text_program::too_deep` meets its contract. Assumes nothing.
use mathlib.Core.Path.{sym, ap, ◌∙◌}
use Rattle.text_program.specs.Walks.{deep_of}
use Rattle.basics.proofs.Judgements.{judgement-fine, judgement-refused}
use Rattle.std.proofs.lemmas.Result.{err_from_is_err_and}
use Rattle.text_program.proofs.too_deep.Goals as goal

pub returns : goal.returns
unfolding deep_of
returns c =
    c.refuse.ensures ∙
    sym (ap (deep_of _)
    (judgement-fine _ _ c.operator_here.ensures c.in_ok-operator_here.was))

pub returns-in_err-operator_here : goal.returns-in_err-operator_here
unfolding deep_of
returns-in_err-operator_here c =
    let p = err_from_is_err_and c.from_residual.result c.from_residual.ensures.1 in
    rw (p.1, p.2)
    (sym (ap (deep_of _)
    (judgement-refused _ _ _ c.operator_here.ensures c.in_err-operator_here.was)))
