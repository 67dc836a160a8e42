-- `trial_script::check_script` meets its contract. Assumes nothing.
use Rattle.std.proofs.lemmas.Result.{err_from_is_err_and}
use Rattle.trial_script.proofs.Walk.{check-long, check-cut, check-rest}
use Rattle.trial_script.specs.Script.{ruled_of}
use mathlib.Core.Path.{sym, ap, ◌∙◌}
use Rattle.trial_script.proofs.check_script.Goals as goal

pub returns-then-text-gt2048 : goal.returns-then-text-gt2048
returns-then-text-gt2048 c = ap ruled_of c.refuse.ensures ∙ sym (check-long _ _ c.if-text-gt2048.true)

pub returns-in_err-read_script : goal.returns-in_err-read_script
returns-in_err-read_script c =
    let p = err_from_is_err_and c.from_residual.result c.from_residual.ensures.1 in
    rw (p.1, p.2) (sym (check-cut _ _ c.if-text-gt2048.false (sym c.in_err-read_script.ensures)))

pub returns : goal.returns
returns c = c.check_sets.ensures ∙ sym (check-rest _ _ c.if-text-gt2048.false (sym c.in_ok-read_script.ensures))
