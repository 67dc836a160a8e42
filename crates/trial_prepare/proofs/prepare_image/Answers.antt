-- `trial_prepare::prepare_image` meets its contract. Assumes nothing.
use Prim.Native.Nat.{ℕ}
use mathlib.Core.Bool.{Bool}
use mathlib.Core.Path.{◌≡◌, refl, sym, ap, fun_ext, ◌∙◌}
use Rattle.std.proofs.lemmas.Result.{err_from_is_err_and}
use Rattle.model.specs.Rules.Outcome.{accepted}
use Rattle.model.specs.Rules.Script.{check_of}
use Rattle.trial_script.specs.Inputs.{fetches}
use Rattle.trial_script.specs.Script.{ruled_of}
use Rattle.trial_prepare.specs.Prepares.{PreparesOn}
use Rattle.trial_prepare.proofs.Begins.{checked-short}
use Rattle.trial_prepare.proofs.prepare_image.Goals as goal
use Rattle.trial_prepare.proofs.prepare_image.Goals.{After-check_script, In_ok-check_script}

-- the check, told by the image
judged-is : (k : After-check_script) → let a = k.args in
    ruled_of k.check_script.result ≡ check_of (fetches a.image.now) a.text.now
judged-is k =
    let a = k.args in
    k.check_script.ensures ∙ ap (λ (f : ℕ → Bool). check_of f a.text.now) (fun_ext k.mark_inputs-inputs.ensures)

pub returns-in_err-check_script : goal.returns-in_err-check_script
unfolding PreparesOn
returns-in_err-check_script c =
    let p = err_from_is_err_and c.from_residual.result c.from_residual.ensures.1 in
    let k = (goal.at.returns-in_err-check_script c).After-check_script in
    rw (p.1, p.2) (sym (judged-is k) ∙ ap ruled_of c.in_err-check_script.was)

-- the script is fine
fine : (e : In_ok-check_script) → check_of (fetches e.args.image.now) e.args.text.now ≡ accepted tt
fine e = sym (judged-is (goal.at.In_ok-check_script e).After-check_script) ∙ ap ruled_of e.in_ok-check_script.was

pub returns : goal.returns
unfolding PreparesOn
returns c =
    record {
      checked = fine (goal.at.returns c).In_ok-check_script;
      lines-is = c.count_cycles-lines.ensures.0;
      few = c.count_cycles-lines.ensures.1;
      samples-are = refl;
      state-is = c.reset.ensures.1;
    }

pub count_cycles-lines-requires : goal.count_cycles-lines-requires
count_cycles-lines-requires c = checked-short _ _ (fine c)
