-- `text_program::end_step` meets its contract. Assumes nothing.
use mathlib.Core.Bool.{Bool, true, false, cond}
use mathlib.Core.Path.{◌≡◌, refl, sym, ap, ◌∙◌}
use native.Mathlib.Omega.{arith}
use Prim.Native.Nat.{ℕ}
use Rattle.std.specs.Prelude.{Result, Ok, Err}
use Rattle.std.proofs.lemmas.Result.{err_from_is_err_and}
use Rattle.basics.specs.Judgement.{judgement_of}
use Rattle.model.specs.Rules.Outcome.{fault, provided}
use Rattle.model.specs.declared.Fault.{Fault}
use Rattle.text_program.specs.Results.{end_of}
use Rattle.text_program.specs.declared.Step.{Step}
use Rattle.text_program.proofs.end_step.Goals as goal

-- the step of an END by whether it is the last byte
abbrev ended : Bool → ℕ → Result Step Fault
ended last n = cond last (Ok Step.End) (Err (fault 6 n))

ends : (last : Bool) (n : ℕ) → judgement_of (provided last 6 n) ≡ Ok tt → ended last n ≡ Ok Step.End
unfolding judgement_of provided
ends true n e = refl
ends false n e = let z : ◌≡◌ {A = ℕ} 0 1 = cc in absurd (omega arith)

goes-on : (last : Bool) (n : ℕ) {f : Fault} → judgement_of (provided last 6 n) ≡ Err f → ended last n ≡ Err f
unfolding judgement_of provided
goes-on true n e = let z : ◌≡◌ {A = ℕ} 0 1 = cc in absurd (omega arith)
goes-on false n {f} e = let z : fault 6 n ≡ f = cc e in ap Err z

pub returns-in_err-judge : goal.returns-in_err-judge
unfolding end_of
returns-in_err-judge c =
    let p = err_from_is_err_and c.from_residual.result c.from_residual.ensures.1 in
    rw (p.1, p.2) (sym (goes-on _ _ (rw c.in_program.ensures at (sym c.judge.ensures ∙ c.in_err-judge.was))))

pub returns : goal.returns
unfolding end_of
returns c = sym (ends _ _ (rw c.in_program.ensures at (sym c.judge.ensures ∙ c.in_ok-judge.was)))
