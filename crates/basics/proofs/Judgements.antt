-- What a judgement tells of the outcome that it is of. Assumes nothing.
use Rattle.std.specs.Prelude.{Result, Ok, Err, IsErrAnd}
use Rattle.std.proofs.lemmas.Result.{err_from_is_err_and}
use Prim.Native.Nat.{ℕ}
use mathlib.Core.Path.{◌≡◌, refl, ap, subst, ◌∙◌}
use native.Mathlib.Omega.{arith}
use Rattle.model.specs.Rules.Outcome.{Outcome, accepted, refused, ◌▷◌}
use Rattle.model.specs.declared.Fault.{Fault}
use Rattle.model.proofs.Basics.Outcomes.{accepted-then, refused-then}
use Rattle.basics.specs.Judgement.{judgement_of, Answers}

pub judgement-fine : (o : Outcome (Unit {0})) (j : Result (Unit {0}) Fault) → j ≡ judgement_of o → j ≡ Ok tt → o ≡ accepted tt
unfolding judgement_of
judgement-fine (accepted tt) j h e = refl
judgement-fine (refused f) j h e = let z : ◌≡◌ {A = ℕ} 0 1 = cc in absurd (omega arith)

pub judgement-refused : (o : Outcome (Unit {0})) (j : Result (Unit {0}) Fault) (f : Fault) → j ≡ judgement_of o → j ≡ Err f →
    o ≡ refused f
unfolding judgement_of
judgement-refused (accepted a) j f h e = let z : ◌≡◌ {A = ℕ} 0 1 = cc in absurd (omega arith)
judgement-refused (refused g) j f h e = let same : g ≡ f = cc in ap refused same

-- The refusal that a `?` hands on.
pub handed-on : {B : Type 0} {f : Fault} (r : Result B Fault) → IsErrAnd r (λ g. g ≡ f) → r ≡ Err f
handed-on r h = let p = err_from_is_err_and r h in p.1 ∙ ap Err p.2

ok≢err : {B : Type 0} (r : Result B Fault) (b : B) (f : Fault) → r ≡ Ok b → r ≡ Err f → ⊥
ok≢err r b f p q = let z : ◌≡◌ {A = ℕ} 0 1 = cc in omega arith

module _ {A B : Type 0} (Q : A → B → Type 0) where
  pub answers-ok : (o : Outcome A) (r : Result B Fault) (b : B) → Answers Q o r → r ≡ Ok b → (a : A) × (o ≡ accepted a) × Q a b
  unfolding Answers
  answers-ok (accepted a) r b h e = let same : h.0 ≡ b = cc h.1 in (a, refl, subst (Q a) same h.2)
  answers-ok (refused f) r b h e = absurd (ok≢err r b f e h)

  pub answers-refused : (o : Outcome A) (r : Result B Fault) (f : Fault) → Answers Q o r → r ≡ Err f → o ≡ refused f
  unfolding Answers
  answers-refused (accepted a) r f h e = absurd (ok≢err r h.0 f h.1 e)
  answers-refused (refused g) r f h e = let same : g ≡ f = cc in ap refused same

  -- A chain of steps: one that is passed, one that is refused, and the last.
  module _ {C : Type 0} (o : Outcome C) (r : Result B Fault) where
    pub answers-then : (next : C → Outcome A) (c : C) → o ≡ accepted c → Answers Q (next c) r → Answers Q (o ▷ next) r
    answers-then next c e h = rw (accepted-then o next c e) h

    pub answers-stop : (next : C → Outcome A) (f : Fault) → o ≡ refused f → r ≡ Err f → Answers Q (o ▷ next) r
    unfolding Answers
    answers-stop next f e h = rw (refused-then o next f e) h

  pub answers-gives : (o : Outcome A) (r : Result B Fault) (f : Fault) → o ≡ refused f → r ≡ Err f → Answers Q o r
  unfolding Answers
  answers-gives o r f e h = rw e h

  pub answers-accepted : (o : Outcome A) (r : Result B Fault) (a : A) (b : B) → o ≡ accepted a → r ≡ Ok b → Q a b → Answers Q o r
  unfolding Answers
  answers-accepted o r a b e h q = rw e (b, h, q)
