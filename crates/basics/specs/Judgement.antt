-- The judgement of a check, from the outcome of its definition.
use Rattle.std.specs.Prelude.{Result, Ok, Err, ◌≡◌}
use Rattle.model.specs.Rules.Outcome.{Outcome, accepted, refused}
use Rattle.model.specs.declared.Fault.{Fault}

unfoldable pub judgement_of : Outcome (Unit {0}) → Result (Unit {0}) Fault
judgement_of (accepted a) = Ok tt
judgement_of (refused f) = Err f

-- The answer is the definition's refusal, or a value that Q relates to the definition's.
unfoldable pub Answers : {A B : Type 0} → (A → B → Type 0) → Outcome A → Result B Fault → Type 0
Answers {B = B} Q (accepted a) r = (b : B) × (r ≡ Ok b) × Q a b
Answers Q (refused f) r = r ≡ Err f
