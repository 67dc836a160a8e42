-- The image that is judged for what is lent, and the tail after it.
use Rattle.std.specs.Prelude.{ℕ, true, List, ◌≡◌, Result, Ok, Err}
use Rattle.std.proofs.Common.{Bor}
use Rattle.model.specs.declared.Fault.{Fault}
use Rattle.model.specs.Rules.Outcome.{Outcome, accepted, refused}
use Rattle.model.specs.Rules.Machine.{well_formed, image_part, lent_ok}

-- It is well formed exactly if what is lent is accepted, and is then its first L bytes.
pub record Lends (lent image : List ℕ) : Type 0 where
  pub judged : lent_ok lent ≡ well_formed image
  pub part : well_formed image ≡ true → image ≡ image_part lent

-- The tail that an answer bears, or its refusal.
abbrev pub tail_of : Result (Bor (List ℕ)) Fault → Outcome (List ℕ)
tail_of (Ok tail) = accepted tail.now
tail_of (Err f) = refused f
