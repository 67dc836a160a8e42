-- What a call that writes a list of bytes has to write, and whether it fits.
use Rattle.std.specs.Prelude.{Result, Ok, Err, ℕ, ◌≤◌, List, [], ◌≡◌, length}
use Rattle.model.specs.Rules.Outcome.{Outcome, accepted, refused}
use Rattle.model.specs.declared.Fault.{Fault}

-- The length of what is written, or the refusal; so many bytes before the end.
abbrev pub length_answer : Outcome (List ℕ) → Result ℕ Fault
length_answer (accepted written) = Ok (length written)
length_answer (refused f) = Err f

abbrev pub ended_answer : ℕ → Outcome (List ℕ) → Result ℕ Fault
ended_answer total (accepted written) = Ok total
ended_answer total (refused f) = Err f

-- What is written, and that it fits a buffer.
abbrev pub bytes_written : Outcome (List ℕ) → List ℕ
bytes_written (accepted written) = written
bytes_written (refused f) = []

pub record FitsIn (o : Outcome (List ℕ)) (buffer : List ℕ) : Type 0 where
  pub written : List ℕ
  pub done : o ≡ accepted written
  pub fits : length written ≤ length buffer
