-- The answer of a call as one number, for a C caller.
use Rattle.std.specs.Prelude.{Option, Some, None, ℕ, ◌+◌, ◌*◌, ◌%◌, List, ◌≡◌}
use Rattle.model.specs.Rules.Machine.{Effect, stated_length}
use Rattle.model.specs.Rules.Outcome.{Outcome, accepted, refused}
use Rattle.model.specs.declared.Sizes.{Sizes}

-- What the call yields; or the refusal's number × 2^32 + its place, which is always below 2^32 (`compile-codable` and its
-- like in crate `promises`).
abbrev pub code_number : Outcome ℕ → ℕ
code_number (accepted n) = n
code_number (refused f) = f.number * 4294967296 + f.place % 4294967296

-- A call does what a definition says, its answer told as one number.
abbrev pub Tells : {A : Type 0} → Effect ℕ A → ℕ → List A → Type 0
Tells e number left = (number ≡ code_number e.answer) × (left ≡ e.left)

-- The part that a refusal names, or what was there before.
abbrev pub part_number : ℕ → Option ℕ → ℕ
part_number old (Some k) = k
part_number old None = old

-- Of what a report answers: L, and L + 4N and the stack use, or what was there before.
abbrev pub length_in : Outcome Sizes → Outcome ℕ
length_in (accepted x) = accepted x.length
length_in (refused f) = refused f

abbrev pub written_in : ℕ → Outcome Sizes → ℕ
written_in old (accepted x) = x.written
written_in old (refused f) = old

abbrev pub stack_in : ℕ → Outcome Sizes → ℕ
stack_in old (accepted x) = x.stack
stack_in old (refused f) = old

-- Of what the tail's reader answers: where the tail starts, at L, or what was there before.
abbrev pub start_in : ℕ → List ℕ → Outcome (List ℕ) → ℕ
start_in old lent (accepted tail) = stated_length lent
start_in old lent (refused f) = old
