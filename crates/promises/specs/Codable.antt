-- Answers that a C caller can tell apart.
use Rattle.std.specs.Prelude.{ℕ, ◌≤◌, ◌<◌}
use Rattle.model.specs.Rules.Outcome.{Outcome, accepted, refused}

-- An answer that one number tells (`code-tells`): what is yielded is below 2^32; a refusal's number is above 0 and its place
-- below 2^32.
abbrev pub Codable : Outcome ℕ → Type 0
Codable (accepted n) = n < 4294967296
Codable (refused f) = (1 ≤ f.number) × (f.place < 4294967296)
