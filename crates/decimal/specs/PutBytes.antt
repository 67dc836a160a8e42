-- What writing bytes to a lent buffer leaves.
use Rattle.std.specs.Prelude.{ℕ, ◌+◌, ◌≤◌, List, ◌≡◌, length}
use Rattle.std.proofs.lemmas.List.Edits.{sets}

-- The bytes stand in a buffer from `at` on, up to `end`; all else is as before.
pub record PutBytes (old : List ℕ) (at : ℕ) (bytes new : List ℕ) (end : ℕ) : Type 0 where
  pub holds : new ≡ sets old at bytes
  pub ends : end ≡ at + length bytes
  pub fits : end ≤ length new
