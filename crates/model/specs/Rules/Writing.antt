-- What a writer of a part leaves.
use Rattle.std.specs.Prelude.{ℕ, ◌+◌, List, ◌≡◌, length}
use Rattle.std.proofs.lemmas.List.Edits.{sets}

-- l' is l with the bytes from `to` up to `end`.
pub record Wrote (l : List ℕ) (to : ℕ) (bytes : List ℕ) (l' : List ℕ) (end : ℕ) : Type 0 where
  pub holds : l' ≡ sets l to bytes
  pub ends : end ≡ to + length bytes
