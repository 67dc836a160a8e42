-- `join_texts::all_lent` meets its contract. Assumes nothing.
use Prim.Native.Nat.{ℕ, ◌≤◌, ◌<◌}
use mathlib.Core.Bool.{true}
use mathlib.Core.Path.{◌≡◌}
use Rattle.model.specs.Rules.Join.{parts_in, texts_at, are_lent}
use Rattle.join_texts.proofs.all_lent.Given as goal

-- The texts of the first k parts do.
abbrev pub invariant-loop-k : goal.invariant-loop-k
invariant-loop-k l =
    (l.parts ≡ parts_in l.numbers) × (l.k ≤ l.parts) × ((j : ℕ) → j < l.k → are_lent l.texts (texts_at l.numbers j) ≡ true)
