-- `join_texts::is_short` meets its contract. Assumes nothing.
use Prim.Native.Nat.{ℕ, ◌+◌, ◌≤◌}
use mathlib.Core.List.{List}
use mathlib.Core.Path.{◌≡◌}
use Rattle.model.specs.Rules.Join.{parts_in, texts_at}
use Rattle.model.specs.Rules.Search.{sum, table}
use Rattle.join_texts.proofs.is_short.Given as goal

abbrev pub size : List ℕ → ℕ → ℕ
size numbers k = (texts_at numbers k).program_length

-- What is left of 8,192 after the first k programs.
abbrev pub invariant-loop-k : goal.invariant-loop-k
invariant-loop-k l =
    (l.parts ≡ parts_in l.numbers) × (l.k ≤ l.parts) × (l.left + sum (table l.k (size l.numbers)) ≡ 8192)
