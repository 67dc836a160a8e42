-- `image_valid::lists_ok` meets its contract. Assumes nothing.
use mathlib.Core.Path.{◌≡◌}
use mathlib.Core.Bool.{Bool, true}
use mathlib.Core.List.{List}
use Prim.Native.Nat.{ℕ, ◌+◌, ◌≤◌}
use lib.Dec.{leb}
use Rattle.model.specs.Rules.Machine.{list_offset}
use Rattle.model.specs.Rules.Search.{all_below}
use Rattle.image_valid.proofs.lists_ok.Given as goal

-- list c starts where it ends, or before
abbrev pub rising : List ℕ → ℕ → Bool
rising image c = leb (list_offset image c) (list_offset image (c + 1))

abbrev pub invariant-loop-c : goal.invariant-loop-c
invariant-loop-c l = (all_below l.c (rising l.image) ≡ true) × (l.c ≤ l.h) × (l.last ≡ list_offset l.image l.c)
