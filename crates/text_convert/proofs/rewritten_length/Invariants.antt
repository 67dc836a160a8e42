-- `text_convert::rewritten_length` meets its contract. Assumes nothing.
use Prim.Native.Nat.{◌-◌, ◌+◌, ◌≤◌}
use mathlib.Core.Path.{◌≡◌}
use lib.ListN.{length}
use Rattle.model.specs.Rules.Rewrite.{rewrite_from, rewrite}
use Rattle.text_convert.proofs.rewritten_length.Given as goal

abbrev pub invariant-loop-turn : goal.invariant-loop-turn
invariant-loop-turn l =
    (l.at ≤ length l.text) × (l.total ≤ l.at) ×
    (l.total + length (rewrite_from (length l.text - l.turn) l.text l.at) ≡ length (rewrite l.text))
