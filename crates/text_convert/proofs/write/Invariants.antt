-- `text_convert::write` meets its contract. Assumes nothing.
use Prim.Native.Nat.{◌-◌, ◌≤◌}
use lib.ListN.{length}
use Rattle.model.specs.Rules.Rewrite.{rewrite_from, rewrite}
use Rattle.model.proofs.Basics.Left.{Left}
use Rattle.text_convert.proofs.write.Given as goal

abbrev pub invariant-loop-turn : goal.invariant-loop-turn
invariant-loop-turn l =
    (l.at ≤ length l.text) × Left l.initial.out 0 (rewrite l.text) l.out l.to (rewrite_from (length l.text - l.turn) l.text l.at)
