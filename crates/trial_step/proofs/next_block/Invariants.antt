-- `trial_step::next_block` meets its contract. Assumes nothing.
use Prim.Native.Nat.{ℕ, ◌+◌, ◌<◌}
use mathlib.Core.Path.{◌≡◌}
use lib.ListN.{length}
use Rattle.trial_step.specs.Underway.{lines_left, fill_from, block_of}
use Rattle.trial_step.proofs.Filling.{Filling}
use Rattle.trial_step.proofs.next_block.Given as goal

abbrev pub invariant-loop-block : goal.invariant-loop-block
invariant-loop-block l =
    Filling l.image l.text l.initial.reached l.initial.samples l.initial.state l.initial.block l.samples l.state l.block
    l.reached l.size ×
    ((n : ℕ) × (length l.block < n + l.size) ×
    (block_of l.image l.text l.initial.reached l.initial.samples l.initial.state l.initial.block ≡
    fill_from n l.image l.text l.reached l.samples l.state l.block l.size))

abbrev pub decreases-loop-block : goal.decreases-loop-block
decreases-loop-block l =
    length (lines_left l.image l.text l.reached l.samples l.state)
