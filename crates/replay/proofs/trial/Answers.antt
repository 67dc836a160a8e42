use Rattle.std.proofs.Common.{arith}
use lib.ListN.{length-take}
use Rattle.trial_prepare.specs.Prepares.{Started}
use Rattle.trial_prepare.proofs.Begins.{is-started}
use Rattle.replay.proofs.trial.Goals as goal
use Rattle.replay.proofs.trial.Goals.{In-Ok}

-- The trial has started.
started : (c : In-Ok) → Started c.args.program.now c.args.schedule.now c.args.text.now c.prepare-start.result c.in-Ok.ready
started c = is-started _ _ _ c.prepare-start.result c.in-Ok.is c.prepare-start.ensures.starts

pub shared_ref_as_front-image : goal.shared_ref_as_front-image
shared_ref_as_front-image c = omega (arith, (started (goal.at.shared_ref_as_front-image c).In-Ok).fits)

pub slice_bounds-image-end : goal.slice_bounds-image-end
slice_bounds-image-end c =
    simp length-take (omega (arith, (started (goal.at.slice_bounds-image-end c).In-Ok).fits))

pub hash_lines-hash-requires : goal.hash_lines-hash-requires
hash_lines-hash-requires c = (started (goal.at.hash_lines-hash-requires c).In-Ok).underway
