use Rattle.std.proofs.Common.{arith}
use lib.ListN.{length-take}
use Rattle.trial_prepare.specs.Prepares.{Started}
use Rattle.trial_prepare.proofs.Begins.{is-started}
use Rattle.trial.proofs.run.Goals as goal
use Rattle.trial.proofs.run.Goals.{In-Ok}

-- The trial has started.
started : (c : In-Ok) → Started c.args.program.now c.args.schedule.now c.args.text.now c.prepare-start.result c.in-Ok.ready
started c = is-started _ _ _ c.prepare-start.result c.in-Ok.is c.prepare-start.ensures.starts

pub shared_ref_as_front-image : goal.shared_ref_as_front-image
shared_ref_as_front-image c = omega (arith, (started (goal.at.shared_ref_as_front-image c).In-Ok).fits)

pub slice_bounds-image-end : goal.slice_bounds-image-end
slice_bounds-image-end c =
    simp length-take (omega (arith, (started (goal.at.slice_bounds-image-end c).In-Ok).fits))

pub print_lines-requires : goal.print_lines-requires
print_lines-requires c = (started (goal.at.print_lines-requires c).In-Ok).underway
