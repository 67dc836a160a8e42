-- `machine::cycle` meets its contract. Assumes nothing.
use Rattle.machine.proofs.Machine.{gives-done}
use Rattle.machine.proofs.Judging.{runs_done}
use Rattle.machine.proofs.cycle.Goals as goal

pub returns : goal.returns
returns c =
    let j = c.in_ok-image.ensures.ok in
    gives-done (runs_done j.0 j.1) c.run_cycle.ensures.count c.run_cycle.ensures.left
