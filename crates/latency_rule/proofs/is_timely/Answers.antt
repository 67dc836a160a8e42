-- `latency_rule::is_timely` meets its contract. Assumes nothing.
use mathlib.Core.Path.{◌∙◌}
use borrow.Author.Rules.{rules}
use Rattle.model.specs.declared.Mode.TheVariants.{Exists, Backward}
use Rattle.latency_rule.specs.Back.{timely_by}
use Rattle.latency_rule.proofs.is_timely.Goals as goal

pub returns-in-Exists : goal.returns-in-Exists
unfolding timely_by
returns-in-Exists c =
    let d = c.deciding_runs-runs.ensures in
    rw c.in-Exists.is (c.one_in_time.ensures ∙ d.alike Exists _)

pub returns-in-Backward : goal.returns-in-Backward
unfolding timely_by
returns-in-Backward c =
    let d = c.deciding_runs-runs.ensures in
    rw c.in-Backward.is (c.all_in_time.ensures ∙ d.alike Backward _)

pub one_in_time-requires : goal.one_in_time-requires
one_in_time-requires c = c.deciding_runs-runs.ensures.passable

pub all_in_time-requires : goal.all_in_time-requires
all_in_time-requires c = c.deciding_runs-runs.ensures.passable
