-- `check_latency::settled_index` meets its contract. Assumes nothing.
use mathlib.Core.Path.{ap, ◌∙◌}
use native.Mathlib.Omega.{arith}
use Rattle.model.specs.Rules.Search.{found_or}
use Rattle.read_rule.specs.Reads.{rate_in, index_found}
use Rattle.check_latency.proofs.Indices.{settle-byte}
use borrow.Author.Rules.{rules}
use Rattle.check_latency.proofs.settled_index.Goals as goal

pub index_found-requires : goal.index_found-requires
unfolding index_found
index_found-requires c =
    let a = c.args in
    rw (c.find_index-found.ensures, c.in-Open.is)
    (settle-byte a.kind (rate_in a.w) (rate_in a.r) a.sampled.factor (omega arith))

pub returns-in-Open : goal.returns-in-Open
unfolding index_found
returns-in-Open c = c.index_found.ensures ∙ ap (found_or 0) c.find_index-found.ensures ∙
    rw c.in-Open.is
