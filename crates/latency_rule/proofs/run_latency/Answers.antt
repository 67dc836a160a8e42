-- `latency_rule::run_latency` meets its contract. Assumes nothing.
use mathlib.Core.Path.{sym, subst, ◌∙◌}
use Rattle.model.specs.Rules.Latency.{latency_of}
use Rattle.latency_rule.specs.Back.{SmallFound, run_latency_by}
use borrow.Author.Rules.{rules}
use Rattle.latency_rule.proofs.run_latency.Goals as goal

pub cycle_of-requires : goal.cycle_of-requires
cycle_of-requires c = subst SmallFound c.in-Some.is c.go_back-found.ensures.1

pub returns-in-Some : goal.returns-in-Some
unfolding run_latency_by latency_of
returns-in-Some c =
    let m = c in
    rw (
      sym m.go_back-found.ensures.0 ∙ m.in-Some.is,
      ← c.cycle_of-in-Some.ensures.0,
      ← c.cycle_of.ensures.0,
      ← c.cycles_between-cycles.ensures,
    )

pub returns-in-None : goal.returns-in-None
unfolding run_latency_by
returns-in-None c = rw (sym c.go_back-found.ensures.0 ∙ c.in-None.is)
