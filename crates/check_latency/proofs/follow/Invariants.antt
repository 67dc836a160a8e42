-- `check_latency::follow` meets its contract. Assumes nothing.
use Prim.Native.Nat.{◌+◌, ◌≤◌, ◌<◌}
use mathlib.Core.Path.{refl, ap, ◌∙◌}
use native.Mathlib.Omega.{arith}
use lib.ListN.{length}
use borrow.Author.Rules.{rules}
use Rattle.model.specs.Rules.Latency.{backwards}
use Rattle.model.specs.Rules.Program.{Program}
use Rattle.model.specs.Rules.Schedule.{Schedule}
use Rattle.text_program.specs.Tables.{chain_at}
use Rattle.text_program.proofs.ByIndex.{few-chains}
use Rattle.read_rule.specs.Reads.{rate_in}
use Rattle.check_latency.specs.Timely.{ChainsLinked}
use Rattle.check_latency.proofs.Following.{Following, next-link, route-of, Begun, begun, chain-command}
use Rattle.check_latency.proofs.Indices.{rate-at}
use Rattle.check_latency.proofs.follow.Given as goal

abbrev pub invariant-loop-more : goal.invariant-loop-more
invariant-loop-more l =
    (p : Program) (s : Schedule) → ChainsLinked l.text l.reads l.tables l.periods l.phases p s →
    Following l.text p s (backwards (chain_at p l.chain)) l.source l.at l.more l.last l.count l.hops
