-- `move_rule::narrow_by_chains` meets its contract. Assumes nothing.
use Prim.Native.Nat.{ℕ, ◌-◌, ◌≤◌, ◌<◌}
use mathlib.Core.Path.{◌≡◌}
use native.Mathlib.Omega.{arith}
use lib.ListN.{length}
use Rattle.model.specs.Rules.Latency.{timely}
use Rattle.model.specs.Rules.Outcome.{accepted}
use Rattle.model.specs.Rules.Program.{Program, count}
use Rattle.model.specs.Rules.Schedule.{Schedule}
use Rattle.model.proofs.Texts.Legal.{stands, signal-period}
use Rattle.text_program.proofs.ByIndex.{few-chains}
use Rattle.text_program.specs.Tables.{chain_at}
use Rattle.check_latency.specs.Timely.{Timed, LeewayOf}
use Rattle.move_rule.specs.Ranges.{ChainStays}
use Rattle.move_rule.specs.Narrowing.{Long, Narrowed, Slack, LinksPhased}
use Rattle.move_rule.proofs.Narrowings.{narrowed_none, narrowed-next, narrowed-as}
use Rattle.move_rule.proofs.Limits.{Links, leeway-links}
use Rattle.move_rule.proofs.narrow_by_chains.Given as goal

abbrev pub invariant-loop-chain : goal.invariant-loop-chain
invariant-loop-chain l =
    (l.chain ≤ l.tables.chains) × Long l.lows l.highs ×
    ((p : Program) (s : Schedule) → Timed l.text l.reads l.tables l.periods l.phases l.h p s →
    timely p s l.h ≡ accepted tt → Narrowed p (λ x f. (j : ℕ) → j < l.chain → ChainStays p s l.h x f (chain_at p j))
    l.initial.lows l.initial.highs l.lows l.highs)
