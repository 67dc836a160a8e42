-- `move_rule::narrow_by_reads` meets its contract. Assumes nothing.
use Prim.Native.Nat.{ℕ, ◌-◌, ◌≤◌, ◌<◌}
use mathlib.Core.Path.{◌≡◌}
use native.Mathlib.Omega.{arith}
use Rattle.model.specs.Rules.Program.{Program, count, signal_at, body_reads}
use Rattle.model.specs.Rules.Schedule.{Schedule}
use Rattle.model.specs.Says.Feasible.{All}
use Rattle.move_rule.specs.Ranges.{ReadStays}
use Rattle.move_rule.specs.Narrowing.{Long, Narrowed, Claim}
use Rattle.move_rule.proofs.Narrowings.{narrowed_none, narrowed-next, narrowed-as}
use Rattle.move_rule.proofs.narrow_by_reads.Given as goal

-- All reads of signal r stay.
abbrev pub SignalStays : Program → Schedule → ℕ → ℕ → ℕ → Type 0
SignalStays p s r x f = All (ReadStays p s x f r) (body_reads (signal_at p r).body)

abbrev pub invariant-loop-reader : goal.invariant-loop-reader
invariant-loop-reader l =
    (l.reader ≤ l.signals) × Long l.lows l.highs ×
    Claim l.text l.reads l.firsts l.periods l.phases l.ranks
    (λ p s. count p ≡ l.signals → Narrowed p (λ x f. (r : ℕ) → r < l.reader → SignalStays p s r x f)
    l.initial.lows l.initial.highs l.lows l.highs)
