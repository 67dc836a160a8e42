-- `runs::add_runs` meets its contract. Assumes nothing.
use Prim.Native.Nat.{ℕ, ◌*◌, ◌≤◌, ◌<◌}
use mathlib.Core.Bool.{true}
use mathlib.Core.Path.{◌≡◌}
use lib.ListN.{length, get_or}
use Rattle.model.specs.Rules.Reads.{due}
use Rattle.runs.proofs.Runs.{RaisedTo}
use Rattle.runs.proofs.add_runs.Given as goal

abbrev pub invariant-loop-c : goal.invariant-loop-c
invariant-loop-c l =
    (l.phase < l.period) × (l.hypercycle ≤ 240) × ((c : ℕ) → c < l.hypercycle → get_or l.initial.sums c 0 ≤ 63 * 65535) × (length l.sums ≡ 240) ×
    (due (record { period = l.period; phase = l.phase }) l.c ≡ true) ×
    RaisedTo (record { period = l.period; phase = l.phase }) l.weight l.initial.sums l.sums l.c ×
    ((c : ℕ) → l.hypercycle ≤ c → get_or l.sums c 0 ≡ get_or l.initial.sums c 0)
