-- `check_load::loads_of` meets its contract. Assumes nothing.
use Prim.Native.Nat.{ℕ, ◌*◌, ◌-◌, ◌≤◌, ◌<◌}
use mathlib.Core.Path.{◌≡◌, refl, sym, ap, ◌∙◌}
use native.Mathlib.Nat.{le_of_eq}
use native.Mathlib.Omega.{arith}
use lib.ListN.{length, get_or, get_or-replicate}
use Rattle.check_load.specs.Load.{load_in, LoadsOf}
use Rattle.check_load.proofs.Loads.{load-none, loads-more}
use Rattle.check_load.proofs.loads_of.Given as goal

abbrev pub invariant-loop-x : goal.invariant-loop-x
invariant-loop-x l =
    (l.x ≤ l.signals) × (l.signals ≤ 64) × (l.hypercycle ≤ 240) × ((y : ℕ) → y < l.signals → get_or l.phases y 0 < get_or l.periods y 0) ×
    (length l.loads ≡ 240) × ((c : ℕ) → c < l.hypercycle → get_or l.loads c 0 ≤ l.x * 65535) ×
    LoadsOf l.periods l.phases l.weights l.x l.hypercycle l.loads
