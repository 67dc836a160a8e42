-- Latency as a statement over all runs, and the window of runs that decides it.
use Rattle.std.specs.Prelude.{Some, ℕ, ◌≤◌, List, ◌≡◌, ◌↔◌, true}
use Rattle.model.specs.Rules.Program.{Program, Read}
use Rattle.model.specs.Rules.Schedule.{Schedule}
use Rattle.model.specs.Rules.Latency.{run_latency, is_timely, from_of, window_of}
use Rattle.model.specs.declared.Mode.{Mode}
use Rattle.model.specs.declared.Mode.TheVariants.{Exists, Backward}

module _ (p : Program) (s : Schedule) where
  -- Backward: every counted run is within the bound. Exists: one is.
  abbrev pub Timely : Mode → ℕ → List Read → ℕ → Type 0
  Timely Backward r ρs bound = (k l : ℕ) → run_latency p s r ρs k ≡ Some l → l ≤ bound
  Timely Exists r ρs bound = (k l : ℕ) × (run_latency p s r ρs k ≡ Some l) × (l ≤ bound)

  -- The runs of one hypercycle, after as many hypercycles as there are reads, decide the constraint.
  abbrev pub WindowDecides : (h r : ℕ) → Mode → List Read → ℕ → Type 0
  WindowDecides h r mode ρs bound =
      (is_timely p s mode r ρs bound (from_of p s h r ρs) (window_of p s h r) ≡ true) ↔ Timely mode r ρs bound
