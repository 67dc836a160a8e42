-- Request c: outputs latch at the end of the cycle.
use Rattle.std.specs.Prelude.{ℕ, ◌<◌, List, ◌≡◌}
use Rattle.model.specs.Rules.Compile.{Pair, pair_of}
use Rattle.model.specs.Rules.Outcome.{accepted}
use Rattle.model.specs.Rules.Program.{Read, Chain, Program}
use Rattle.model.specs.Rules.Schedule.{Schedule}
use Rattle.model.specs.Says.Feasible.{Met}
use Rattle.theorems_pairs.specs.Conditions.{◌among◌, ReadIn, LegalPlaces}
use Rattle.theorems_pairs.specs.Terms.{LatencyIs}

pub record RequestC : Type 0 where
  -- From element k of the last link go back by the reads to element m of the first. Latency is from now on one more than the
  -- difference of cycles, for both modes.
  pub latency-is : (program schedule : List ℕ) (p : Program) (h : ℕ) (s : Schedule) → LegalPlaces program schedule p h s →
      ((r : ℕ) (ρ : Read) → ReadIn p r ρ → Met p s r ρ) → LatencyIs p s
  -- So no chain keeps a bound of 0, in either mode: some run of every chain counts.
  pub no-zero-bound : (program schedule : List ℕ) (q : Pair) → pair_of program schedule ≡ accepted q → (c : Chain) →
      c among q.program.chains → 0 < c.bound
