-- Latency (16): how old the first link's element is at a run of the last.
use Rattle.std.specs.Prelude.{Option, Some, None, ℕ, zero, suc, ◌+◌, ◌*◌, ◌-◌, ◌/◌, Bool, true, false, cond, not, List, [], ◌∷◌, map, reverse, leb, ltb, eqb, length}
use Rattle.model.specs.Rules.Outcome.{Outcome, fault, lowest}
use Rattle.model.specs.Rules.Program.{Program, Chain, Read, signal_at, body_reads}
use Rattle.model.specs.Rules.Reads.{Rate, rate_of, run_cycle, uses, settled}
use Rattle.model.specs.Rules.Schedule.{Schedule}
use Rattle.model.specs.Rules.Search.{first_below, is_found, all_below, join_from}
use Rattle.model.specs.declared.Index.TheVariants.{Fixed}
use Rattle.model.specs.declared.Kind.TheVariants.{Now}
use Rattle.model.specs.declared.Mode.{Mode}
use Rattle.model.specs.declared.Mode.TheVariants.{Exists, Backward}

abbrev pub no_read : Read
no_read = record { place = 0; kind = Now; operands = record { signal = 0; factor = 1; index = Fixed 0 } }

-- The read of w among the reads of an equation.
unfoldable pub read_among : ℕ → List Read → Read
read_among w [] = no_read
read_among w (ρ ∷ ρs) = cond (eqb ρ.operands.signal w) ρ (read_among w ρs)

-- The reads by which one goes back from r through the links before it, the nearest first.
unfoldable pub reads_back : Program → ℕ → List ℕ → List Read
reads_back p r [] = []
reads_back p r (w ∷ ws) = read_among w (body_reads (signal_at p r).body) ∷ reads_back p w ws

-- A chain's signals from the last link to the first.
abbrev pub backwards : Chain → List ℕ
backwards c = reverse (map (λ l. l.signal) c.links)

-- Entry 0 of a history is no element; entry m + 1 is element m.
abbrev pub onward : (ℕ → Option ℕ) → ℕ → Option ℕ
onward go zero = None
onward go (suc m) = go m

-- Latency: the cycle of run k of the last link minus the cycle of element m of the first, by their rates r and a, and 1 more,
-- since outputs latch at the end of the cycle (request c). The difference never cuts: no run goes back to an element that is
-- younger than itself (`latency-is`).
unfoldable pub latency_of : Rate → ℕ → Rate → ℕ → ℕ
latency_of r k a m = run_cycle r k - run_cycle a m + 1

module _ (p : Program) (s : Schedule) where
  -- The history entry that element k of r uses at a read.
  unfoldable pub used : ℕ → ℕ → Read → ℕ
  used r k ρ = uses ρ.kind ρ.operands.factor (settled p s r ρ) k

  -- The element of the first link at which one ends that goes back from element k of r, if every element on the way is 0
  -- or more.
  unfoldable pub back : ℕ → ℕ → List Read → Option ℕ
  back r k [] = Some k
  back r k (ρ ∷ ρs) = onward (λ m. back ρ.operands.signal m ρs) (used r k ρ)

  -- The signal at which that ends.
  unfoldable pub source : ℕ → List Read → ℕ
  source r [] = r
  source r (ρ ∷ ρs) = source ρ.operands.signal ρs

  abbrev pub latency_from : ℕ → ℕ → ℕ → Option ℕ → Option ℕ
  latency_from r k a (Some m) = Some (latency_of (rate_of p s r) k (rate_of p s a) m)
  latency_from r k a None = None

  -- The latency of run k of r over these reads, if the run counts.
  unfoldable pub run_latency : ℕ → List Read → ℕ → Option ℕ
  run_latency r ρs k = latency_from r k (source r ρs) (back r k ρs)

  abbrev pub is_late : ℕ → Option ℕ → Bool
  is_late bound (Some l) = ltb bound l
  is_late bound None = false

  abbrev pub is_in_time : ℕ → Option ℕ → Bool
  is_in_time bound (Some l) = leb l bound
  is_in_time bound None = false

  -- The same, decided by `window` runs from run `from` on.
  abbrev pub is_timely : Mode → ℕ → List Read → ℕ → ℕ → ℕ → Bool
  is_timely Backward r ρs bound from window = all_below window (λ i. not (is_late bound (run_latency r ρs (from + i))))
  is_timely Exists r ρs bound from window = is_found (first_below window (λ i. is_in_time bound (run_latency r ρs (from + i))))

  -- After as many hypercycles as there are reads every run counts.
  unfoldable pub from_of : ℕ → ℕ → List Read → ℕ
  from_of h r ρs = length ρs * (h / (signal_at p r).period)

  -- The runs of one hypercycle are enough: a run that counts has its latency again a hypercycle later.
  unfoldable pub window_of : ℕ → ℕ → ℕ
  window_of h r = h / (signal_at p r).period

  abbrev pub keeps_from : ℕ → Chain → List ℕ → Bool
  keeps_from h c [] = true
  keeps_from h c (r ∷ ws) =
      is_timely c.mode r (reads_back p r ws) c.bound (from_of h r (reads_back p r ws)) (window_of h r)

  unfoldable pub keeps : ℕ → Chain → Bool
  keeps h c = keeps_from h c (backwards c)

  -- 16 at the lowest LAT.
  unfoldable pub timely : ℕ → Outcome (Unit {0})
  timely h = lowest (join_from 0 (λ j c. cond (keeps h c) [] (fault 16 c.place ∷ [])) p.chains)
