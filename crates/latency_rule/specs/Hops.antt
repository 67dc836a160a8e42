-- The hops of a chain's reads.
use Rattle.std.specs.Prelude.{ℕ, List, [], ◌∷◌, ◌≡◌, length, get_or}
use Rattle.model.specs.Rules.Latency.{source}
use Rattle.model.specs.Rules.Program.{Program, Read}
use Rattle.model.specs.Rules.Reads.{rate_of, settled}
use Rattle.model.specs.Rules.Schedule.{Schedule}
use Rattle.read_rule.specs.Reads.{rate_in}
use Rattle.latency_rule.specs.Back.{no_hop}
use Rattle.latency_rule.specs.declared.Hop.{Hop}
use Rattle.latency_rule.specs.declared.Route.{Route}

module _ (p : Program) (s : Schedule) where
  -- The hop of a read in the equation of r.
  abbrev pub hop_of : ℕ → Read → Hop
  hop_of r ρ = record { kind = ρ.kind; factor = ρ.operands.factor; index = settled p s r ρ }

  -- The hops are those of the reads by which one goes back from r, the nearest last.
  abbrev pub HopsOf : List Hop → ℕ → List Read → Type 0
  HopsOf hops r [] = Unit {0}
  HopsOf hops r (ρ ∷ ρs) = (get_or hops (length ρs) no_hop ≡ hop_of r ρ) × HopsOf hops ρ.operands.signal ρs

  -- The route is the way back over these reads.
  pub record RouteOver (route : Route) (r : ℕ) (ρs : List Read) : Type 0 where
    pub hops-are : HopsOf route.hops r ρs
    pub many : length ρs ≡ route.count
    pub last-is : rate_in route.last ≡ rate_of p s r
    pub source_is : rate_in route.source ≡ rate_of p s (source p s r ρs)
