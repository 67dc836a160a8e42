-- What is known of a pair whose latencies are judged.
use Rattle.std.specs.Prelude.{Option, Some, None, ℕ, ◌≤◌, ◌<◌, List, ◌∷◌, ◌≡◌, leb, get_or}
use Rattle.latency_rule.specs.Hops.{RouteOver}
use Rattle.model.specs.Says.Feasible.{Feasible, Multiple}
use Rattle.model.specs.Rules.Latency.{reads_back, source, backwards, keeps}
use Rattle.model.specs.Rules.Outcome.{accepted}
use Rattle.model.specs.Rules.Program.{Program, Chain, count}
use Rattle.model.specs.Rules.Rates.{declared_and_rated, linked}
use Rattle.model.specs.Rules.Reads.{met}
use Rattle.model.specs.Rules.Schedule.{Schedule, phase_of}
use Rattle.text_program.specs.Tables.{PeriodsOf, Stands}
use Rattle.text_program.specs.declared.Tables.{Tables}
use Rattle.text_schedule.specs.Arranged.{Arranged}
use Rattle.text_schedule.specs.declared.PairTables.{PairTables}
use Rattle.check_latency.specs.declared.Followed.{Followed}
use Rattle.check_latency.specs.declared.Leeway.{Leeway}
use Rattle.check_latency.specs.declared.Limit.{Limit}

-- An index is a byte.
abbrev pub ByteFound : Option ℕ → Type 0
ByteFound (Some i) = i < 256
ByteFound None = Unit {0}

-- There is a pair that has these tables, and its reads are met.
abbrev pub MetPair : List ℕ → List ℕ → PairTables → Type 0
MetPair text reads t = (p : Program) × (s : Schedule) × Arranged text reads t p s × (met p s ≡ accepted tt)

-- Text, reads and tables stand for p and s.
pub record Known (text reads : List ℕ) (tables : Tables) (periods phases : List ℕ) (p : Program) (s : Schedule) : Type 0 where
  pub stands : Stands text reads tables p
  pub periods-are : PeriodsOf p periods
  pub phases-are : (x : ℕ) → x < count p → get_or phases x 0 ≡ phase_of s x

-- Its links are of declared signals, each with one read of the link before.
pub record ChainsLinked (text reads : List ℕ) (tables : Tables) (periods phases : List ℕ) (p : Program) (s : Schedule) :
    Type 0 where
  pub known : Known text reads tables periods phases p s
  pub rated : declared_and_rated p ≡ accepted tt
  pub links : linked p ≡ accepted tt

abbrev pub Joinable : List ℕ → List ℕ → Tables → List ℕ → List ℕ → Type 0
Joinable text reads tables periods phases = (p : Program) × (s : Schedule) × ChainsLinked text reads tables periods phases p s

-- All its reads are met, and h is its hypercycle.
pub record Timed (text reads : List ℕ) (tables : Tables) (periods phases : List ℕ) (h : ℕ) (p : Program) (s : Schedule) :
    Type 0 where
  pub joined : ChainsLinked text reads tables periods phases p s
  pub accepted : Feasible p s
  pub multiple : Multiple p h
  pub hyper : h ≤ 240

abbrev pub Judgeable : List ℕ → List ℕ → Tables → List ℕ → List ℕ → ℕ → Type 0
Judgeable text reads tables periods phases h = (p : Program) × (s : Schedule) × Timed text reads tables periods phases h p s

-- The limit of a chain.
abbrev pub limit_of : Chain → Limit
limit_of c = record { mode = c.mode; bound = c.bound }

-- The route is that of the links `back`, the last of them first, and the signals are those of the last and the first.
pub record RouteOf (p : Program) (s : Schedule) (f : Followed) (back : List ℕ) : Type 0 where
  pub ws : List ℕ
  pub whole : back ≡ f.last ∷ ws
  pub few : f.route.count ≤ 15
  pub over : RouteOver p s f.route f.last (reads_back p f.last ws)
  pub ends : source p s f.last (reads_back p f.last ws) ≡ f.source

-- A chain with another bound.
abbrev pub with_bound : Chain → ℕ → Chain
with_bound c bound = record { place = c.place; mode = c.mode; bound = bound; links = c.links }

-- The first and last link of a chain and its bound; it would keep its limit with exactly the bounds from the least on.
pub record LeewayOf (p : Program) (s : Schedule) (h : ℕ) (c : Chain) (r : Leeway) : Type 0 where
  pub links : (ws : List ℕ) × (backwards c ≡ r.last ∷ ws) × (source p s r.last (reads_back p r.last ws) ≡ r.source)
  pub bound-is : r.bound ≡ c.bound
  pub small : r.bound < 65536
  pub least-is : (bound : ℕ) → bound < 1000000000 → keeps p s h (with_bound c bound) ≡ leb r.least bound
