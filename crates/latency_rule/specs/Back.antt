-- Going back over the reads of a chain, by a table of hops.
use Rattle.std.specs.Prelude.{Option, Some, None, ℕ, zero, suc, ◌+◌, ◌*◌, ◌/◌, ◌≤◌, ◌<◌, Bool, false, cond, not, List, ◌≡◌, leb, ltb, get_or}
use Rattle.model.specs.Rules.Latency.{onward, latency_of}
use Rattle.model.specs.Rules.Reads.{Rate, uses}
use Rattle.model.specs.Rules.Search.{first_below, is_found, all_below}
use Rattle.model.specs.declared.Kind.TheVariants.{Now}
use Rattle.model.specs.declared.Mode.{Mode}
use Rattle.model.specs.declared.Mode.TheVariants.{Exists, Backward}
use Rattle.read_rule.specs.Lines.{is_plain}
use Rattle.read_rule.specs.Reads.{rate_in}
use Rattle.latency_rule.specs.declared.Hop.{Hop}
use Rattle.latency_rule.specs.declared.Route.{Route}
use Rattle.latency_rule.specs.declared.Runs.{Runs}

abbrev pub no_hop : Hop
no_hop = record { kind = Now; factor = 0; index = 0 }

-- The history entry that element k uses at a hop.
unfoldable pub used_by : Hop → ℕ → ℕ
used_by h k = uses h.kind h.factor h.index k

-- The element at which one ends that goes back from element k over the first n hops, the last of them first.
unfoldable pub back_by : List Hop → ℕ → ℕ → Option ℕ
back_by hops zero k = Some k
back_by hops (suc n) k = onward (λ m. back_by hops n m) (used_by (get_or hops n no_hop) k)

-- Every index is below its factor.
abbrev pub Sound : List Hop → ℕ → Type 0
Sound hops n = (j : ℕ) → j < n → (get_or hops j no_hop).index < (get_or hops j no_hop).factor

-- No element on the way is over a million, so that nothing overflows.
abbrev pub OnwardSmall : (ℕ → Type 0) → ℕ → Type 0
OnwardSmall go zero = Unit {0}
OnwardSmall go (suc m) = go m

unfoldable pub Small : List Hop → ℕ → ℕ → Type 0
Small hops zero k = k ≤ 1000000
Small hops (suc n) k = (k ≤ 1000000) × OnwardSmall (λ m. Small hops n m) (used_by (get_or hops n no_hop) k)

abbrev pub SmallFound : Option ℕ → Type 0
SmallFound (Some m) = m ≤ 1000000
SmallFound None = Unit {0}

-- One can go back over the route from every run of the window from run `from` on.
pub record Passable (route : Route) (from window : ℕ) : Type 0 where
  pub few : route.count ≤ 15
  pub sound : Sound route.hops route.count
  pub small : (i : ℕ) → i < window → Small route.hops route.count (from + i)
  pub within : from + window ≤ 1000000

-- The latency of run k of the last link, if the run counts.
abbrev pub latency_by : Rate → Rate → ℕ → Option ℕ → Option ℕ
latency_by last source k (Some m) = Some (latency_of last k source m)
latency_by last source k None = None

unfoldable pub run_latency_by : Route → ℕ → Option ℕ
run_latency_by route k = latency_by (rate_in route.last) (rate_in route.source) k (back_by route.hops route.count k)

abbrev pub late_by : ℕ → Option ℕ → Bool
late_by bound (Some l) = ltb bound l
late_by bound None = false

abbrev pub in_time_by : ℕ → Option ℕ → Bool
in_time_by bound (Some l) = leb l bound
in_time_by bound None = false

-- Whether the runs of the window from run `from` on keep the bound.
unfoldable pub timely_by : Mode → ℕ → Route → ℕ → ℕ → Bool
timely_by Backward bound route from window = all_below window (λ i. not (late_by bound (run_latency_by route (from + i))))
timely_by Exists bound route from window = is_found (first_below window (λ i. in_time_by bound (run_latency_by route (from + i))))

-- Every read is of an equal period.
abbrev pub all_plain : List Hop → ℕ → Bool
all_plain hops n = all_below n (λ j. is_plain (get_or hops j no_hop).kind)

-- A chain is judged over the runs of its last link in one hypercycle h, after as many hypercycles as there are hops.
abbrev pub window_by : Route → ℕ → ℕ
window_by route h = h / route.last.period

abbrev pub from_by : Route → ℕ → ℕ
from_by route h = route.count * window_by route h

abbrev pub timely_in : Mode → ℕ → Route → ℕ → Bool
timely_in mode bound route h = timely_by mode bound route (from_by route h) (window_by route h)

-- One can go back over the route from each of these runs.
pub record PassableIn (route : Route) (h : ℕ) : Type 0 where
  pub hyper : h ≤ 240
  pub positive : 0 < route.last.period
  pub passable : Passable route (from_by route h) (window_by route h)

-- The runs decide a chain.
pub record Decide (route : Route) (h : ℕ) (runs : Runs) : Type 0 where
  pub passable : Passable route runs.from runs.count
  pub alike : (mode : Mode) (bound : ℕ) → timely_by mode bound route runs.from runs.count ≡ timely_in mode bound route h

-- The least bound for no run, and for one run more: all runs keep it, or one does. Latencies are below a thousand million.
abbrev pub enough_for_none : Mode → ℕ
enough_for_none Backward = 0
enough_for_none Exists = 1000000000

abbrev pub enough_of : Mode → ℕ → ℕ → ℕ
enough_of Backward m l = cond (ltb m l) l m
enough_of Exists m l = cond (ltb l m) l m

abbrev pub enough_for : Mode → ℕ → Option ℕ → ℕ
enough_for mode m (Some l) = enough_of mode m l
enough_for mode m None = m

-- The runs of the window keep exactly the bounds from m on.
abbrev pub LeastBound : Mode → Route → ℕ → ℕ → ℕ → Type 0
LeastBound mode route from window m =
    (bound : ℕ) → bound < 1000000000 → timely_by mode bound route from window ≡ leb m bound
