-- The route of a chain decides whether the chain keeps its limit. Assumes nothing.
use Prim.Native.Nat.{ℕ, suc, ◌+◌, ◌*◌, ◌/◌, ◌≤◌, ◌<◌}
use mathlib.Core.Bool.{Bool, true, false}
use mathlib.Core.List.{List, [], ◌∷◌}
use mathlib.Core.Path.{◌≡◌, refl, sym, ap, subst, ◌∙◌}
use native.Mathlib.Nat.{le_trans, mul-le-mul, mul-le-mul_left, mul-le-mul_right, div-le_self, div-mul-le_self}
use native.Mathlib.Omega.{arith}
use borrow.Author.Tests.{eqb-true, eqb-false}
use lib.Dec.{eqb}
use lib.ListN.{length, get_or}
use Rattle.latency_rule.specs.Back.{no_hop, Sound, Small, PassableIn, window_by, timely_by, timely_in}
use Rattle.latency_rule.specs.Hops.{HopsOf}
use Rattle.latency_rule.specs.declared.Hop.{Hop}
use Rattle.latency_rule.specs.declared.Route.{Route}
use Rattle.latency_rule.proofs.Chain.{timely-is, small_is}
use Rattle.model.specs.Says.Feasible.{All}
use Rattle.model.specs.Rules.Latency.{reads_back, backwards, from_of, window_of, keeps_from, keeps}
use Rattle.model.specs.Rules.Program.{Program, Chain, Read, count, signal_at}
use Rattle.model.specs.Rules.Rates.{is_linked}
use Rattle.model.specs.Rules.Schedule.{Schedule, phase_of}
use Rattle.model.proofs.Basics.All.{all-at}
use Rattle.model.proofs.Pairs.Decide.{met-settled}
use Rattle.model.proofs.Pairs.Links.{LinkedBack, linked-backwards, declared-backwards, chain-met}
use Rattle.model.proofs.Pairs.Verdict.{links-declared, chains-linked}
use Rattle.model.proofs.Pairs.Links.{ChainMet}
use Rattle.text_program.specs.Tables.{no_chain, chain_at}
use Rattle.text_program.specs.declared.Tables.{Tables}
use Rattle.check_latency.specs.Timely.{Timed, RouteOf, with_bound}
use Rattle.check_latency.specs.declared.Followed.{Followed}

-- The route can be gone back over, and it decides whether the chain keeps a bound.
pub record Decided (h : ℕ) (p : Program) (s : Schedule) (c : Chain) (route : Route) : Type 0 where
  pub passable : PassableIn route h
  pub same : (bound : ℕ) → timely_in c.mode bound route h ≡ keeps p s h (with_bound c bound)

-- Every read on the way has its index below its factor.
sound-is : (p : Program) (s : Schedule) (hops : List Hop) (r : ℕ) (ρs : List Read) → ChainMet p s r ρs → HopsOf p s hops r ρs →
    Sound hops (length ρs)
sound-is p s hops r [] ch h j lt = absurd (omega arith)
sound-is p s hops r (ρ ∷ ρs) ch h j lt =
    go (eqb j (length ρs)) refl (λ l. sound-is p s hops ρ.operands.signal ρs ch.1 h.1 j l)
  where
    go : (b : Bool) → eqb j (length ρs) ≡ b → (j < length ρs → (get_or hops j no_hop).index < (get_or hops j no_hop).factor) →
        (get_or hops j no_hop).index < (get_or hops j no_hop).factor
    go true e ih = rw (eqb-true j (length ρs) e, h.0) (met-settled p s r ρ ch.0).0
    go false e ih = let n = eqb-false j (length ρs) e in ih (omega arith)

-- A run in the window is early.
early : (n h q f i : ℕ) → n ≤ 15 → h ≤ 240 → f < q → i < h / q → (n * (h / q) + i) * q + f ≤ 1000000
early n h q f i ln lh lf li =
    let few : suc n ≤ 16 = omega arith in
    let lk : n * (h / q) + i < suc n * (h / q) = omega arith in
    omega (arith, mul-le-mul_right q lk, mul-le-mul_left (suc n) (div-mul-le_self h q), mul-le-mul few lh)

pub decided : (text reads : List ℕ) (tables : Tables) (periods phases : List ℕ) (h : ℕ) (p : Program) (s : Schedule) (chain : ℕ)
    (f : Followed) → Timed text reads tables periods phases h p s → chain < tables.chains →
    RouteOf p s f (backwards (chain_at p chain)) → Decided h p s (chain_at p chain) f.route
unfolding keeps from_of window_of
decided text reads tables periods phases h p s chain f t lt o =
    let j = t.joined in
    let route = f.route in
    let r = f.last in
    let ρs : List Read = reads_back p r o.ws in
    let l : chain < length p.chains = omega (arith, j.known.stands.tables-are.counts.chains-are) in
    let d : All (λ w. w < count p) (r ∷ o.ws) =
    subst (All (λ w. w < count p)) o.whole (declared-backwards p (chain_at p chain)
    (all-at (λ c. All (λ l. l.signal < count p) c.links) p.chains no_chain (links-declared p j.rated) chain l)) in
    let b : LinkedBack p (r ∷ o.ws) =
    subst (LinkedBack p) o.whole (linked-backwards p (chain_at p chain)
    (all-at (λ c. is_linked p c.links ≡ true) p.chains no_chain (chains-linked p j.links) chain l)) in
    let ch : ChainMet p s r ρs = chain-met p s t.accepted o.ws r d b in
    let n : length ρs ≡ route.count = o.over.many in
    let period : route.last.period ≡ (signal_at p r).period = ap (λ x. x.period) o.over.last-is in
    let low : window_by route h ≤ 240 = le_trans (div-le_self h route.last.period) t.hyper in
    let hops-are = o.over.hops-are in
    record {
      passable =
          record {
            hyper = t.hyper;
            positive = rw period (le_trans (omega arith) (t.accepted.ordered.phases r d.0));
            passable =
                record {
                  few = o.few;
                  sound = subst (Sound route.hops) n (sound-is p s route.hops r ρs ch hops-are);
                  small = λ i li.
                      rw period
                      (subst (λ m. Small route.hops m (route.count * (h / (signal_at p r).period) + i)) n
                      (small_is p s t.accepted route.hops r (route.count * (h / (signal_at p r).period) + i) ρs d.0 ch
                      hops-are (early route.count h (signal_at p r).period (phase_of s r) i o.few t.hyper
                      (t.accepted.ordered.phases r d.0) (rw period at li))));
                  within = omega (arith, mul-le-mul o.few low, low);
                };
          };
      same = λ bound. sym (ap (keeps_from p s h (with_bound (chain_at p chain) bound)) o.whole ∙
          timely-is p s (chain_at p chain).mode bound (length ρs * (h / (signal_at p r).period))
          (h / (signal_at p r).period) route r ρs o.over ∙
          (λ i. timely_by (chain_at p chain).mode bound route (n i * (h / sym period i)) (h / sym period i)));
    }
