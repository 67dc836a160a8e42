-- Following the links of a chain. Assumes nothing.
use Prim.Native.Nat.{ℕ, suc, ◌+◌, ◌-◌, ◌≤◌, ◌<◌}
use mathlib.Core.Bool.{true, and-eq-true_iff}
use mathlib.Core.List.{List, [], ◌∷◌, map, reverse_aux}
use mathlib.Core.Path.{◌≡◌, refl, sym, ap, subst, ◌∙◌}
use native.Mathlib.Omega.{arith}
use borrow.Author.Tests.{eqb-true}
use lib.ListN.{length, get_or, set, length-set}
use lib.Seq.{get_or-set_same, get_or-set_other}
use Rattle.latency_rule.specs.Back.{no_hop}
use Rattle.latency_rule.specs.Hops.{hop_of, HopsOf}
use Rattle.latency_rule.specs.declared.Hop.{Hop}
use Rattle.model.specs.Says.Feasible.{All}
use Rattle.model.specs.Rules.Command.{declaration_at}
use Rattle.model.specs.Rules.Latency.{read_among, reads_back, backwards, source}
use Rattle.model.specs.Rules.Program.{Program, Link, Read, count, signal_at, body_reads}
use Rattle.model.specs.Rules.Rates.{count_reads, is_linked}
use Rattle.model.specs.Rules.Reads.{rate_of}
use Rattle.model.specs.Rules.Schedule.{Schedule}
use Rattle.model.specs.Rules.Word.{byte_at}
use Rattle.model.specs.declared.Declaration.TheVariants.{Latency}
use Rattle.model.proofs.Basics.All.{all-at}
use Rattle.model.proofs.Texts.Legal.{stands}
use Rattle.model.specs.Says.Stands.{SpellsChain}
use Rattle.model.specs.Says.Grammar.{SpellsLinks}
use Rattle.model.proofs.Pairs.Verdict.{links-declared, chains-linked}
use Rattle.text_program.specs.Tables.{no_chain, chain_at}
use Rattle.text_program.specs.declared.Tables.{Tables}
use Rattle.read_rule.specs.Reads.{rate_in}
use Rattle.read_rule.specs.declared.Timing.{Timing}
use Rattle.check_latency.specs.Timely.{Known, ChainsLinked, RouteOf}
use Rattle.check_latency.specs.declared.Followed.{Followed}
use Rattle.check_latency.specs.declared.Limit.{Limit}
use Rattle.check_latency.proofs.Indices.{read-signal}

module _ (p : Program) (s : Schedule) where
  -- Hops stay as they are where one is set behind them.
  hops-kept : (hops : List Hop) (i : ℕ) (hop : Hop) (r : ℕ) (ρs : List Read) → length ρs ≤ i → HopsOf p s hops r ρs →
      HopsOf p s (set hops i hop) r ρs
  hops-kept hops i hop r [] le h = tt
  hops-kept hops i hop r (ρ ∷ ρs) le h = (
    get_or-set_other hops i (length ρs) hop no_hop (λ e. omega arith) ∙ h.0,
    hops-kept hops i hop ρ.operands.signal ρs (omega arith) h.1,
  )

pub reads-length : (p : Program) (r : ℕ) (ws : List ℕ) → length (reads_back p r ws) ≡ length ws
unfolding reads_back
reads-length p r [] = refl
reads-length p r (w ∷ ws) = ap suc (reads-length p w ws)

-- The hops by which one goes back over the links ws from the last link, and the signal at which that ends.
pub record Along (p : Program) (s : Schedule) (hops : List Hop) (n first last : ℕ) (ws : List ℕ) : Type 0 where
  pub hops-are : HopsOf p s hops last (reads_back p last ws)
  pub many : length ws ≡ n
  pub ends : source p s last (reads_back p last ws) ≡ first

-- The LINKs from `at` on, the first of them `last`, after those that the hops go back over.
pub record Following (text : List ℕ) (p : Program) (s : Schedule) (back : List ℕ) (source at left last n : ℕ) (hops : List Hop) :
    Type 0 where
  pub ws : List ℕ
  pub links : List Link
  pub end : ℕ
  pub spelled : SpellsLinks text at links end
  pub many : length links ≡ left
  pub some : 1 ≤ left
  pub here : byte_at text (at + 1) ≡ last
  pub linked : is_linked p links ≡ true
  pub declared : All (λ l. l.signal < count p) links
  pub whole : back ≡ reverse_aux (map (λ l. l.signal) links) ws
  pub along : Along p s hops n source last ws
  pub first : source < count p
  pub space : length hops ≡ 15
  pub room : n + left ≤ 16

-- The next link.
pub record Next (text : List ℕ) (p : Program) (s : Schedule) (back : List ℕ) (source at left last n : ℕ) (hops : List Hop) : Type
    0 where
  pub inside : at + 4 ≤ length text
  pub read : last < count p
  pub reader : byte_at text (at + 2 + 1) < count p
  pub room : n < 15
  pub once : count_reads last (body_reads (signal_at p (byte_at text (at + 2 + 1))).body) ≡ 1
  pub on : (hop : Hop) → hop ≡ hop_of p s (byte_at text (at + 2 + 1))
      (read_among last (body_reads (signal_at p (byte_at text (at + 2 + 1))).body)) →
      Following text p s back source (at + 2) (left - 1) (byte_at text (at + 2 + 1)) (n + 1) (set hops n hop)

module _ (text : List ℕ) (p : Program) (s : Schedule) (back : List ℕ) (source₀ at left last n : ℕ) (hops : List Hop) where
  along-on : (ws : List ℕ) (r : ℕ) → count_reads last (body_reads (signal_at p r).body) ≡ 1 → n < 15 → length hops ≡ 15 →
      Along p s hops n source₀ last ws →
      (hop : Hop) → hop ≡ hop_of p s r (read_among last (body_reads (signal_at p r).body)) →
      Along p s (set hops n hop) (n + 1) source₀ r (last ∷ ws)
  unfolding reads_back source
  along-on ws r once lt space a hop e =
      let ρ = read_among last (body_reads (signal_at p r).body) in
      let ρs = reads_back p last ws in
      let same : ρ.operands.signal ≡ last = read-signal last (body_reads (signal_at p r).body) (omega (arith, once)) in
      let here : length ρs ≡ n = reads-length p last ws ∙ a.many in
      record {
        hops-are = (
          rw here (get_or-set_same hops n hop no_hop (omega (arith, space))) ∙ e,
          rw same (hops-kept p s hops n hop last ρs (omega (arith, here)) a.hops-are),
        );
        many = omega (arith, a.many);
        ends = rw same a.ends;
      }

  -- Two links at hand, or one.
  pub next-link : Following text p s back source₀ at left last n hops → 1 < left → Next text p s back source₀ at left last n hops
  unfolding is_linked
  next-link f lt = go f.links f.end f.spelled f.linked f.declared f.many f.whole
    where
      go : (links : List Link) (end : ℕ) → SpellsLinks text at links end → is_linked p links ≡ true →
          All (λ l. l.signal < count p) links →
          length links ≡ left → back ≡ reverse_aux (map (λ l. l.signal) links) f.ws →
          Next text p s back source₀ at left last n hops
      go links end (SpellsLinks.ends e) k d m w = absurd (omega arith)
      go links end (SpellsLinks.link e le (SpellsLinks.ends g)) k d m w = absurd (omega arith)
      go links end (SpellsLinks.link e le (SpellsLinks.link {ls = ls} g lg r)) k d m w =
          let b = (and-eq-true_iff _ (is_linked p (record { place = at + 2; signal = byte_at text (at + 2 + 1) } ∷ ls))).0 k in
          let once : count_reads last (body_reads (signal_at p (byte_at text (at + 2 + 1))).body) ≡ 1 =
          ap (λ x. count_reads x (body_reads (signal_at p (byte_at text (at + 2 + 1))).body)) (sym f.here) ∙
          eqb-true _ _ b.0 in
          record {
            inside = omega arith;
            read = subst (λ x. x < count p) f.here d.0;
            reader = d.1.0;
            room = omega (arith, f.room);
            once = once;
            on = λ hop q. record {
              ws = last ∷ f.ws;
              links = record { place = at + 2; signal = byte_at text (at + 2 + 1) } ∷ ls;
              end = end;
              spelled = SpellsLinks.link g lg r;
              many = omega (arith, m);
              some = omega arith;
              here = refl;
              linked = b.1;
              declared = d.1;
              whole = w ∙ ap (λ x. reverse_aux (map (λ l. l.signal) ls) (byte_at text (at + 2 + 1) ∷ (x ∷ f.ws))) f.here;
              along = along-on f.ws (byte_at text (at + 2 + 1)) once (omega (arith, f.room)) f.space f.along hop q;
              first = f.first;
              space = length-set hops n hop ∙ f.space;
              room = omega (arith, f.room);
            };
          }

  -- The route, with the rates of the first link and of the last.
  module _ (limit : Limit) (a z : Timing) (rate-a : source₀ < count p → rate_in a ≡ rate_of p s source₀)
      (rate-z : last < count p → rate_in z ≡ rate_of p s last) where
    abbrev followed : Followed
    followed = record {
      limit = limit;
      route = record { hops = hops; count = n; source = a; last = z };
      source = source₀;
      last = last;
    }

    pub route-of : Following text p s back source₀ at left last n hops → left ≤ 1 → RouteOf p s followed back
    route-of f le = go f.links f.end f.spelled f.declared f.many f.whole
      where
        go : (links : List Link) (end : ℕ) → SpellsLinks text at links end → All (λ l. l.signal < count p) links →
            length links ≡ left → back ≡ reverse_aux (map (λ l. l.signal) links) f.ws → RouteOf p s followed back
        go links end (SpellsLinks.ends e) d m w = absurd (omega (arith, f.some))
        go links end (SpellsLinks.link e lf (SpellsLinks.ends g)) d m w =
            record {
              ws = f.ws;
              whole = w ∙ ap (λ x. x ∷ f.ws) f.here;
              few = omega (arith, f.room, f.some);
              over =
                  record {
                    hops-are = f.along.hops-are;
                    many = reads-length p last f.ws ∙ f.along.many;
                    last-is = rate-z (subst (λ x. x < count p) f.here d.0);
                    source_is = rate-a f.first ∙ ap (rate_of p s) (sym f.along.ends);
                  };
              ends = f.along.ends;
            }
        go links end (SpellsLinks.link e lf (SpellsLinks.link g lg r)) d m w = absurd (omega arith)

-- The first link of a chain.
pub record Begun (text : List ℕ) (tables : Tables) (p : Program) (s : Schedule) (chain : ℕ) : Type 0 where
  pub inside : get_or tables.starts chain 0 + 6 ≤ length text
  pub start : (hops : List Hop) → length hops ≡ 15 →
      let at : ℕ = get_or tables.starts chain 0 + 4 in
      Following text p s (backwards (chain_at p chain)) (byte_at text (at + 1)) at (get_or tables.lengths chain 0)
      (byte_at text (at + 1)) 0 hops

pub begun : (text reads : List ℕ) (tables : Tables) (periods phases : List ℕ) (p : Program) (s : Schedule) (chain : ℕ) →
    ChainsLinked text reads tables periods phases p s → chain < tables.chains → Begun text tables p s chain
unfolding reads_back source
begun text reads tables periods phases p s chain j lt =
    let l : chain < length p.chains = omega (arith, j.known.stands.tables-are.counts.chains-are) in
    let c = all-at (SpellsChain text) p.chains no_chain (stands text p j.known.stands.declares).1.chains chain l in
    let d = all-at (λ c. All (λ l. l.signal < count p) c.links) p.chains no_chain (links-declared p j.rated) chain l in
    let k = all-at (λ c. is_linked p c.links ≡ true) p.chains no_chain (chains-linked p j.links) chain l in
    let g = go (chain_at p chain).place (chain_at p chain).links c.end c.links c.several d in
    record {
      inside = rw (j.known.stands.tables-are.starts chain l) g.0;
      start = λ hops space.
          rw (j.known.stands.tables-are.starts chain l, j.known.stands.tables-are.lengths chain l)
          record {
            ws = [];
            links = (chain_at p chain).links;
            end = c.end;
            spelled = c.links;
            many = refl;
            some = omega (arith, c.several);
            here = refl;
            linked = k;
            declared = d;
            whole = refl;
            along = record { hops-are = tt; many = refl; ends = refl };
            first = g.1;
            space = space;
            room = omega (arith, c.few);
          };
    }
  where
    go : (at : ℕ) (links : List Link) (end : ℕ) → SpellsLinks text (at + 4) links end → 2 ≤ length links →
        All (λ l. l.signal < count p) links → (at + 6 ≤ length text) × (byte_at text (at + 4 + 1) < count p)
    go at links end (SpellsLinks.ends e) h d = absurd (omega arith)
    go at links end (SpellsLinks.link e le r) h d = (omega arith, d.0)

-- Where the command of a chain stands.
pub chain-command : (text reads : List ℕ) (tables : Tables) (periods phases : List ℕ) (p : Program) (s : Schedule) (chain : ℕ) →
    Known text reads tables periods phases p s → chain < tables.chains →
    declaration_at text (get_or tables.starts chain 0) ≡ Latency (chain_at p chain).mode (chain_at p chain).bound
chain-command text reads tables periods phases p s chain k lt =
    let l : chain < length p.chains = omega (arith, k.stands.tables-are.counts.chains-are) in
    rw (k.stands.tables-are.starts chain l)
    (all-at (SpellsChain text) p.chains no_chain (stands text p k.stands.declares).1.chains chain l).command
