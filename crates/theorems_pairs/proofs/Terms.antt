-- The terms that the conditions are written in are what the paper says of them. Assumes nothing.
use Rattle.std.specs.Prelude.{Option, Some, None}
use Prim.Native.Nat.{ℕ, zero, suc, ◌+◌, ◌*◌, ◌-◌, ◌/◌, ◌%◌, ◌≤◌, ◌<◌}
use mathlib.Core.Bool.{Bool, true, false, cond}
use mathlib.Core.List.{List, [], ◌∷◌, map, reverse_aux}
use mathlib.Core.Logic.{◌↔◌}
use mathlib.Core.Path.{◌≡◌, refl, sym, ap, subst, ◌∙◌}
use native.Mathlib.Nat.{div-eq_of_lt-le, div-add-mod', mod-lt}
use native.Mathlib.Omega.{arith}
use borrow.Author.Tests.{eqb-true, eqb-false, eq-eqb, ne_eqb}
use lib.Dec.{eqb}
use lib.ListN.{length, get_or, length-map}
use Rattle.model.specs.Rules.Latency.{
  no_read,
  read_among,
  reads_back,
  backwards,
  onward,
  used,
  back,
  source,
  latency_of,
  latency_from,
  run_latency,
}
use Rattle.model.specs.Rules.Load.{load}
use Rattle.model.specs.Rules.Program.{Program, Read, Chain, Link, Body, input, equation, count, signal_at, body_reads, weight_of}
use Rattle.model.specs.Rules.Rates.{count_reads}
use Rattle.model.specs.Rules.Reads.{rate_of, run_cycle, uses, due, rank, settled}
use Rattle.model.specs.Rules.Schedule.{Schedule, Put, phase_of, put_phase, schedule_of}
use Rattle.model.specs.Rules.Search.{table_from, table, sum}
use Rattle.model.specs.Says.Feasible.{All, PutBefore, SettlesAt, Met, Ordered, Feasible}
use Rattle.model.specs.declared.Kind.{Kind}
use Rattle.model.specs.declared.Kind.TheVariants.{Now, Last, When, LastWhen, Current}
use Rattle.model.specs.declared.Mode.{Mode}
use Rattle.model.specs.declared.Mode.TheVariants.{Exists, Backward}
use Rattle.theorems_pairs.specs.Conditions.{◌among◌, ReadIn, link_signals, put_at, PutsLegal, LegalPlaces, KeepsTime}
use Rattle.theorems_pairs.specs.Latency.{Timely}
use Rattle.theorems_pairs.specs.Terms.{
  OneReadOf,
  SaysSchedule,
  StandsBefore,
  Weight,
  Weighs,
  UsesElement,
  Reaches,
  WayBack,
  CountedRun,
  InTime,
  TermsAre,
  LatencyIs,
}
use Rattle.model.proofs.Basics.Outcomes.{table-length, table_at}
use Rattle.model.proofs.Pairs.Decide.{rank-at, settles-once, met-settled}
use Rattle.model.proofs.Pairs.Links.{
  LinkedBack,
  read_of,
  linked-backwards,
  declared-backwards,
  chain-met,
  latency-adds,
}
use Rattle.model.proofs.Pairs.Rate.{due-run, run-due}
use Rattle.model.proofs.Texts.Commands.{operator-sound}
use Rattle.model.proofs.Texts.Legal.{legal}
use Rattle.theorems_pairs.proofs.Faults.{among-at, among-all, all_among}
use Rattle.theorems_pairs.proofs.Judged.{read-spelled, linked-decides}
use Rattle.theorems_pairs.proofs.JudgedRuns.{ordered, places-accepted}
use Rattle.theorems_pairs.proofs.Latency.{last-link}
use Rattle.model.proofs.Texts.Parses.{with-legal}

-- Exactly one read.
no_reads : (w : ℕ) (ρs : List Read) →
    (count_reads w ρs ≡ 0) ↔ ((j : ℕ) → j < length ρs → ¬ ((get_or ρs j no_read).operands.signal ≡ w))
unfolding count_reads
no_reads w [] = (λ e j lt. omega arith, λ h. refl)
no_reads w (ρ ∷ ρs) = go (eqb ρ.operands.signal w) refl (no_reads w ρs)
  where
    go : (b : Bool) → eqb ρ.operands.signal w ≡ b →
        (count_reads w ρs ≡ 0) ↔ ((j : ℕ) → j < length ρs → ¬ ((get_or ρs j no_read).operands.signal ≡ w)) →
        (cond b 1 0 + count_reads w ρs ≡ 0) ↔
        ((j : ℕ) → j < suc (length ρs) → ¬ ((get_or (ρ ∷ ρs) j no_read).operands.signal ≡ w))
    go true e ih = (λ z. absurd (omega arith), λ h. absurd (h 0 (omega arith) (eqb-true _ _ e)))
    go false e ih = (none, λ h. let z = ih.1 (λ j lt. h (suc j) (omega arith)) in omega arith)
      where
        none : 0 + count_reads w ρs ≡ 0 → (j : ℕ) → j < suc (length ρs) → ¬ ((get_or (ρ ∷ ρs) j no_read).operands.signal ≡ w)
        none z zero lt = eqb-false _ _ e
        none z (suc j) lt = ih.0 (omega arith) j (omega arith)

pub one-read : (w : ℕ) (ρs : List Read) → (count_reads w ρs ≡ 1) ↔ OneReadOf w ρs
unfolding count_reads
one-read w [] = (λ e. absurd (omega arith), λ o. absurd (omega (arith, o.inside)))
one-read w (ρ ∷ ρs) = go (eqb ρ.operands.signal w) refl (one-read w ρs)
  where
    go : (b : Bool) → eqb ρ.operands.signal w ≡ b → (count_reads w ρs ≡ 1) ↔ OneReadOf w ρs →
        (cond b 1 0 + count_reads w ρs ≡ 1) ↔ OneReadOf w (ρ ∷ ρs)
    go true e ih = (λ z. record { at = 0; inside = omega arith; is = eqb-true _ _ e; only = first z }, once)
      where
        first : 1 + count_reads w ρs ≡ 1 → (j : ℕ) → j < suc (length ρs) → (get_or (ρ ∷ ρs) j no_read).operands.signal ≡ w → j ≡ 0
        first z zero lt is = refl
        first z (suc j) lt is = absurd ((no_reads w ρs).0 (omega arith) j (omega arith) is)

        once : OneReadOf w (ρ ∷ ρs) → 1 + count_reads w ρs ≡ 1
        once o =
            let here : 0 ≡ o.at = o.only 0 (omega arith) (eqb-true _ _ e) in
            let none = (no_reads w ρs).1 (λ j lt is.
            let there : suc j ≡ o.at = o.only (suc j) (omega arith) is in omega arith) in
            omega arith
    go false e ih = (λ z. next (ih.0 (omega arith)), λ o. let r = ih.1 (rest o) in omega arith)
      where
        next : OneReadOf w ρs → OneReadOf w (ρ ∷ ρs)
        next o = record { at = suc o.at; inside = omega (arith, o.inside); is = o.is; only = only o }
          where
            only : OneReadOf w ρs → (j : ℕ) → j < suc (length ρs) → (get_or (ρ ∷ ρs) j no_read).operands.signal ≡ w →
                j ≡ suc o.at
            only u zero lt is = absurd (eqb-false _ _ e is)
            only u (suc j) lt is = ap suc (o.only j (omega arith) is)

        rest : OneReadOf w (ρ ∷ ρs) → OneReadOf w ρs
        rest o = at o.at o.inside o.is o.only
          where
            at : (k : ℕ) → k < suc (length ρs) → (get_or (ρ ∷ ρs) k no_read).operands.signal ≡ w →
                ((j : ℕ) → j < suc (length ρs) → (get_or (ρ ∷ ρs) j no_read).operands.signal ≡ w → j ≡ k) → OneReadOf w ρs
            at zero lt is only = absurd (eqb-false _ _ e is)
            at (suc k) lt is only =
                record {
                  at = k;
                  inside = omega arith;
                  is = is;
                  only = λ j l i. let same = only (suc j) (omega arith) i in omega arith;
                }

-- Put before.
pub stands-before : (p : Program) (s : Schedule) → Ordered p s → (w r : ℕ) → w < count p → r < count p →
    PutBefore s w r ↔ StandsBefore s.order w r
stands-before p s o w r lw lr = (
  λ lt. record {
    first = rank s.order w;
    second = rank s.order r;
    before = lt;
    inside = o.put r lr;
    is = rank-at s.order w (o.put w lw);
    other = rank-at s.order r (o.put r lr);
  },
  λ b.
      let here : rank s.order w ≡ b.first =
      ap (rank s.order) (sym b.is) ∙ o.once b.first (omega (arith, b.before, b.inside)) in
      let there : rank s.order r ≡ b.second = ap (rank s.order) (sym b.other) ∙ o.once b.second b.inside in
      omega (arith, b.before),
)

-- The load of a cycle.
weight_is : (b : Body) → Weight b (weight_of b)
weight_is input = Weight.nothing
weight_is (equation w e) = Weight.stated

is-weight : {b : Body} {w : ℕ} → Weight b w → w ≡ weight_of b
is-weight Weight.nothing = refl
is-weight Weight.stated = refl

module _ (p : Program) (s : Schedule) (phases : (x : ℕ) → x < count p → phase_of s x < (signal_at p x).period) (c : ℕ) where
  abbrev weighed : ℕ → ℕ
  weighed x = cond (due (rate_of p s x) c) (weight_of (signal_at p x).body) 0

  weighs : (x n : ℕ) → x + n ≤ count p → Weighs p s c x n (sum (table_from x n weighed))
  unfolding table_from sum
  weighs x zero le = Weighs.none
  weighs x (suc n) le = go (due (rate_of p s x) c) refl (weighs (suc x) n (omega arith))
    where
      go : (b : Bool) → due (rate_of p s x) c ≡ b → Weighs p s c (suc x) n (sum (table_from (suc x) n weighed)) →
          Weighs p s c x (suc n) (cond b (weight_of (signal_at p x).body) 0 + sum (table_from (suc x) n weighed))
      go true e h = Weighs.runs (c / (signal_at p x).period, sym (due-run (rate_of p s x) c e)) (weight_is _) h
      go false e h =
          let n' = sum (table_from (suc x) n weighed) in
          let z : n' ≡ 0 + n' = omega arith in
          subst (Weighs p s c x (suc n)) z
          (Weighs.idles (λ r. run-due (rate_of p s x) c (phases x (omega arith)) e r.0 (sym r.1)) h)

  weighs-once : {x n a b : ℕ} → Weighs p s c x n a → Weighs p s c x n b → a ≡ b
  weighs-once Weighs.none Weighs.none = refl
  weighs-once (Weighs.runs r w h) (Weighs.runs q v g) =
      let one = weighs-once h g in let i = is-weight w in let j = is-weight v in omega arith
  weighs-once (Weighs.runs r w h) (Weighs.idles q g) = absurd (q r)
  weighs-once (Weighs.idles q h) (Weighs.runs r v g) = absurd (q r)
  weighs-once (Weighs.idles q h) (Weighs.idles r g) = weighs-once h g

  pub load-weighs : (n : ℕ) → (n ≡ load p s c) ↔ Weighs p s c 0 (count p) n
  unfolding load table
  load-weighs n =
      let w = weighs 0 (count p) (omega arith) in
      (λ e. rw e w, λ h. weighs-once h w)

-- What the PUTs say.
put-phase : (puts : List Put) (j : ℕ) → j < length puts →
    ((i : ℕ) → i < j → ¬ ((put_at puts i).signal ≡ (put_at puts j).signal)) → put_phase puts (put_at puts j).signal ≡
    (put_at puts j).phase
unfolding put_phase
put-phase [] j lt fresh = absurd (omega arith)
put-phase (q ∷ qs) zero lt fresh = rw (eq-eqb q.signal q.signal refl)
put-phase (q ∷ qs) (suc j) lt fresh =
    rw (ne_eqb q.signal (put_at qs j).signal (fresh 0 (omega arith)))
    (put-phase qs j (omega arith) (λ i l. fresh (suc i) (omega arith)))

map_at : (puts : List Put) (j : ℕ) → j < length puts → get_or (map (λ q. q.signal) puts) j 0 ≡ (put_at puts j).signal
map_at [] j lt = absurd (omega arith)
map_at (q ∷ qs) zero lt = refl
map_at (q ∷ qs) (suc j) lt = map_at qs j (omega arith)

pub says-schedule : (p : Program) (puts : List Put) → PutsLegal p puts → SaysSchedule p puts (schedule_of p puts)
unfolding schedule_of
says-schedule p puts l =
    record {
      as_many = length-map puts (λ q. q.signal);
      order = map_at puts;
      signals = table-length (count p) (put_phase puts);
      phases = λ j lt.
          table_at (count p) (put_phase puts) (put_at puts j).signal 0 (l.declared j lt) ∙ put-phase puts j lt (l.once j lt);
    }

-- The element that a read uses.
uses-element : (kind : Kind) (n i k j : ℕ) → i < n → (uses kind n i k ≡ suc j) ↔ UsesElement kind n i k j
uses-element Now n i k j lt = (λ e. omega arith, λ e. omega arith)
uses-element Last n i k j lt = (λ e. omega arith, λ e. omega arith)
uses-element When n i k j lt = (λ e. omega arith, λ e. omega arith)
uses-element LastWhen n i k j lt = (λ e. omega arith, λ e. omega arith)
uses-element Current n i k j lt = (
  λ e. (omega (arith, whole, ap (n *◌) e), omega (arith, whole, small, ap (n *◌) e)),
  λ h. floor (k + n - i) (omega (arith, h.0)) (omega (arith, h.1)),
)
  where
    small : (k + n - i) % n < n
    small = mod-lt (k + n - i) (omega arith)

    whole : (k + n - i) / n * n + (k + n - i) % n ≡ k + n - i
    whole = div-add-mod' (k + n - i) n

    floor : (x : ℕ) → n * suc j ≤ x → x < n * suc (suc j) → x / n ≡ suc j
    floor x low high = div-eq_of_lt-le {k = suc j} n {m = x} (omega arith) (omega arith)

-- The one read of a signal among reads.
the-read : (w : ℕ) (ρs : List Read) → count_reads w ρs ≡ 1 → (ρ : Read) → ρ among ρs → ρ.operands.signal ≡ w → ρ ≡ read_among w ρs
unfolding count_reads read_among
the-read w [] e ρ m is = absurd (omega arith)
the-read w (σ ∷ ρs) e ρ m is = go (eqb σ.operands.signal w) refl e m (λ f n. the-read w ρs f ρ n is)
  where
    go : (b : Bool) → eqb σ.operands.signal w ≡ b → cond b 1 0 + count_reads w ρs ≡ 1 → ρ among (σ ∷ ρs) →
        (count_reads w ρs ≡ 1 → ρ among ρs → ρ ≡ read_among w ρs) → ρ ≡ cond b σ (read_among w ρs)
    go true q f (◌among◌.here same) ih = same
    go true q f (◌among◌.later n) ih =
        let a = among-at ρ ρs no_read n in
        absurd ((no_reads w ρs).0 (omega arith) a.0 a.1 (ap (λ x. x.operands.signal) a.2 ∙ is))
    go false q f (◌among◌.here same) ih = absurd (eqb-false _ _ q (ap (λ x. x.operands.signal) (sym same) ∙ is))
    go false q f (◌among◌.later n) ih = ih (omega arith) n

-- The way back, from the last link on.
data Returns (p : Program) (s : Schedule) : List ℕ → ℕ → ℕ → ℕ → ℕ → Type 0 where
  one : {r k : ℕ} → Returns p s (r ∷ []) r k r k
  more : {a m r k w j : ℕ} {ws : List ℕ} → Reaches p s r k w j → Returns p s (w ∷ ws) a m w j →
      Returns p s (r ∷ (w ∷ ws)) a m r k

module _ (p : Program) (s : Schedule) where
  to-way : (ls past : List ℕ) (x : ℕ) {a m r k : ℕ} → Returns p s (reverse_aux ls (x ∷ past)) a m r k →
      (j : ℕ) × Returns p s (x ∷ past) a m x j × WayBack p s (x ∷ ls) x j r k
  to-way [] past x {k = k} Returns.one = (k, Returns.one, WayBack.one)
  to-way [] past x {k = k} (Returns.more h r) = (k, Returns.more h r, WayBack.one)
  to-way (y ∷ ls) past x back = go (to-way ls (x ∷ past) y back)
    where
      go : {a m z r k : ℕ} → (j : ℕ) × Returns p s (y ∷ (x ∷ past)) a m z j × WayBack p s (y ∷ ls) z j r k →
          (j : ℕ) × Returns p s (x ∷ past) a m x j × WayBack p s (x ∷ (y ∷ ls)) x j r k
      go (j, Returns.more {j = i} h rest, way) = (i, rest, WayBack.more h way)

  of-way : (ls past : List ℕ) (x : ℕ) {a m z j r k : ℕ} → Returns p s (x ∷ past) a m z j → WayBack p s (x ∷ ls) z j r k →
      Returns p s (reverse_aux ls (x ∷ past)) a m r k
  of-way [] past x back WayBack.one = back
  of-way (y ∷ ls) past x back (WayBack.more h way) = of-way ls (x ∷ past) y (Returns.more h back) way

  way-first : {x j r k a : ℕ} {ls : List ℕ} → WayBack p s (x ∷ ls) a j r k → a ≡ x
  way-first WayBack.one = refl
  way-first (WayBack.more h way) = refl

-- Of a program and a schedule that keep 1 to 13.
module _ (program schedule : List ℕ) (p : Program) (h : ℕ) (s : Schedule) (c : LegalPlaces program schedule p h s) where
  pub terms-are : TermsAre p c.puts.value s
  terms-are =
      record {
        reads = λ w r. one-read w (body_reads (signal_at p r).body);
        schedule = rw c.placed.schedule (says-schedule p c.puts.value c.placed.legal);
        before = stands-before p s (ordered program schedule p h s c);
        loads = λ n. load-weighs p s (ordered program schedule p h s c).phases n;
      }

  -- And every read met.
  module _ (meets : (r : ℕ) (ρ : Read) → ReadIn p r ρ → Met p s r ρ) where
    accepts : Feasible p s
    accepts = places-accepted program schedule p h s c meets

    settles : (r : ℕ) (ρ : Read) → ReadIn p r ρ → (i : ℕ) →
        SettlesAt ρ.kind (rate_of p s ρ.operands.signal) (rate_of p s r) ρ.operands.factor ρ.operands.index i ↔
        (i ≡ settled p s r ρ)
    unfolding settled
    settles r ρ within i =
        let met = meets r ρ within in
        settles-once ρ.kind (rate_of p s ρ.operands.signal) (rate_of p s r) ρ.operands.factor ρ.operands.index
        (operator-sound program ρ.place _ (read-spelled program p c.rates.legal r ρ within)).2 met.periods
        met.line i

    -- One link back.
    module _ (r w : ℕ) (lt : r < count p) (once : count_reads w (body_reads (signal_at p r).body) ≡ 1) where
      abbrev ρ : Read
      ρ = read_among w (body_reads (signal_at p r).body)

      found : (ρ among body_reads (signal_at p r).body) × (ρ.operands.signal ≡ w)
      found =
          let ρs = body_reads (signal_at p r).body in
          read_of (λ x. x among ρs) w ρs (among-all (λ x. x among ρs) ρs (λ x i. i)) (omega arith)

      index_below : settled p s r ρ < ρ.operands.factor
      index_below = (met-settled p s r ρ (meets r ρ (lt, found.0))).0

      hop : (k j : ℕ) → (used p s r k ρ ≡ suc j) ↔ Reaches p s r k w j
      unfolding used
      hop k j = (
        λ e. record {
          read = ρ;
          within = (lt, found.0);
          of = found.1;
          index = settled p s r ρ;
          settles =
              subst
              (λ v. SettlesAt ρ.kind (rate_of p s v) (rate_of p s r) ρ.operands.factor ρ.operands.index
              (settled p s r ρ))
              found.1 ((settles r ρ (lt, found.0) (settled p s r ρ)).1 refl);
          uses = (uses-element ρ.kind ρ.operands.factor (settled p s r ρ) k j index_below).0 e;
        },
        λ o. used-by o.read (the_one o.read o.within o.of) o.within o.of o.index o.settles o.uses,
      )
        where
          the_one : (σ : Read) → ReadIn p r σ → σ.operands.signal ≡ w → σ ≡ ρ
          the_one σ i of = the-read w (body_reads (signal_at p r).body) once σ i.1 of

          used-by : (σ : Read) → σ ≡ ρ → ReadIn p r σ → σ.operands.signal ≡ w → (i : ℕ) →
              SettlesAt σ.kind (rate_of p s w) (rate_of p s r) σ.operands.factor σ.operands.index i →
              UsesElement σ.kind σ.operands.factor i k j → used p s r k ρ ≡ suc j
          used-by σ same i of x at u =
              let is : x ≡ settled p s r σ =
              (settles r σ i x).0
              (subst (λ v. SettlesAt σ.kind (rate_of p s v) (rate_of p s r) σ.operands.factor σ.operands.index x)
              (sym of) at) in
              subst (λ τ. uses τ.kind τ.operands.factor (settled p s r τ) k ≡ suc j) same
              ((uses-element σ.kind σ.operands.factor (settled p s r σ) k j
              (met-settled p s r σ (meets r σ i)).0).1 (subst (λ y. UsesElement σ.kind σ.operands.factor y k j) is u))

    -- All the way back.
    returns : (ws : List ℕ) (r k m : ℕ) → All (λ w. w < count p) (r ∷ ws) → LinkedBack p (r ∷ ws) →
        back p s r k (reads_back p r ws) ≡ Some m → Returns p s (r ∷ ws) (source p s r (reads_back p r ws)) m r k
    unfolding back source reads_back
    returns [] r k m d l e = let q : k ≡ m = cc in rw q Returns.one
    returns (w ∷ ws) r k m d l e =
        let of = (found r w d.0 l.0).1 in
        let u = used p s r k (ρ r w d.0 l.0) in
        subst (λ v. Returns p s (r ∷ (w ∷ ws)) (source p s v (reads_back p w ws)) m r k) (sym of)
        (go u refl (subst (λ v. onward (λ j. back p s v j (reads_back p w ws)) u ≡ Some m) of e)
        (λ j. returns ws w j m d.1 l.1))
      where
        ρs : List Read
        ρs = reads_back p w ws

        go : (u : ℕ) → used p s r k (ρ r w d.0 l.0) ≡ u → onward (λ j. back p s w j ρs) u ≡ Some m →
            ((j : ℕ) → back p s w j ρs ≡ Some m → Returns p s (w ∷ ws) (source p s w ρs) m w j) →
            Returns p s (r ∷ (w ∷ ws)) (source p s w ρs) m r k
        go zero q f ih = let z : ◌≡◌ {A = ℕ} 0 1 = cc in absurd (omega arith)
        go (suc j) q f ih = Returns.more ((hop r w d.0 l.0 k j).0 q) (ih j f)

    returned : {y z m k : ℕ} (ws : List ℕ) (r : ℕ) → All (λ w. w < count p) (r ∷ ws) → LinkedBack p (r ∷ ws) →
        Returns p s (r ∷ ws) y m z k →
        (z ≡ r) × (y ≡ source p s r (reads_back p r ws)) × (back p s r k (reads_back p r ws) ≡ Some m)
    unfolding back source reads_back
    returned [] r d l Returns.one = (refl, refl, refl)
    returned {y} {m = m} {k = k} (w ∷ ws) r d l (Returns.more {j = j} h t) =
        let u = returned ws w d.1 l.1 t in
        let uses : used p s r k (ρ r w d.0 l.0) ≡ suc j = (hop r w d.0 l.0 k j).1 h in
        let of = sym (found r w d.0 l.0).1 in (
          refl,
          subst (λ v. y ≡ source p s v (reads_back p w ws)) of u.1,
          ap (onward (λ i. back p s (ρ r w d.0 l.0).operands.signal i (reads_back p w ws))) uses ∙
              subst (λ v. back p s v j (reads_back p w ws) ≡ Some m) of u.2,
        )

    -- The latency of a run of a chain.
    module _ (a : Chain) (one : a among p.chains) where
      linked : LinkedBack p (backwards a)
      linked = linked-backwards p a ((linked-decides p a).1 (c.rates.linked a one))

      declared : All (λ w. w < count p) (backwards a)
      declared =
          declared-backwards p a (among-all (λ l. l.signal < count p) a.links (λ l j. c.rates.rated.links l (a, one, j)))

      some-link : 1 ≤ length a.links
      some-link =
          let parses = (with-legal _ program p).1 c.rates.legal in
          omega (arith, (all_among _ _ (legal program p parses).1.chains a one).several)

      first-link : (x : ℕ) × (xs : List ℕ) × (link_signals a ≡ x ∷ xs)
      first-link = go a.links some-link
        where
          go : (ls : List Link) → 1 ≤ length ls → (x : ℕ) × (xs : List ℕ) × (map (λ l. l.signal) ls ≡ x ∷ xs)
          go [] le = absurd (omega arith)
          go (l ∷ ls) le = (l.signal, map (λ l. l.signal) ls, refl)

      -- The way back over the links is the one from the last link on.
      way_back : {x m r k : ℕ} → WayBack p s (link_signals a) x m r k ↔ Returns p s (backwards a) x m r k
      way_back {x} {m} {r} {k} =
          let f = first-link in
          let y = f.0 in
          let ys = f.1 in
          let list : link_signals a ≡ y ∷ ys = f.2 in
          rw list (forth y ys, back-again y ys)
        where
          forth : (y : ℕ) (ys : List ℕ) → WayBack p s (y ∷ ys) x m r k → Returns p s (reverse_aux ys (y ∷ [])) x m r k
          forth y ys way =
              let same = way-first p s way in
              rw same (of-way p s ys [] y Returns.one (rw same at way))

          back-again : (y : ℕ) (ys : List ℕ) → Returns p s (reverse_aux ys (y ∷ [])) x m r k → WayBack p s (y ∷ ys) x m r k
          back-again y ys t = let w = to-way p s ys [] y t in go w.1 w.2
            where
              go : {u n z j : ℕ} → Returns p s (y ∷ []) u n z j → WayBack p s (y ∷ ys) z j r k → WayBack p s (y ∷ ys) u n r k
              go Returns.one way = way

      module _ (r : ℕ) (ws : List ℕ) (from : backwards a ≡ r ∷ ws) where
        abbrev ρs : List Read
        ρs = reads_back p r ws

        abbrev x : ℕ
        x = source p s r ρs

        all-declared : All (λ w. w < count p) (r ∷ ws)
        all-declared = subst (All (λ w. w < count p)) from declared

        all-linked : LinkedBack p (r ∷ ws)
        all-linked = subst (LinkedBack p) from linked

        adds : (k m : ℕ) → back p s r k ρs ≡ Some m →
            latency_of (rate_of p s r) k (rate_of p s x) m + run_cycle (rate_of p s x) m ≡ run_cycle (rate_of p s r) k + 1
        adds = latency-adds p s accepts r ρs all-declared.0 (chain-met p s accepts ws r all-declared all-linked)

        -- A run counts with this latency exactly if the definition says so.
        counts-exactly : (k l : ℕ) → (run_latency p s r ρs k ≡ Some l) ↔ CountedRun p s a k l
        unfolding run_latency
        counts-exactly k l = (λ e. counted (back p s r k ρs) refl e, runs)
          where
            counted : (f : Option ℕ) → back p s r k ρs ≡ f → latency_from p s r k x f ≡ Some l → CountedRun p s a k l
            counted (Some m) e t =
                let same : latency_of (rate_of p s r) k (rate_of p s x) m ≡ l = cc in
                record {
                  first = x;
                  last = r;
                  m = m;
                  way = way_back.1 (rw from (returns ws r k m all-declared all-linked e));
                  latency = omega (arith, adds k m e);
                }
            counted None e t = let z : ◌≡◌ {A = ℕ} 0 1 = cc in absurd (omega arith)

            runs : CountedRun p s a k l → latency_from p s r k x (back p s r k ρs) ≡ Some l
            runs t =
                let u = returned ws r all-declared all-linked (rw from at (way_back.0 t.way)) in
                let add = adds k t.m u.2 in
                let latency : l + run_cycle (rate_of p s x) t.m ≡ run_cycle (rate_of p s r) k + 1 =
                subst (λ z. l + run_cycle (rate_of p s x) t.m ≡ run_cycle (rate_of p s z) k + 1) u.0
                (subst (λ y. l + run_cycle (rate_of p s y) t.m ≡ run_cycle (rate_of p s t.last) k + 1) u.1 t.latency) in
                let same : latency_of (rate_of p s r) k (rate_of p s x) t.m ≡ l = omega arith in
                rw u.2 (ap Some same)

        timely-exactly : (mode : Mode) → Timely p s mode r ρs a.bound ↔ InTime p s mode a
        timely-exactly Backward = (
          λ t k l n. t k l ((counts-exactly k l).1 n),
          λ t k l e. t k l ((counts-exactly k l).0 e),
        )
        timely-exactly Exists = (
          λ t. (t.0, t.1, (counts-exactly t.0 t.1).0 t.2, t.3),
          λ t. (t.0, t.1, (counts-exactly t.0 t.1).1 t.2, t.3),
        )

      pub keeps-time : KeepsTime p s a ↔ InTime p s a.mode a
      keeps-time =
          let l = last-link a.links some-link in
          let from : backwards a ≡ l.0 ∷ l.1 = l.2 in
          rw from (timely-exactly l.0 l.1 from a.mode)

    -- The latency of every chain is the one that the paper's way back gives.
    pub latency-is : LatencyIs p s
    latency-is a i = keeps-time a i
