-- The terms that the conditions of a pair are written in, each by what the paper says of it: exactly one read, the phase put for
-- a signal, put before, the summed weight of a cycle, the way back along a chain and its latency.
use Rattle.std.specs.Prelude.{ℕ, suc, ◌+◌, ◌*◌, ◌≤◌, ◌<◌, List, [], ◌∷◌, ◌↔◌, ◌≡◌, length, get_or}
use Rattle.model.specs.Rules.Latency.{no_read}
use Rattle.model.specs.Rules.Load.{load}
use Rattle.model.specs.Rules.Program.{Program, Expr, Read, Chain, Body, input, equation, count, signal_at, body_reads}
use Rattle.model.specs.Rules.Rates.{count_reads}
use Rattle.model.specs.Rules.Reads.{Rate, rate_of}
use Rattle.model.specs.Rules.Schedule.{Schedule, Put, phase_of}
use Rattle.model.specs.Says.Feasible.{PutBefore, SettlesAt}
use Rattle.model.specs.declared.Kind.{Kind}
use Rattle.model.specs.declared.Kind.TheVariants.{Now, Last, When, LastWhen, Current}
use Rattle.model.specs.declared.Mode.{Mode}
use Rattle.model.specs.declared.Mode.TheVariants.{Exists, Backward}
use Rattle.theorems_pairs.specs.Conditions.{◌among◌, ReadIn, link_signals, put_at, KeepsTime}

-- Exactly one of the reads is of w.
pub record OneReadOf (w : ℕ) (ρs : List Read) : Type 0 where
  pub at : ℕ
  pub inside : at < length ρs
  pub is : (get_or ρs at no_read).operands.signal ≡ w
  pub only : (j : ℕ) → j < length ρs → (get_or ρs j no_read).operands.signal ≡ w → j ≡ at

-- The schedule that PUTs say: its order is theirs, and the phase of a signal is the one put for it.
pub record SaysSchedule (p : Program) (puts : List Put) (s : Schedule) : Type 0 where
  pub as_many : length s.order ≡ length puts
  pub order : (j : ℕ) → j < length puts → get_or s.order j 0 ≡ (put_at puts j).signal
  pub signals : length s.phases ≡ count p
  pub phases : (j : ℕ) → j < length puts → phase_of s (put_at puts j).signal ≡ (put_at puts j).phase

-- w stands before r in the PUT order.
pub record StandsBefore (order : List ℕ) (w r : ℕ) : Type 0 where
  pub first : ℕ
  pub second : ℕ
  pub before : first < second
  pub inside : second < length order
  pub is : get_or order first 0 ≡ w
  pub other : get_or order second 0 ≡ r

-- A signal of period P and phase p runs in the cycles kP + p.
abbrev pub RunsIn : Rate → ℕ → Type 0
RunsIn a c = (k : ℕ) × (c ≡ k * a.period + a.phase)

-- The weight of a signal; inputs weigh 0.
pub data Weight : Body → ℕ → Type 0 where
  nothing : Weight input 0
  stated : {w : ℕ} {e : Expr} → Weight (equation w e) w

-- The summed weight of the signals that run in cycle c, of so many signals from x on.
pub data Weighs (p : Program) (s : Schedule) (c : ℕ) : ℕ → ℕ → ℕ → Type 0 where
  none : {x : ℕ} → Weighs p s c x 0 0
  runs : {x signals w n : ℕ} → RunsIn (rate_of p s x) c → Weight (signal_at p x).body w → Weighs p s c (suc x) signals n →
      Weighs p s c x (suc signals) (w + n)
  idles : {x signals n : ℕ} → ¬ RunsIn (rate_of p s x) c → Weighs p s c (suc x) signals n → Weighs p s c x (suc signals) n

-- The reader's element k uses element j, by the kind of the read, n and the index i: for NOW k, for LAST k − 1, for WHEN kn + i,
-- for LASTWHEN kn + i − 1, for CURRENT floor((k − i)/n).
abbrev pub UsesElement : Kind → ℕ → ℕ → ℕ → ℕ → Type 0
UsesElement Now n i k j = j ≡ k
UsesElement Last n i k j = suc j ≡ k
UsesElement When n i k j = j ≡ k * n + i
UsesElement LastWhen n i k j = suc j ≡ k * n + i
UsesElement Current n i k j = (n * j + i ≤ k) × (k < n * suc j + i)

module _ (p : Program) (s : Schedule) where
  -- Element k of r uses element j of w, by a read of w in the equation of r, at its index settled.
  pub record Reaches (r k w j : ℕ) : Type 0 where
    pub read : Read
    pub within : ReadIn p r read
    pub of : read.operands.signal ≡ w
    pub index : ℕ
    pub settles : SettlesAt read.kind (rate_of p s w) (rate_of p s r) read.operands.factor read.operands.index index
    pub uses : UsesElement read.kind read.operands.factor index k j

  -- Over these links, the first of which is a and the last r, one goes back by the reads from element k of r to element m of a,
  -- every element on the way being 0 or more.
  pub data WayBack : List ℕ → ℕ → ℕ → ℕ → ℕ → Type 0 where
    one : {r k : ℕ} → WayBack (r ∷ []) r k r k
    more : {a b m j r k : ℕ} {links : List ℕ} → Reaches b j a m → WayBack (b ∷ links) b j r k →
        WayBack (a ∷ (b ∷ links)) a m r k

  -- Run k of the last link counts, and has latency l: its cycle minus the cycle of m, and 1 more.
  pub record CountedRun (c : Chain) (k l : ℕ) : Type 0 where
    pub first : ℕ
    pub last : ℕ
    pub m : ℕ
    pub way : WayBack (link_signals c) first m last k
    pub latency : l + (m * (rate_of p s first).period + (rate_of p s first).phase) ≡
        k * (rate_of p s last).period + (rate_of p s last).phase + 1

  -- Backward: every counted run is within the bound. Exists: one is.
  abbrev pub InTime : Mode → Chain → Type 0
  InTime Backward c = (k l : ℕ) → CountedRun c k l → l ≤ c.bound
  InTime Exists c = (k l : ℕ) × CountedRun c k l × (l ≤ c.bound)

-- What the terms come to, for a program and a schedule that keep 1 to 13: the load of a cycle, and put before; and where every
-- read is met besides, the latency of a chain.
pub record TermsAre (p : Program) (puts : List Put) (s : Schedule) : Type 0 where
  pub reads : (w r : ℕ) → (count_reads w (body_reads (signal_at p r).body) ≡ 1) ↔ OneReadOf w (body_reads (signal_at p r).body)
  pub schedule : SaysSchedule p puts s
  pub before : (w r : ℕ) → w < count p → r < count p → PutBefore s w r ↔ StandsBefore s.order w r
  pub loads : (c n : ℕ) → (n ≡ load p s c) ↔ Weighs p s c 0 (count p) n

abbrev pub LatencyIs : Program → Schedule → Type 0
LatencyIs p s = (c : Chain) → c among p.chains → KeepsTime p s c ↔ InTime p s c.mode c
