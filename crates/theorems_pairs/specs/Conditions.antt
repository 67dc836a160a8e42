-- The conditions under which a program and a schedule are accepted, as statements in the paper's words. Nothing here computes:
-- that the verdict is these conditions is the theorem `accepted-exactly`.
use Rattle.std.specs.Prelude.{ℕ, suc, ◌≤◌, ◌<◌, List, [], ◌∷◌, map, ◌≡◌, length, get_or}
use Rattle.model.specs.Says.Feasible.{PeriodRule, Met, Least}
use Rattle.model.specs.Rules.Compile.{Pair}
use Rattle.model.specs.Says.Grammar.{LegalWith, LegalSchedule}
use Rattle.model.specs.Rules.Latency.{reads_back, backwards}
use Rattle.model.specs.Rules.Load.{load}
use Rattle.model.specs.Rules.Outcome.{Parsed}
use Rattle.model.specs.Rules.Program.{
  least_factor,
  Program,
  Read,
  Link,
  Chain,
  Limit,
  unlimited,
  limit,
  count,
  signal_at,
  body_reads,
}
use Rattle.model.specs.Rules.Rates.{count_reads}
use Rattle.model.specs.Rules.Schedule.{Schedule, Put, schedule_of}
use Rattle.model.specs.Says.Rows.{Covers}
use Rattle.theorems_pairs.specs.Latency.{Timely}
use Rattle.theorems_pairs.specs.Subexpression.{LooksUp}

infix 20 ◌among◌
-- x is one of the elements of a list.
pub data ◌among◌ {A : Type 0} (x : A) : List A → Type 0 where
  here : {y : A} {ys : List A} → x ≡ y → x among (y ∷ ys)
  later : {y : A} {ys : List A} → x among ys → x among (y ∷ ys)

-- 1: program 8,192 bytes, schedule 193.
abbrev pub ShortEnough : List ℕ → List ℕ → Type 0
ShortEnough program schedule = (length program ≤ 8192) × (length schedule ≤ 193)

-- A read in the equation of signal r, and a LINK of some chain.
abbrev pub ReadIn : Program → ℕ → Read → Type 0
ReadIn p r ρ = (r < count p) × (ρ among body_reads (signal_at p r).body)

abbrev pub LinkIn : Program → Link → Type 0
LinkIn p l = (c : Chain) × (c among p.chains) × (l among c.links)

-- The period rule of a read in the equation of signal r.
abbrev pub ReadRule : Program → ℕ → Read → Type 0
ReadRule p r ρ =
    PeriodRule ρ.kind (signal_at p ρ.operands.signal).period (signal_at p r).period ρ.operands.factor

-- 7, 8: every read and every LINK is of a declared signal, and every read keeps its period rule.
pub record DeclaredAndRated (p : Program) : Type 0 where
  pub reads : (r : ℕ) (ρ : Read) → ReadIn p r ρ → ρ.operands.signal < count p
  pub links : (l : Link) → LinkIn p l → l.signal < count p
  pub periods : (r : ℕ) (ρ : Read) → ReadIn p r ρ → ReadRule p r ρ

-- The signals of a chain's links.
abbrev pub link_signals : Chain → List ℕ
link_signals c = map (λ l. l.signal) c.links

-- 10: the equation of each link after the first contains exactly one read of the link before.
abbrev pub Linked : Program → Chain → Type 0
Linked p c =
    (j : ℕ) → suc j < length (link_signals c) →
    count_reads (get_or (link_signals c) j 0) (body_reads (signal_at p (get_or (link_signals c) (suc j) 0)).body) ≡ 1

-- A program has a ROW or a TABLE.
pub data HasTable (p : Program) : Type 0 where
  row : 0 < length p.rows → HasTable p
  lookup : (x : ℕ) → x < count p → LooksUp (signal_at p x).body → HasTable p

-- 29, 30: then every word lies in exactly one row.
abbrev pub Tabled : Program → Type 0
Tabled p = HasTable p → Covers p.rows

-- What the program text has to keep: 1 to 10, 29 and 30.
pub record LegalRatesWith (least : ℕ) (program schedule : List ℕ) (p : Program) (h : ℕ) : Type 0 where
  pub short : ShortEnough program schedule
  pub legal : LegalWith least program p
  pub rated : DeclaredAndRated p
  pub hypercycle : Least p h
  pub linked : (c : Chain) → c among p.chains → Linked p c
  pub tabled : Tabled p

abbrev pub LegalRates : List ℕ → List ℕ → Program → ℕ → Type 0
LegalRates program schedule p h = LegalRatesWith least_factor program schedule p h

abbrev pub no_put : Put
no_put = record { place = 0; signal = 0; phase = 0 }

-- PUT j, counted from 0.
abbrev pub put_at : List Put → ℕ → Put
put_at puts j = get_or puts j no_put

-- No PUT before PUT j is of the same signal.
abbrev pub Fresh : List Put → ℕ → Type 0
Fresh puts j = (i : ℕ) → i < j → ¬ ((put_at puts i).signal ≡ (put_at puts j).signal)

abbrev pub PhaseBelow : Program → Put → Type 0
PhaseBelow p q = q.phase < (signal_at p q.signal).period

-- Every PUT is of a declared signal, once per signal, with a phase below its period.
pub record PutsLegal (p : Program) (puts : List Put) : Type 0 where
  pub declared : (j : ℕ) → j < length puts → (put_at puts j).signal < count p
  pub once : (j : ℕ) → j < length puts → Fresh puts j
  pub phases : (j : ℕ) → j < length puts → PhaseBelow p (put_at puts j)

-- Signal x is put.
abbrev pub IsPut : List Put → ℕ → Type 0
IsPut puts x = (j : ℕ) × (j < length puts) × ((put_at puts j).signal ≡ x)

-- 12, 13: every PUT is legal, every signal is put, and the schedule is what the PUTs say.
pub record Placed (p : Program) (puts : List Put) (s : Schedule) : Type 0 where
  pub legal : PutsLegal p puts
  pub all : (x : ℕ) → x < count p → IsPut puts x
  pub schedule : s ≡ schedule_of p puts

-- What the schedule text has to keep besides: 11 to 13.
pub record LegalPlacesWith (least : ℕ) (program schedule : List ℕ) (p : Program) (h : ℕ) (s : Schedule) : Type 0 where
  pub rates : LegalRatesWith least program schedule p h
  pub puts : Parsed (List Put)
  pub legal : LegalSchedule schedule puts
  pub placed : Placed p puts.value s

abbrev pub LegalPlaces : List ℕ → List ℕ → Program → ℕ → Schedule → Type 0
LegalPlaces program schedule p h s = LegalPlacesWith least_factor program schedule p h s

-- A load is over CAP.
abbrev pub Over : Limit → ℕ → Type 0
Over unlimited n = ⊥
Over (limit m) n = m < n

module _ (p : Program) (s : Schedule) where
  abbrev pub TimelyFrom : Chain → List ℕ → Type 0
  TimelyFrom c [] = Unit {0}
  TimelyFrom c (r ∷ ws) = Timely p s c.mode r (reads_back p r ws) c.bound

  -- A chain keeps its latency constraint, over all runs.
  abbrev pub KeepsTime : Chain → Type 0
  KeepsTime c = TimelyFrom c (backwards c)

-- The pair q of program, schedule and hypercycle is what two legal texts say: the conditions above, and 14 to 16: every read
-- is met, over all runs; in no cycle, of all cycles, is the load over CAP; every chain keeps its latency, over all runs.
pub record LegalPairWith (least : ℕ) (program schedule : List ℕ) (q : Pair) : Type 0 where
  pub places : LegalPlacesWith least program schedule q.program q.hypercycle q.schedule
  pub met : (r : ℕ) (ρ : Read) → ReadIn q.program r ρ → Met q.program q.schedule r ρ
  pub loads : (c : ℕ) → ¬ Over q.program.cap (load q.program q.schedule c)
  pub latencies : (c : Chain) → c among q.program.chains → KeepsTime q.program q.schedule c

abbrev pub LegalPair : List ℕ → List ℕ → Pair → Type 0
LegalPair program schedule q = LegalPairWith least_factor program schedule q
