-- Tables of the phases that are left to each signal: from its low up to its high, which is none of them.
use Rattle.std.specs.Prelude.{ℕ, ◌≤◌, ◌<◌, List, ◌↔◌, ◌≡◌, length, get_or}
use Rattle.model.specs.Rules.Program.{Program, count, signal_at}
use Rattle.model.specs.Rules.Schedule.{Schedule, phase_of}
use Rattle.model.specs.Says.Feasible.{Between, Feasible}
use Rattle.text_program.specs.Tables.{PeriodsOf, SlotsOf, Indexes}
use Rattle.check_latency.specs.declared.Leeway.{Leeway}
use Rattle.read_rule.specs.declared.Phases.{Phases}

-- Phase f is left to signal x.
abbrev pub IsLeft : List ℕ → List ℕ → ℕ → ℕ → Type 0
IsLeft lows highs x f = Between (get_or lows x 0) f (get_or highs x 0)

-- Both tables have an entry for each of 64 signals.
abbrev pub Long : List ℕ → List ℕ → Type 0
Long lows highs = (length lows ≡ 64) × (length highs ≡ 64)

-- Of the phases of signal x those are left that lie in another range too.
pub record NarrowedAt (x : ℕ) (o : Phases) (lows highs lows' highs' : List ℕ) : Type 0 where
  pub long : Long lows' highs'
  pub left : (y f : ℕ) → IsLeft lows' highs' y f ↔ (IsLeft lows highs y f × (y ≡ x → Between o.low f o.high))

-- Of the phases of each signal of p those are left for which C holds.
pub record Narrowed (p : Program) (C : ℕ → ℕ → Type 0) (lows highs lows' highs' : List ℕ) : Type 0 where
  pub long : Long lows' highs'
  pub inside : (x f : ℕ) → IsLeft lows' highs' x f → IsLeft lows highs x f
  pub left : (x f : ℕ) → x < count p → f < (signal_at p x).period → IsLeft lows' highs' x f ↔ (IsLeft lows highs x f × C x f)

-- The tables of periods, phases and ranks are those of p and s, whose reads are met.
pub record MetTables (periods phases ranks : List ℕ) (p : Program) (s : Schedule) : Type 0 where
  pub periods-are : PeriodsOf p periods
  pub order : List ℕ
  pub slots-are : SlotsOf p s order phases ranks
  pub feasible : Feasible p s
  pub short : (x : ℕ) → x < count p → (signal_at p x).period ≤ 240
  pub few : count p ≤ 64

-- The text declares p, whose reads the tables have, and so have those of s, which meets them.
pub record ReadingOf (text reads firsts periods phases ranks : List ℕ) (p : Program) (s : Schedule) : Type 0 where
  pub indexes : Indexes text reads firsts (count p) p
  pub tabled : MetTables periods phases ranks p s

-- There are such a program and a schedule.
pub record Reading (text reads firsts periods phases ranks : List ℕ) : Type 0 where
  pub program : Program
  pub schedule : Schedule
  pub reading : ReadingOf text reads firsts periods phases ranks program schedule

-- What holds of all of them.
abbrev pub Claim : (text reads firsts periods phases ranks : List ℕ) → (Program → Schedule → Type 0) → Type 0
Claim text reads firsts periods phases ranks C =
    (p : Program) (s : Schedule) → ReadingOf text reads firsts periods phases ranks p s → C p s

-- The numbers of a chain that keeps its limit are small.
pub record Slack (r : Leeway) : Type 0 where
  pub last-small : r.last < 64
  pub source-small : r.source < 64
  pub bound-small : r.bound < 65536
  pub kept : r.least ≤ r.bound

-- The table has the phases of its first and last link; periods are short.
pub record LinksPhased (p : Program) (s : Schedule) (phases : List ℕ) (r : Leeway) : Type 0 where
  pub last-is : get_or phases r.last 0 ≡ phase_of s r.last
  pub source_is : get_or phases r.source 0 ≡ phase_of s r.source
  pub last_byte : phase_of s r.last ≤ 256
  pub source_byte : phase_of s r.source ≤ 256
  pub short : (x : ℕ) → x < count p → (signal_at p x).period ≤ 240
