-- What an accepted pair keeps, as statements over all runs. The tests of the other modules decide them.
use Rattle.std.specs.Prelude.{ℕ, zero, suc, ◌+◌, ◌*◌, ◌≤◌, ◌<◌, List, [], ◌∷◌, ◌⊎◌, ◌≡◌, length, get_or}
use Rattle.std.specs.Int.{◌∣◌}
use Rattle.model.specs.Rules.Parts.{Part}
use Rattle.model.specs.Rules.Program.{Program, Read, count, signal_at, body_reads}
use Rattle.model.specs.Rules.Reads.{Rate, rate_of, run_cycle, rank}
use Rattle.model.specs.Rules.Schedule.{Schedule, phase_of}
use Rattle.model.specs.declared.Index.{Index}
use Rattle.model.specs.declared.Index.TheVariants.{Fixed, Open}
use Rattle.model.specs.declared.Kind.{Kind}
use Rattle.model.specs.declared.Kind.TheVariants.{Now, Last, When, LastWhen, Current}

abbrev pub All : {A : Type 0} → (A → Type 0) → List A → Type 0
All Q [] = Unit {0}
All Q (x ∷ xs) = Q x × All Q xs

-- The period rule of a read with factor n.
abbrev pub PeriodRule : Kind → ℕ → ℕ → ℕ → Type 0
PeriodRule Now w r n = r ≡ w
PeriodRule Last w r n = r ≡ w
PeriodRule When w r n = r ≡ n * w
PeriodRule LastWhen w r n = r ≡ n * w
PeriodRule Current w r n = w ≡ n * r

abbrev pub Between : ℕ → ℕ → ℕ → Type 0
Between a x b = (a ≤ x) × (x < b)

-- The line of a read at index i.
abbrev pub Line : Kind → Rate → Rate → ℕ → Type 0
Line Now w r i = w.phase ≤ r.phase
Line Last w r i = r.phase ≤ w.phase
Line When w r i = Between (i * w.period + w.phase) r.phase (suc i * w.period + w.phase)
Line LastWhen w r i = Between r.phase (i * w.period + w.phase) (r.phase + w.period)
Line Current w r i = Between w.phase (i * r.period + r.phase) (w.phase + r.period)

-- The line of a read with factor n holds: with a fixed index at i; with an open one if some i from 0 to n − 1 meets its line.
abbrev pub LineHolds : Kind → Rate → Rate → ℕ → Index → Type 0
LineHolds kind w r n (Fixed i) = (i < n) × Line kind w r i
LineHolds kind w r n Open = (i : ℕ) × (i < n) × Line kind w r i

-- The index settled is i: a fixed one is itself; an open one is from 0 to n − 1 and meets its line.
abbrev pub SettlesAt : Kind → Rate → Rate → ℕ → Index → ℕ → Type 0
SettlesAt kind w r n (Fixed j) i = i ≡ j
SettlesAt kind w r n Open i = (i < n) × Line kind w r i

-- w is put before r.
abbrev pub PutBefore : Schedule → ℕ → ℕ → Type 0
PutBefore s w r = rank s.order w < rank s.order r

-- w is put before r for NOW, WHEN and CURRENT; r is put before w, or is w, for LAST and LASTWHEN.
abbrev pub PutFor : Kind → Schedule → ℕ → ℕ → Type 0
PutFor Now s w r = PutBefore s w r
PutFor Last s w r = PutBefore s r w ⊎ (r ≡ w)
PutFor When s w r = PutBefore s w r
PutFor LastWhen s w r = PutBefore s r w ⊎ (r ≡ w)
PutFor Current s w r = PutBefore s w r

module _ (p : Program) (s : Schedule) where
  -- Wherever a run of w and a run of r share a cycle, they are put as the read wants it.
  abbrev pub Order : Kind → ℕ → ℕ → Type 0
  Order kind w r = (j k : ℕ) → run_cycle (rate_of p s w) j ≡ run_cycle (rate_of p s r) k → PutFor kind s w r

  -- A read in the equation of r is met.
  pub record Met (r : ℕ) (ρ : Read) : Type 0 where
    pub declared : ρ.operands.signal < count p
    pub periods : PeriodRule ρ.kind (signal_at p ρ.operands.signal).period (signal_at p r).period ρ.operands.factor
    pub line :
        LineHolds ρ.kind (rate_of p s ρ.operands.signal) (rate_of p s r) ρ.operands.factor ρ.operands.index
    pub order : Order ρ.kind ρ.operands.signal r

  -- Phases are below periods, and every signal is put once.
  pub record Ordered : Type 0 where
    pub phases : (x : ℕ) → x < count p → phase_of s x < (signal_at p x).period
    pub put : (x : ℕ) → x < count p → rank s.order x < length s.order
    pub once : (j : ℕ) → j < length s.order → rank s.order (get_or s.order j 0) ≡ j
    pub only : (j : ℕ) → j < length s.order → get_or s.order j 0 < count p

  -- And every read is met.
  pub record Feasible : Type 0 where
    pub ordered : Ordered
    pub met : (x : ℕ) → x < count p → All (Met x) (body_reads (signal_at p x).body)

-- A part whose phases are below its periods and whose signals are put once, with a phase for each.
pub record OrderedPart (a : Part) : Type 0 where
  pub ordered : Ordered a.program a.schedule
  pub phased : length a.schedule.phases ≡ count a.program

-- h is a common multiple of all periods.
pub record Multiple (p : Program) (h : ℕ) : Type 0 where
  pub positive : zero < h
  pub divides : (x : ℕ) → x < count p → (signal_at p x).period ∣ h

-- 9: h is the least common multiple of all periods (1 if none), and at most 240.
pub record Least (p : Program) (h : ℕ) : Type 0 where
  pub multiple : Multiple p h
  pub bound : h ≤ 240
  pub least : (m : ℕ) → Multiple p m → h ≤ m
