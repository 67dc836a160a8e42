-- Reads: which element each uses, its line and its order, and when it is met (14).
-- Elements are counted with the initial word first: entry 0 of a signal's history is its initial word (element −1 of the
-- paper), and entry j + 1 is its element j.
use Rattle.std.specs.Prelude.{Option, ℕ, suc, ◌+◌, ◌*◌, ◌-◌, ◌/◌, ◌%◌, min, Bool, true, false, cond, not, ◌&&◌, ◌||◌, List, [], ◌∷◌, leb, ltb, eqb}
use Rattle.std.specs.Bool.{beq}
use Rattle.model.specs.Rules.Outcome.{Outcome, fault, lowest}
use Rattle.model.specs.Rules.Program.{Program, Read, signal_at, body_reads}
use Rattle.model.specs.Rules.Schedule.{Schedule, phase_of}
use Rattle.model.specs.Rules.Search.{first_below, is_found, found_or, join_from}
use Rattle.model.specs.declared.Index.{Index}
use Rattle.model.specs.declared.Index.TheVariants.{Fixed, Open}
use Rattle.model.specs.declared.Kind.{Kind}
use Rattle.model.specs.declared.Kind.TheVariants.{Now, Last, When, LastWhen, Current}

pub record Rate : Type 0 where
  pub period : ℕ
  pub phase : ℕ

abbrev pub rate_of : Program → Schedule → ℕ → Rate
rate_of p s x = record { period = (signal_at p x).period; phase = phase_of s x }

-- A signal of period P and phase p runs in cycles kP + p: the cycle of its element k, and whether it runs in cycle c.
abbrev pub run_cycle : Rate → ℕ → ℕ
run_cycle a k = k * a.period + a.phase

unfoldable pub due : Rate → ℕ → Bool
due a c = eqb (c % a.period) a.phase

-- How many elements are stored before cycle t: those of the runs in cycles 0 to t − 1.
unfoldable pub stored : Rate → ℕ → ℕ
stored a t = (t + a.period - suc a.phase) / a.period

-- a ≤ x < b.
unfoldable pub between : ℕ → ℕ → ℕ → Bool
between a x b = leb a x && ltb x b

-- The line of a read: w is the rate of the signal read, r the reader's. What the paper subtracts is added on the other side.
abbrev pub line : Kind → Rate → Rate → ℕ → Bool
line Now w r i = leb w.phase r.phase
line Last w r i = leb r.phase w.phase
line When w r i = between (i * w.period + w.phase) r.phase (suc i * w.period + w.phase)
line LastWhen w r i = between r.phase (i * w.period + w.phase) (r.phase + w.period)
line Current w r i = between w.phase (i * r.period + r.phase) (w.phase + r.period)

-- The history entry of w that the reader's element k uses.
abbrev pub uses : Kind → ℕ → ℕ → ℕ → ℕ
uses Now n i k = suc k
uses Last n i k = k
uses When n i k = suc (k * n + i)
uses LastWhen n i k = k * n + i
uses Current n i k = (k + n - i) / n

-- Where runs share a cycle, w is put before r for NOW, WHEN and CURRENT; r is put before w, or is w, for LAST and LASTWHEN.
abbrev pub writer_first : Kind → Bool
writer_first Now = true
writer_first Last = false
writer_first When = true
writer_first LastWhen = false
writer_first Current = true

-- Whether a run of w and a run of r share a cycle. One period is a multiple of the other.
unfoldable pub share : Rate → Rate → Bool
share w r = eqb (w.phase % min w.period r.period) (r.phase % min w.period r.period)

unfoldable pub ordered : Kind → Rate → Rate → Bool → Bool
ordered kind w r before = not (share w r) || beq before (writer_first kind)

-- The rank of x in PUT order: how many signals are put before it.
unfoldable pub rank : List ℕ → ℕ → ℕ
rank [] x = 0
rank (y ∷ ys) x = cond (eqb y x) 0 (suc (rank ys x))

-- Whether w is put before r.
abbrev pub before : Schedule → ℕ → ℕ → Bool
before s w r = ltb (rank s.order w) (rank s.order r)

-- The index of an open read: the one from 0 to n − 1 that meets its line.
unfoldable pub settle : Kind → Rate → Rate → ℕ → Option ℕ
settle kind w r n = first_below n (line kind w r)

-- Whether the line of a read holds: for an open read, at some index.
abbrev pub line_holds : Kind → Rate → Rate → ℕ → Index → Bool
line_holds kind w r n (Fixed i) = line kind w r i
line_holds kind w r n Open = is_found (settle kind w r n)

-- The index of a read: its own, or the one settled.
abbrev pub settled_index : Kind → Rate → Rate → ℕ → Index → ℕ
settled_index kind w r n (Fixed i) = i
settled_index kind w r n Open = found_or 0 (settle kind w r n)

module _ (p : Program) (s : Schedule) where
  -- The index of a read in the equation of r.
  unfoldable pub settled : ℕ → Read → ℕ
  settled r ρ =
      settled_index ρ.kind (rate_of p s ρ.operands.signal) (rate_of p s r) ρ.operands.factor ρ.operands.index

  -- A read in the equation of r is met if its line and its order both hold.
  unfoldable pub is_met : ℕ → Read → Bool
  is_met r ρ =
      line_holds ρ.kind (rate_of p s ρ.operands.signal) (rate_of p s r) ρ.operands.factor ρ.operands.index &&
      ordered ρ.kind (rate_of p s ρ.operands.signal) (rate_of p s r) (before s ρ.operands.signal r)

  -- 14 at the lowest read offset.
  unfoldable pub met : Outcome (Unit {0})
  met =
      lowest
      (join_from 0 (λ r x. join_from 0 (λ i ρ. cond (is_met r ρ) [] (fault 14 ρ.place ∷ [])) (body_reads x.body))
      p.signals)
