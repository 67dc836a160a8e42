-- Where one job may go: every signal and phase such that the pair with only that signal's phase set to it and the same PUT order
-- is accepted and settles each open read as before.
use Rattle.std.specs.Prelude.{ℕ, ◌+◌, ◌*◌, Bool, true, false, cond, ◌&&◌, List, [], ◌∷◌, eqb, length, set}
use Rattle.model.specs.Rules.Compile.{Pair, pair_of}
use Rattle.model.specs.Rules.Machine.{Effect, Job, effect}
use Rattle.model.specs.Rules.Outcome.{Outcome, accepted, refused, ◌▷◌}
use Rattle.model.specs.Rules.Program.{Program, Read, count, signal_at, body_reads}
use Rattle.model.specs.Rules.Reads.{rank, settled}
use Rattle.model.specs.Rules.Schedule.{Schedule}
use Rattle.model.specs.Rules.Search.{all_below, join_below}
use Rattle.model.specs.Rules.Width.{in_schedule}

-- Where the phase of signal x stands in the text of schedule s: PUTs stand one after another from byte 0 on.
abbrev pub phase_offset : Schedule → ℕ → ℕ
phase_offset s x = rank s.order x * in_schedule 0x40 + 2

-- The schedule text with only the phase of signal x set to f: the PUTs keep their order.
abbrev pub moved_text : List ℕ → Schedule → ℕ → ℕ → List ℕ
moved_text schedule s x f = set schedule (phase_offset s x) f

-- The reads in the equation of r have the same index under both schedules.
unfoldable pub reads_alike : Program → Schedule → Schedule → ℕ → List Read → Bool
reads_alike p s s' r [] = true
reads_alike p s s' r (ρ ∷ ρs) = eqb (settled p s r ρ) (settled p s' r ρ) && reads_alike p s s' r ρs

-- Each open read settles alike under both; every other read has its own index under both.
unfoldable pub settles_alike : Program → Schedule → Schedule → Bool
settles_alike p s s' = all_below (count p) (λ r. reads_alike p s s' r (body_reads (signal_at p r).body))

-- A pair is accepted, and settles each open read as q does.
abbrev pub accepted_alike : Pair → Outcome Pair → Bool
accepted_alike q (accepted q') = settles_alike q.program q.schedule q'.schedule
accepted_alike q (refused f) = false

-- Whether signal x of the accepted pair q may take phase f.
unfoldable pub may_take : List ℕ → List ℕ → Pair → ℕ → ℕ → Bool
may_take program schedule q x f = accepted_alike q (pair_of program (moved_text schedule q.schedule x f))

-- An entry of the list: a signal, and a phase that it may take.
pub record Entry : Type 0 where
  pub signal : ℕ
  pub phase : ℕ

abbrev pub entry_if : Bool → ℕ → ℕ → List Entry
entry_if b x f = cond b (record { signal = x; phase = f } ∷ []) []

-- The entries of signal x, by rising phase, from 0 to its period − 1.
unfoldable pub entries_of : List ℕ → List ℕ → Pair → ℕ → List Entry
entries_of program schedule q x =
    join_below (signal_at q.program x).period (λ f. entry_if (may_take program schedule q x f) x f)

-- All entries, by signal.
unfoldable pub all_entries : List ℕ → List ℕ → Pair → List Entry
all_entries program schedule q = join_below (count q.program) (entries_of program schedule q)

-- As many whole entries as the lent list has space for are written, two bytes each; the rest of it stays.
unfoldable pub written : List Entry → List ℕ → List ℕ
written [] list = list
written (e ∷ es) [] = []
written (e ∷ es) (a ∷ []) = a ∷ []
written (e ∷ es) (a ∷ (b ∷ list)) = e.signal ∷ (e.phase ∷ written es list)

-- The job of moves, which refuses as the pair is refused, and yields the full count.
abbrev pub moves_job : List ℕ → List ℕ → List ℕ → Outcome (Job ℕ ℕ)
moves_job program schedule list =
    pair_of program schedule ▷ λ q.
    accepted (record {
      yields = length (all_entries program schedule q);
      leaves = written (all_entries program schedule q) list;
    })

unfoldable pub moves_of : List ℕ → List ℕ → List ℕ → Effect ℕ ℕ
moves_of program schedule list = effect list (moves_job program schedule list)
