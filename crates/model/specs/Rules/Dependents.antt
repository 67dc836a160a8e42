-- Which signals depend on one, and the call that tells those that an input reaches.
use Rattle.std.specs.Prelude.{ℕ, zero, suc, Bool, false, cond, ◌||◌, List, [], ◌∷◌, eqb, get_or}
use Rattle.model.specs.Rules.Compile.{pair_of}
use Rattle.model.specs.Rules.Machine.{Effect, Job, effect}
use Rattle.model.specs.Rules.Outcome.{Outcome, accepted, ◌▷◌, provided}
use Rattle.model.specs.Rules.Program.{Program, Read, count, signal_at, body_reads}
use Rattle.model.specs.Rules.Script.{is_input_of}
use Rattle.model.specs.Rules.Search.{table}

-- Whether one of the reads is of a signal that passes the test.
unfoldable pub any_read : (ℕ → Bool) → List Read → Bool
any_read test [] = false
any_read test (ρ ∷ ρs) = test ρ.operands.signal || any_read test ρs

-- One round: each signal is marked that reads i, or a signal marked before.
unfoldable pub mark_readers : Program → ℕ → List Bool → List Bool
mark_readers p i marks =
    table (count p) (λ y. any_read (λ w. eqb w i || get_or marks w false) (body_reads (signal_at p y).body))

unfoldable pub marks_after : Program → ℕ → ℕ → List Bool
marks_after p i zero = table (count p) (λ y. false)
marks_after p i (suc n) = mark_readers p i (marks_after p i n)

-- For each signal, whether it depends on i: N rounds mark all that do.
unfoldable pub dependents : Program → ℕ → List Bool
dependents p i = marks_after p i (count p)

-- A mark as a byte.
abbrev pub mark_byte : Bool → ℕ
mark_byte b = cond b 1 0

-- The marks as 64 bytes: 1 where the signal depends on i, 0 at every other.
unfoldable pub mark_bytes : Program → ℕ → List ℕ
mark_bytes p i = table 64 (λ y. mark_byte (get_or (dependents p i) y false))

-- The job of dependents: it refuses as the pair is refused, then by 48 where i is no input.
abbrev pub dependents_job : List ℕ → List ℕ → ℕ → Outcome (Job ℕ ℕ)
dependents_job program schedule i =
    pair_of program schedule ▷ λ q.
    provided (is_input_of q.program i) 48 0 ▷ λ _.
    accepted (record { yields = 0; leaves = mark_bytes q.program i })

unfoldable pub dependents_of : List ℕ → List ℕ → ℕ → List ℕ → Effect ℕ ℕ
dependents_of program schedule i marks = effect marks (dependents_job program schedule i)
