-- A list of reset and cycle calls on one image: the state and the log that it leaves.
use Rattle.std.specs.Prelude.{ℕ, List, [], ◌∷◌, ℤ}
use Rattle.model.specs.Rules.Machine.{Effect, reset_of, cycle_of}
use Rattle.model.specs.Rules.Outcome.{Outcome, accepted, refused}

-- A call is a reset, or a cycle with the samples that it is lent.
pub data Call : Type 0 where
  reset : Call
  cycle : List ℤ → Call

unfoldable pub call_of : List ℕ → List ℤ → Call → Effect ℕ ℤ
call_of image state reset = reset_of image state
call_of image state (cycle samples) = cycle_of image state samples

-- The samples lent to the cycles that ran since the latest reset, the last first: their number is c.
abbrev pub logged : Call → Outcome ℕ → List (List ℤ) → List (List ℤ)
logged reset (accepted a) log = []
logged reset (refused f) log = log
logged (cycle samples) (accepted a) log = samples ∷ log
logged (cycle samples) (refused f) log = log

-- The state after a list of calls.
unfoldable pub after : List ℕ → List ℤ → List Call → List ℤ
after image state [] = state
after image state (c ∷ cs) = after image (call_of image state c).left cs

-- The log after it.
unfoldable pub log_after : List ℕ → List ℤ → List (List ℤ) → List Call → List (List ℤ)
log_after image state log [] = log
log_after image state log (c ∷ cs) =
    log_after image (call_of image state c).left (logged c (call_of image state c).answer log) cs
