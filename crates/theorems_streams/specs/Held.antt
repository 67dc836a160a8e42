-- What demand 3 says of a list of calls: its answers, the input elements that it supplies, and the words that it leaves.
use Rattle.std.specs.Prelude.{ℕ, suc, ◌-◌, ◌/◌, ◌%◌, ◌≤◌, ◌<◌, cond, List, [], ◌∷◌, ◌≡◌, eqb, ℤ, pos, length, get_or}
use Rattle.model.specs.Rules.Machine.{reset_of}
use Rattle.model.specs.Rules.Outcome.{Outcome, accepted, refuse}
use Rattle.model.specs.Rules.Program.{Program, Body, input, equation, count, signal_at}
use Rattle.model.specs.Rules.Reads.{rate_of, run_cycle}
use Rattle.model.specs.Rules.Schedule.{Schedule, phase_of}
use Rattle.model.specs.Says.Calls.{Call, call_of, after, log_after, reset, cycle}

-- Its answers, in order.
unfoldable pub answers_of : List ℕ → List ℤ → List Call → List (Outcome ℕ)
answers_of image state [] = []
answers_of image state (c ∷ cs) = (call_of image state c).answer ∷ answers_of image (call_of image state c).left cs

-- State, log and answers of a list that starts from what a reset of `old` leaves.
abbrev pub state_by : List ℕ → List ℤ → List Call → List ℤ
state_by image old cs = after image (reset_of image old).left cs

abbrev pub log_by : List ℕ → List ℤ → List Call → List (List ℤ)
log_by image old cs = log_after image (reset_of image old).left [] cs

abbrev pub answers_by : List ℕ → List ℤ → List Call → List (Outcome ℕ)
answers_by image old cs = answers_of image (reset_of image old).left cs

-- A list of calls after c cycles since the latest reset, its answers, and c after it. No reset is refused. A cycle is refused
-- exactly when it is lent fewer than N samples (23), and is then not counted; else it answers the count of its position, the
-- remainder of c by H.
pub data Answered (p : Program) (h : ℕ) (counts : List ℕ) : ℕ → List Call → List (Outcome ℕ) → ℕ → Type 0 where
  none : {c : ℕ} → Answered p h counts c [] [] c
  resets : {c c' : ℕ} {cs : List Call} {answers : List (Outcome ℕ)} → Answered p h counts 0 cs answers c' →
      Answered p h counts c (reset ∷ cs) (accepted 0 ∷ answers) c'
  few : {c c' : ℕ} {cs : List Call} {answers : List (Outcome ℕ)} {samples : List ℤ} → length samples < count p →
      Answered p h counts c cs answers c' → Answered p h counts c (cycle samples ∷ cs) (refuse 23 0 ∷ answers) c'
  runs : {c c' : ℕ} {cs : List Call} {answers : List (Outcome ℕ)} {samples : List ℤ} → count p ≤ length samples →
      Answered p h counts (suc c) cs answers c' →
      Answered p h counts c (cycle samples ∷ cs) (accepted (get_or counts (c % h) 0) ∷ answers) c'

-- The samples of the cycle that found c = t.
unfoldable pub lent_at : List (List ℤ) → ℕ → List ℤ
lent_at [] t = []
lent_at (samples ∷ log) t = cond (eqb t (length log)) samples (lent_at log t)

abbrev pub IsInput : Body → Type 0
IsInput input = Unit {0}
IsInput (equation weight e) = ⊥

-- x is an input of the program.
abbrev pub InputOf : Program → ℕ → Type 0
InputOf p x = (x < count p) × IsInput (signal_at p x).body

module _ (p : Program) (s : Schedule) where
  -- Element k of input x is word x of the samples lent to the cycle that found c = kP + p. Elements not so supplied may be
  -- anything.
  abbrev pub Supplied : List (List ℤ) → (ℕ → ℕ → ℤ) → Type 0
  Supplied log inputs =
      (x k : ℕ) → x < count p → IsInput (signal_at p x).body → run_cycle (rate_of p s x) k < length log →
      inputs x k ≡ get_or (lent_at log (run_cycle (rate_of p s x) k)) x (pos 0)

  -- The state after c cycles since the latest reset: X are the streams, `old` is the state before the first reset.
  pub record Holds (h : ℕ) (X : ℕ → ℕ → ℤ) (old : List ℤ) (c : ℕ) (state : List ℤ) : Type 0 where
    pub size : length state ≡ length old
    pub position : get_or state 0 (pos 0) ≡ pos (c % h)
    pub initial : (x : ℕ) → x < count p → c ≤ phase_of s x → get_or state (suc x) (pos 0) ≡ (signal_at p x).initial
    pub element : (x : ℕ) → x < count p → phase_of s x < c →
        get_or state (suc x) (pos 0) ≡ X x (suc ((c - 1 - phase_of s x) / (signal_at p x).period))
    pub beyond : (v : ℕ) → count p < v → get_or state v (pos 0) ≡ get_or old v (pos 0)
