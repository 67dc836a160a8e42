-- What the streams give to the lines of a trial, and the inputs that its SETs supply.
use Rattle.std.specs.Prelude.{ℕ, suc, ◌+◌, ◌-◌, ◌/◌, ◌≤◌, ◌<◌, cond, List, [], ◌∷◌, ◌++◌, ◌≡◌, leb, ℤ, pos, get_or, length}
use Rattle.model.specs.Rules.Program.{Program, count, signal_at}
use Rattle.model.specs.Rules.Reads.{rate_of, run_cycle, settled}
use Rattle.model.specs.Rules.Schedule.{Schedule, phase_of}
use Rattle.model.specs.Rules.Search.{table}
use Rattle.model.specs.Rules.Compile.{Pair}
use Rattle.model.specs.Rules.Outcome.{accepted}
use Rattle.model.specs.Rules.Script.{Action, alter, run}
use Rattle.model.specs.Rules.Trial.{trial_of}
use Rattle.theorems_pairs.specs.Conditions.{◌among◌}
use Rattle.theorems_trials.specs.Decimals.{SaysNumber, SaysWord}
use Rattle.theorems_streams.specs.Held.{IsInput}
use Rattle.theorems_streams.specs.Streams.{Satisfies}

-- What the streams X give: after c cycles signal x holds its element floor((c − 1 − p)/P), or its initial word if c ≤ p.
abbrev pub held_at : Program → Schedule → (ℕ → ℕ → ℤ) → ℕ → ℕ → ℤ
held_at p s X c x =
    cond (leb c (phase_of s x)) (signal_at p x).initial (X x (suc ((c - 1 - phase_of s x) / (signal_at p x).period)))

abbrev pub words_after : Program → Schedule → (ℕ → ℕ → ℤ) → ℕ → List ℤ
words_after p s X c = table (count p) (held_at p s X c)

-- The RUNs of the commands make n cycles together.
pub data Makes : List Action → ℕ → Type 0 where
  none : Makes [] 0
  sets : {at x n : ℕ} {w : ℤ} {actions : List Action} → Makes actions n → Makes (alter at x w ∷ actions) n
  runs : {m n : ℕ} {actions : List Action} → Makes actions n → Makes (run m ∷ actions) (m + n)

-- Cycle t is made by a RUN that stands after the commands `before`, which make n cycles.
pub record MadeAfter (actions before : List Action) (t : ℕ) : Type 0 where
  pub n : ℕ
  pub runs : Makes before n
  pub m : ℕ
  pub after : List Action
  pub stands : actions ≡ before ++ (run m ∷ after)
  pub from : n ≤ t
  pub to : t < n + m

-- No command is a SET of x.
abbrev pub NoSet : ℕ → List Action → Type 0
NoSet x actions = (at : ℕ) (w : ℤ) → ¬ (alter at x w among actions)

-- The word of the last SET of x among the commands, and `start` where there is none.
pub data LastSet (x : ℕ) (start : ℤ) (actions : List Action) : ℤ → Type 0 where
  last : (before after : List Action) (at : ℕ) (w : ℤ) → actions ≡ before ++ (alter at x w ∷ after) → NoSet x after →
      LastSet x start actions w
  none : NoSet x actions → LastSet x start actions start

-- The inputs that the SETs supply: element k of input x is the word of the last SET of x before cycle kP + p, 0 where there is
-- none. Elements of cycles that no RUN makes may be anything.
abbrev pub SetInputs : Program → Schedule → List Action → (ℕ → ℕ → ℤ) → Type 0
SetInputs p s actions inputs =
    (x k : ℕ) → x < count p → IsInput (signal_at p x).body → (before : List Action) →
    MadeAfter actions before (run_cycle (rate_of p s x) k) → LastSet x (pos 0) before (inputs x k)

-- Words in decimal, each after one space (32).
pub data SaysWords : List ℤ → List ℕ → Type 0 where
  none : SaysWords [] []
  word : {w : ℤ} {ws : List ℤ} {digits bytes : List ℕ} → SaysWord w digits → SaysWords ws bytes →
      SaysWords (w ∷ ws) (32 ∷ (digits ++ bytes))

-- The bytes of a line: the number j, the words, decimal, one space between, and a newline (10).
pub record SaysLine (j : ℕ) (words : List ℤ) (line : List ℕ) : Type 0 where
  pub number : List ℕ
  pub says : SaysNumber j number
  pub rest : List ℕ
  pub signals : SaysWords words rest
  pub bytes : line ≡ number ++ (rest ++ (10 ∷ []))

-- Of a legal pair and a legal script with these commands: as many lines as the sum of the RUNs, and line j has j and the words
-- that the streams give after j + 1 cycles, the inputs being those that the SETs supply.
pub record TrialLines (program schedule text : List ℕ) (q : Pair) (actions : List Action) : Type 0 where
  pub lines : List (List ℕ)
  pub prints : trial_of program schedule text ≡ accepted lines
  pub number : Makes actions (length lines)
  pub line : (inputs X : ℕ → ℕ → ℤ) → SetInputs q.program q.schedule actions inputs →
      Satisfies q.program (settled q.program q.schedule) inputs X →
      (j : ℕ) → j < length lines → SaysLine j (words_after q.program q.schedule X (suc j)) (get_or lines j [])
