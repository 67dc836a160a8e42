-- Which bytes are a legal script, how reading one stops, and each refusal of a trial with its place (1 to 16, 29, 30, 24, 25), as
-- statements: they rest on bytes, and under all the conditions of the numbers before them.
use Rattle.std.specs.Prelude.{ℕ, ◌+◌, ◌≤◌, ◌<◌, List, [], ◌∷◌, ◌≡◌, ℤ, length}
use Rattle.theorems_streams.specs.Held.{InputOf}
use Rattle.model.specs.Rules.Compile.{Pair}
use Rattle.theorems_pairs.specs.Conditions.{◌among◌, LegalPair}
use Rattle.model.specs.Rules.Outcome.{fault}
use Rattle.model.specs.Rules.Program.{Program}
use Rattle.theorems_pairs.specs.Refusals.{RefusedAt}
use Rattle.model.specs.Rules.Script.{Action, alter, run}
use Rattle.model.specs.Rules.Word.{byte_at, word_at}
use Rattle.model.specs.declared.Fault.{Fault}

-- 70 SET signal, word stands whole at an offset; 71 RUN count; 00 END.
abbrev pub SetAt : List ℕ → ℕ → Type 0
SetAt text at = (at + 6 ≤ length text) × (byte_at text at ≡ 0x70)

abbrev pub RunAt : List ℕ → ℕ → Type 0
RunAt text at = (at + 2 ≤ length text) × (byte_at text at ≡ 0x71)

abbrev pub EndAt : List ℕ → ℕ → Type 0
EndAt text at = (at + 1 ≤ length text) × (byte_at text at ≡ 0x00)

-- The commands from `at` on up to END, the last byte.
pub data SpellsScript (text : List ℕ) : ℕ → List Action → Type 0 where
  ends : {at : ℕ} → EndAt text at → length text ≤ at + 1 → SpellsScript text at []
  sets : {at : ℕ} {actions : List Action} → SetAt text at → SpellsScript text (at + 6) actions →
      SpellsScript text at (alter at (byte_at text (at + 1)) (word_at text (at + 2)) ∷ actions)
  runs : {at : ℕ} {actions : List Action} → RunAt text at → SpellsScript text (at + 2) actions →
      SpellsScript text at (run (byte_at text (at + 1)) ∷ actions)

-- A byte with which no command starts.
abbrev pub NoCommand : ℕ → Type 0
NoCommand b = ¬ (b ≡ 0x00) × ¬ (b ≡ 0x70) × ¬ (b ≡ 0x71)

-- Reading the commands from `at` on stops at a place: cut (the text's length), unknown (its offset), bytes after END (the first).
pub data StopsScript (text : List ℕ) : ℕ → ℕ → Type 0 where
  after_set : {at x : ℕ} → SetAt text at → StopsScript text (at + 6) x → StopsScript text at x
  after_run : {at x : ℕ} → RunAt text at → StopsScript text (at + 2) x → StopsScript text at x
  missing : {at : ℕ} → length text ≤ at → StopsScript text at (length text)
  cut_set : {at : ℕ} → at < length text → byte_at text at ≡ 0x70 → length text < at + 6 → StopsScript text at (length text)
  cut_run : {at : ℕ} → at < length text → byte_at text at ≡ 0x71 → length text < at + 2 → StopsScript text at (length text)
  unknown : {at : ℕ} → at < length text → NoCommand (byte_at text at) → StopsScript text at at
  trailing : {at : ℕ} → EndAt text at → at + 1 < length text → StopsScript text at (at + 1)

-- A SET at an offset, of no input, with only SETs of inputs before it.
pub data WrongSet (p : Program) : List Action → ℕ → Type 0 where
  here : {at x : ℕ} {w : ℤ} {actions : List Action} → ¬ InputOf p x → WrongSet p (alter at x w ∷ actions) at
  after_set : {at x place : ℕ} {w : ℤ} {actions : List Action} → InputOf p x → WrongSet p actions place →
      WrongSet p (alter at x w ∷ actions) place
  after_run : {n place : ℕ} {actions : List Action} → WrongSet p actions place → WrongSet p (run n ∷ actions) place

-- A legal script for a program, and its commands.
pub record LegalScript (p : Program) (text : List ℕ) (actions : List Action) : Type 0 where
  pub short : length text ≤ 2048
  pub spells : SpellsScript text 0 actions
  pub inputs : (at x : ℕ) (w : ℤ) → alter at x w among actions → InputOf p x

-- A trial is refused.
pub data TrialRefusedAt (program schedule text : List ℕ) : Fault → Type 0 where
  -- 1 to 16, 29, 30: the pair is refused.
  pair : {f : Fault} → RefusedAt program schedule f → TrialRefusedAt program schedule text f
  -- 24 script over length (0).
  long : {q : Pair} → LegalPair program schedule q → 2048 < length text → TrialRefusedAt program schedule text (fault 24 0)
  -- 24: the script stops.
  stops : {q : Pair} {x : ℕ} → LegalPair program schedule q → length text ≤ 2048 → StopsScript text 0 x →
      TrialRefusedAt program schedule text (fault 24 x)
  -- 25 SET of a signal that is no input (the SET).
  wrong : {q : Pair} {actions : List Action} {x : ℕ} → LegalPair program schedule q → length text ≤ 2048 →
      SpellsScript text 0 actions → WrongSet q.program actions x → TrialRefusedAt program schedule text (fault 25 x)
