-- Demand 3, right for ever: the streams of a program, and what any list of resets and cycles holds of them.
use Rattle.std.specs.Prelude.{ℕ, ◌<◌, List, [], ◌↔◌, ◌≡◌, ℤ, take}
use Rattle.model.specs.Rules.Compile.{Pair, pair_of}
use Rattle.model.specs.Rules.Image.{image_of}
use Rattle.model.specs.Rules.Machine.{reset_of}
use Rattle.model.specs.Rules.Outcome.{accepted}
use Rattle.model.specs.Rules.Program.{Read, Program, count}
use Rattle.model.specs.Rules.Reads.{rate_of, settled}
use Rattle.model.specs.Rules.Schedule.{Schedule}
use Rattle.model.specs.Rules.Tail.{Bears}
use Rattle.model.specs.Rules.Word.{AreBytes}
use Rattle.model.specs.Says.Calls.{Call}
use Rattle.model.specs.Says.Feasible.{SettlesAt}
use Rattle.theorems_images.specs.WellFormed.{WellFormed}
use Rattle.theorems_pairs.specs.Conditions.{ReadIn}
use Rattle.theorems_streams.specs.Lists.{
  Kept,
  KeptBy,
  Memory,
  after_reset,
  Lent,
  owns,
  left_all,
  own_answers,
  own_log,
  OwnsBear,
  OthersRefused,
  AsWithout,
  SettleAlike,
  SameWords,
}
use Rattle.theorems_streams.specs.Streams.{Satisfies}

-- Of an accepted pair.
pub record PairForEver (program schedule : List ℕ) (p : Program) (s : Schedule) (h : ℕ) : Type 0 where
  -- For any input elements streams exist that satisfy all equations, an open read at its settled index ..
  pub streams-exist : (inputs : ℕ → ℕ → ℤ) → (X : ℕ → ℕ → ℤ) × Satisfies p (settled p s) inputs X
  -- .. and all others that satisfy the equations with these inputs have the same elements throughout.
  pub streams-unique : (inputs X Y : ℕ → ℕ → ℤ) → Satisfies p (settled p s) inputs X → Satisfies p (settled p s) inputs Y →
      (x j : ℕ) → x < count p → X x j ≡ Y x j
  -- A list starts from the state that a reset on the same image, not refused, has just left. In the list no reset is refused,
  -- and a cycle exactly when it is lent fewer than N samples (23). After it word 0 is the remainder of c by H, signal s holds its
  -- element floor((c − 1 − p)/P), or its initial word if c ≤ p, and words beyond N are as before the first reset. A cycle that
  -- is not refused answers the report's count of its position. The image is lent with a tail or without.
  pub calls-hold : (tail lent : List ℕ) → Bears (image_of p s h) tail lent → (old : List ℤ) →
      (reset_of lent old).answer ≡ accepted 0 → (cs : List Call) → KeptBy program schedule p s h lent old cs
  -- Between them may stand calls that are lent something else and are refused: any image with any stretch of the state, a load
  -- or a turn of a board with one, or a compile, conversion or join with any stretch of the image's own buffer. Each call of
  -- the list is lent the first bytes of a buffer that bear the image, now with its tail and now without.
  pub calls-among : (size : ℕ) (buffer tail : List ℕ) → Bears (image_of p s h) tail (take size buffer) → (old : List ℤ) →
      (reset_of (take size buffer) old).answer ≡ accepted 0 → (ls : List Lent) → OwnsBear (image_of p s h) buffer ls →
      let m = after_reset size buffer old in
      OthersRefused m ls →
      Kept program schedule p s h old (owns ls) (own_answers m ls) (own_log m [] ls) (left_all m ls).state

-- Of two accepted schedules of one program.
pub record AlikeForEver (p : Program) (s s' : Schedule) (h : ℕ) : Type 0 where
  -- They have the same streams.
  pub alike-streams : (inputs X : ℕ → ℕ → ℤ) → Satisfies p (settled p s) inputs X → Satisfies p (settled p s') inputs X
  -- Take a list on the image of each, with input elements that agree wherever both lists supply them: if both end holding element
  -- k of s, it is the same word.
  pub alike-words : SameWords p s s' (image_of p s h) (image_of p s' h)

pub record ForEver : Type 0 where
  -- For an open read the line holds if some i from 0 to n − 1 meets its line; there is at most one, and that is the index
  -- settled. A fixed read has its own.
  pub settled-exactly : (program schedule : List ℕ) (q : Pair) → pair_of program schedule ≡ accepted q → (r : ℕ) (ρ : Read) →
      ReadIn q.program r ρ → (i : ℕ) →
      let p = q.program in
      let s = q.schedule in
      let x = ρ.operands in
      SettlesAt ρ.kind (rate_of p s x.signal) (rate_of p s r) x.factor x.index i ↔ (i ≡ settled p s r ρ)
  -- What holds of an accepted pair.
  pub of_pair : (program schedule : List ℕ) → AreBytes program → (p : Program) (s : Schedule) (h : ℕ) →
      pair_of program schedule ≡ accepted (record { program = p; schedule = s; hypercycle = h }) →
      PairForEver program schedule p s h
  -- Calls that are lent something else and are refused change nothing and are no part of the list.
  pub others-nothing : (image : List ℕ) → WellFormed image → (m : Memory) (log : List (List ℤ)) (ls : List Lent) →
      OwnsBear image m.buffer ls → OthersRefused m ls → AsWithout image m log ls
  -- Two accepted schedules of one program settle alike if each open read has the same index under both.
  pub of-alike : (program schedule schedule' : List ℕ) → AreBytes program → (p : Program) (s s' : Schedule) (h : ℕ) →
      pair_of program schedule ≡ accepted (record { program = p; schedule = s; hypercycle = h }) →
      pair_of program schedule' ≡ accepted (record { program = p; schedule = s'; hypercycle = h }) →
      SettleAlike p s s' → AlikeForEver p s s' h
  -- Two pairs of one program text are of one program, and have one hypercycle.
  pub same-program : (program schedule schedule' : List ℕ) (q q' : Pair) → pair_of program schedule ≡ accepted q →
      pair_of program schedule' ≡ accepted q' → (q.program ≡ q'.program) × (q.hypercycle ≡ q'.hypercycle)
