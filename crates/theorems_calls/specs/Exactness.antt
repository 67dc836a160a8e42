-- When compile, reset and cycle do their job, when they are refused, and what they leave: each call as one statement.
use Rattle.std.specs.Prelude.{ℕ, ◌+◌, ◌≤◌, ◌<◌, List, ◌++◌, ◌↔◌, ◌≡◌, ℤ, pos, length, get_or, drop}
use Rattle.model.specs.Rules.Compile.{Pair}
use Rattle.theorems_pairs.specs.Conditions.{LegalPair}
use Rattle.model.specs.Rules.Image.{written_of, written_length}
use Rattle.model.specs.Rules.Machine.{Effect, hyper_of, count_of}
use Rattle.model.specs.Rules.Outcome.{accepted, refused, fault}
use Rattle.model.specs.declared.Fault.{Fault}
use Rattle.theorems_pairs.specs.Refusals.{RefusedAt}
use Rattle.theorems_images.specs.Runs.{ResetLeaves, CycleRuns}
use Rattle.theorems_images.specs.WellFormed.{WellLent}

-- A call yields n and leaves `left` exactly if `Done` says so. It is refused with f exactly if `Refused` says so, and then
-- leaves what was lent.
pub record Exactly {A : Type 0} (lent : List A) (Done : ℕ → List A → Type 0) (Refused : Fault → Type 0) (call : Effect ℕ A) :
    Type 0 where
  pub done : (n : ℕ) (left : List A) → ((call.answer ≡ accepted n) × (call.left ≡ left)) ↔ Done n left
  pub refuses : (f : Fault) (left : List A) →
      ((call.answer ≡ refused f) × (call.left ≡ left)) ↔ (Refused f × (left ≡ lent))

-- L + 4N of a pair.
abbrev pub size_of : Pair → ℕ
size_of q = written_length q.program q.schedule q.hypercycle

-- The image of a pair is written: the pair is legal, n is its L + 4N, and the buffer holds that. Bytes past it stay.
pub record Writes (Legal : Pair → Type 0) (buffer : List ℕ) (n : ℕ) (left : List ℕ) : Type 0 where
  pub pair : Pair
  pub legal : Legal pair
  pub is : n ≡ size_of pair
  pub fits : n ≤ length buffer
  pub leaves : left ≡ written_of pair.program pair.schedule pair.hypercycle ++ drop n buffer

-- It is not: there is no legal pair, or the buffer is shorter than its L + 4N (17).
pub data WriteRefusedAt (Legal : Pair → Type 0) (Refused : Fault → Type 0) (buffer : List ℕ) : Fault → Type 0 where
  pair : {f : Fault} → Refused f → WriteRefusedAt Legal Refused buffer f
  space : {q : Pair} → Legal q → length buffer < size_of q → WriteRefusedAt Legal Refused buffer (fault 17 (size_of q))

-- Compile is done, or refused by 1 to 17, 29 or 30.
abbrev pub Compiles : List ℕ → List ℕ → List ℕ → ℕ → List ℕ → Type 0
Compiles program schedule buffer = Writes (LegalPair program schedule) buffer

abbrev pub CompileRefusedAt : List ℕ → List ℕ → List ℕ → Fault → Type 0
CompileRefusedAt program schedule buffer = WriteRefusedAt (LegalPair program schedule) (RefusedAt program schedule) buffer

module _ (lent : List ℕ) (state : List ℤ) where
  -- Neither 20 nor 21: the image lent is well formed, and the state has N + 1 words.
  pub record Usable (image : List ℕ) : Type 0 where
    pub lends : WellLent lent image
    pub long : count_of image + 1 ≤ length state

  -- A reset is done: it yields 0 and leaves the start.
  pub record Resets (n : ℕ) (left : List ℤ) : Type 0 where
    pub image : List ℕ
    pub usable : Usable image
    pub is : n ≡ 0
    pub leaves : ResetLeaves image state left

  -- It is refused: image not well formed, state shorter than N + 1.
  pub data ResetRefusedAt : Fault → Type 0 where
    unformed : ((image : List ℕ) → ¬ WellLent lent image) → ResetRefusedAt (fault 20 0)
    short : {image : List ℕ} → WellLent lent image → length state < count_of image + 1 → ResetRefusedAt (fault 21 0)

  -- Word 0 is a position, 0 to H − 1.
  pub record Positioned (image : List ℕ) : Type 0 where
    pub position : ℕ
    pub stands : get_or state 0 (pos 0) ≡ pos position
    pub below : position < hyper_of image

  module _ (samples : List ℤ) where
    -- A cycle is done: it yields how many commands it ran.
    pub record Cycles (n : ℕ) (left : List ℤ) : Type 0 where
      pub image : List ℕ
      pub usable : Usable image
      pub positioned : Positioned image
      pub sampled : count_of image ≤ length samples
      pub runs : CycleRuns image positioned.position state samples n left

    -- It is refused: as a reset; position outside 0 to H − 1; fewer than N samples.
    pub data CycleRefusedAt : Fault → Type 0 where
      unready : {f : Fault} → ResetRefusedAt f → CycleRefusedAt f
      outside : {image : List ℕ} → Usable image → ¬ Positioned image → CycleRefusedAt (fault 22 0)
      unsampled : {image : List ℕ} → Usable image → Positioned image → length samples < count_of image →
          CycleRefusedAt (fault 23 0)
