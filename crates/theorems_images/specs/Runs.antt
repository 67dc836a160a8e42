-- What a reset leaves, and a cycle: the paper's sentences, over the bytes of an image and word for word.
use Rattle.std.specs.Prelude.{ℕ, suc, ◌+◌, ◌*◌, ◌<◌, List, [], ◌∷◌, ◌≡◌, ℤ, pos, length, get_or}
use Rattle.model.specs.Rules.Machine.{hyper_of, count_of, rows_in}
use Rattle.model.specs.Rules.Table.{Row}
use Rattle.model.specs.Rules.Word.{word_at}
use Rattle.model.specs.Says.Written.{CodeWritten}
use Rattle.model.specs.declared.Binary.{Binary}
use Rattle.model.specs.declared.Code.TheVariants as Code
use Rattle.model.specs.declared.Unary.{Unary}
use Rattle.theorems_images.specs.Operators.{BinaryGives, UnaryGives, IfGives}
use Rattle.theorems_images.specs.Stretches.{IsList, IsCode}

-- Word k becomes w, and all others stay.
pub record Stores (k : ℕ) (w : ℤ) (state left : List ℤ) : Type 0 where
  pub long : length left ≡ length state
  pub stored : k < length state → get_or left k (pos 0) ≡ w
  pub others : (i : ℕ) → ¬ (i ≡ k) → get_or left i (pos 0) ≡ get_or state i (pos 0)

-- Words beyond N stay.
abbrev pub BeyondStay : List ℕ → List ℤ → List ℤ → Type 0
BeyondStay image state left = (i : ℕ) → count_of image < i → get_or left i (pos 0) ≡ get_or state i (pos 0)

-- Reset puts 0 in word 0 and each signal's initial word after it.
pub record ResetLeaves (image : List ℕ) (state left : List ℤ) : Type 0 where
  pub long : length left ≡ length state
  pub position : get_or left 0 (pos 0) ≡ pos 0
  pub initials : (x : ℕ) → x < count_of image → get_or left (x + 1) (pos 0) ≡ word_at image (4 + 6 * x)
  pub beyond : BeyondStay image state left

module _ (rows : List Row) (code : List ℕ) (state samples : List ℤ) where
  -- The command at an offset takes one stack, its top first, to another, and the next command stands further on. PUSH puts its
  -- word on the stack, LOAD the word of its signal, FETCH the sample; an operator takes its operands, the last on top, and puts
  -- on what it gives.
  pub data Steps (at : ℕ) : List ℤ → ℕ → List ℤ → Type 0 where
    push : {w : ℤ} {stack : List ℤ} → CodeWritten code at (Code.Push w) → Steps at stack (at + 5) (w ∷ stack)
    load : {x : ℕ} {stack : List ℤ} → CodeWritten code at (Code.Load x) →
        Steps at stack (at + 2) (get_or state (x + 1) (pos 0) ∷ stack)
    fetch : {x : ℕ} {stack : List ℤ} → CodeWritten code at (Code.Fetch x) →
        Steps at stack (at + 2) (get_or samples x (pos 0) ∷ stack)
    binary : {operator : Binary} {a b w : ℤ} {stack : List ℤ} → CodeWritten code at (Code.Binary operator) →
        BinaryGives operator a b w → Steps at (b ∷ a ∷ stack) (at + 1) (w ∷ stack)
    unary : {operator : Unary} {a w : ℤ} {stack : List ℤ} → CodeWritten code at (Code.Unary operator) →
        UnaryGives rows operator a w → Steps at (a ∷ stack) (at + 1) (w ∷ stack)
    choose : {c a b w : ℤ} {stack : List ℤ} → CodeWritten code at Code.If → IfGives c a b w →
        Steps at (b ∷ a ∷ c ∷ stack) (at + 1) (w ∷ stack)

  -- The code of signal x, run from an offset with a stack: it comes to its STORE with one word on the stack, w, and has run n
  -- commands, STORE included.
  pub data Runs (x : ℕ) : ℕ → List ℤ → ℤ → ℕ → Type 0 where
    store : {at : ℕ} {w : ℤ} → CodeWritten code at (Code.Store x) → Runs x at (w ∷ []) w 1
    onward : {at to n : ℕ} {stack after : List ℤ} {w : ℤ} → Steps at stack to after → Runs x to after w n →
        Runs x at stack w (suc n)

-- The code of each signal in a list, in order, each on the words that the one before left: n commands in all.
pub data RunsAll (image : List ℕ) (samples : List ℤ) : List ℕ → List ℤ → ℕ → List ℤ → Type 0 where
  none : {state : List ℤ} → RunsAll image samples [] state 0 state
  run : {x n m : ℕ} {xs code : List ℕ} {state after left : List ℤ} {w : ℤ} → IsCode image x code →
      Runs (rows_in image) code state samples x 0 [] w n → Stores (x + 1) w state after →
      RunsAll image samples xs after m left → RunsAll image samples (x ∷ xs) state (n + m) left

-- The position moves on by one, from H − 1 to 0.
pub data MovesOn (h c : ℕ) : ℕ → Type 0 where
  on : c + 1 < h → MovesOn h c (c + 1)
  round : c + 1 ≡ h → MovesOn h c 0

-- A cycle runs the code of each signal in its position's list, in order, then moves the position on.
pub record CycleRuns (image : List ℕ) (position : ℕ) (state samples : List ℤ) (n : ℕ) (left : List ℤ) : Type 0 where
  pub list : List ℕ
  pub listed : IsList image position list
  pub ran : List ℤ
  pub runs : RunsAll image samples list state n ran
  pub next : ℕ
  pub moves : MovesOn (hyper_of image) position next
  pub stores : Stores 0 (pos next) ran left
  pub beyond : BeyondStay image state left
