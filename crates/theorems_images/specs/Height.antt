-- The height of the working stack, the number of words that it holds, while a code runs.
use Rattle.std.specs.Prelude.{ℕ, suc, ◌+◌, ◌≤◌, List, ℤ}
use Rattle.model.specs.Rules.Width.{in_code}
use Rattle.model.specs.Says.Written.{CodeWritten}
use Rattle.model.specs.declared.Binary.{Binary}
use Rattle.model.specs.declared.Code.{Code}
use Rattle.model.specs.declared.Code.TheVariants as Code
use Rattle.model.specs.declared.Unary.{Unary}

-- A command of this many bytes changes the height from one to another. PUSH, LOAD and FETCH put a word on the stack; an
-- operator takes its operands off and puts its value on.
pub data Changes : Code → ℕ → ℕ → ℕ → Type 0 where
  push : {height : ℕ} {w : ℤ} → Changes (Code.Push w) (in_code 0x50) height (suc height)
  load : {height x : ℕ} → Changes (Code.Load x) (in_code 0x51) height (suc height)
  fetch : {height x : ℕ} → Changes (Code.Fetch x) (in_code 0x52) height (suc height)
  binary : {height : ℕ} {operator : Binary} → Changes (Code.Binary operator) (in_code 0x30) (suc (suc height)) (suc height)
  unary : {height : ℕ} {operator : Unary} → Changes (Code.Unary operator) (in_code 0x38) (suc height) (suc height)
  choose : {height : ℕ} → Changes Code.If (in_code 0x3A) (suc (suc (suc height))) (suc height)

-- The code, run from an offset with the stack at a height, goes on to its STORE, and the stack never holds more than `most`
-- words.
pub data Within (most : ℕ) (code : List ℕ) : ℕ → ℕ → Type 0 where
  store : {at height x : ℕ} → CodeWritten code at (Code.Store x) → height ≤ most → Within most code at height
  onward : {at height width after : ℕ} {c : Code} → CodeWritten code at c → height ≤ most → Changes c width height after →
      Within most code (at + width) after → Within most code at height
