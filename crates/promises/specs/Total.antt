-- Demand 1, total. That every call takes any bytes, ends, and does its job or gives a numbered refusal with a place is in the
-- contracts (crate `larderlate`): none has a `requires`. Here is what a refused call leaves.
use Rattle.std.specs.Prelude.{ℕ, List, ◌≡◌, ℤ}
use Rattle.model.specs.Rules.Compile.{compile_of}
use Rattle.model.specs.Rules.Outcome.{refused}
use Rattle.model.specs.Says.Calls.{Call, call_of}
use Rattle.model.specs.declared.Fault.{Fault}

pub record Total : Type 0 where
  -- A refused call changes nothing that was lent to it: a compile leaves the buffer ..
  pub compile-keeps : (program schedule buffer : List ℕ) (f : Fault) →
      (compile_of program schedule buffer).answer ≡ refused f → (compile_of program schedule buffer).left ≡ buffer
  -- .. and a reset or a cycle the state.
  pub call-keeps : (lent : List ℕ) (state : List ℤ) (c : Call) (f : Fault) → (call_of lent state c).answer ≡ refused f →
      (call_of lent state c).left ≡ state
