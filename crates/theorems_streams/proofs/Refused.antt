-- A refused call leaves what it was lent. Assumes nothing.
use Prim.Native.Nat.{ℕ}
use mathlib.Core.List.{List}
use mathlib.Core.Path.{◌≡◌, refl}
use native.Mathlib.Omega.{arith}
use lib.IntN.{ℤ}
use Rattle.model.specs.Rules.Compile.{compile_job, compile_of}
use Rattle.model.specs.Rules.Join.{join_job, join_of}
use Rattle.model.specs.Rules.Machine.{Job, effect, reset_job, reset_of, cycle_job, cycle_of}
use Rattle.model.specs.Rules.Outcome.{Outcome, accepted, refused}
use Rattle.model.specs.Rules.Rewrite.{convert_job, convert_of}
use Rattle.theorems_streams.specs.Lists.{Writer, writer_of}
use Rattle.model.specs.declared.Fault.{Fault}

pub refused-left : {Y A : Type 0} (lent : List A) (o : Outcome (Job Y A)) (f : Fault) → (effect lent o).answer ≡ refused f →
    (effect lent o).left ≡ lent
refused-left lent (accepted job) f e = let z : ◌≡◌ {A = ℕ} 0 1 = cc in absurd (omega arith)
refused-left lent (refused g) f e = refl

pub reset-keeps : (lent : List ℕ) (state : List ℤ) (f : Fault) → (reset_of lent state).answer ≡ refused f →
    (reset_of lent state).left ≡ state
unfolding reset_of
reset-keeps lent state f e = refused-left state (reset_job lent state) f e

pub cycle-keeps : (lent : List ℕ) (state samples : List ℤ) (f : Fault) → (cycle_of lent state samples).answer ≡ refused f →
    (cycle_of lent state samples).left ≡ state
unfolding cycle_of
cycle-keeps lent state samples f e = refused-left state (cycle_job lent state samples) f e

pub writer-keeps : (buffer : List ℕ) (w : Writer) (f : Fault) → (writer_of buffer w).answer ≡ refused f →
    (writer_of buffer w).left ≡ buffer
unfolding compile_of convert_of join_of
writer-keeps buffer (Writer.compiles program schedule) f e = refused-left buffer (compile_job program schedule buffer) f e
writer-keeps buffer (Writer.converts program) f e = refused-left buffer (convert_job program buffer) f e
writer-keeps buffer (Writer.joins texts numbers links) f e = refused-left buffer (join_job texts numbers links buffer) f e
