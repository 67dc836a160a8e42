-- The command that is written at an offset of a code is the one decoded there. Assumes nothing.
use Prim.Native.Nat.{ℕ, ◌<◌}
use mathlib.Core.List.{List}
use mathlib.Core.Path.{◌≡◌}
use native.Mathlib.Omega.{arith}
use lib.ListN.{length}
use Rattle.model.specs.Rules.Machine.{code_at}
use Rattle.model.specs.Says.Written.{CodeWritten, CodeWhole}
use Rattle.model.specs.declared.Code.{Code}
use Rattle.model.proofs.Texts.Written.{code-written}

module _ {code : List ℕ} {at : ℕ} {c : Code} where
  pub written : code_at code at ≡ c → CodeWhole c → CodeWritten code at c
  written e whole = (code-written code at c).0 (e, whole)

  pub decoded : CodeWritten code at c → code_at code at ≡ c
  decoded w = ((code-written code at c).1 w).0

pub inside : {code : List ℕ} {at : ℕ} {c : Code} → CodeWritten code at c → at < length code
inside (CodeWritten.push le e) = omega arith
inside (CodeWritten.load le e) = omega arith
inside (CodeWritten.fetch le e) = omega arith
inside (CodeWritten.store le e) = omega arith
inside (CodeWritten.binary operator le e) = omega arith
inside (CodeWritten.unary operator le e) = omega arith
inside (CodeWritten.choose le e) = omega arith
