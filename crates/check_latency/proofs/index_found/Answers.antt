-- `check_latency::index_found` meets its contract. Assumes nothing.
use native.Mathlib.Omega.{arith}
use mathlib.Core.Path.{subst}
use Rattle.check_latency.specs.Timely.{ByteFound}
use borrow.Author.Rules.{rules}
use Rattle.check_latency.proofs.index_found.Goals as goal

pub overflow_cast-result : goal.overflow_cast-result
overflow_cast-result c = omega (arith, subst ByteFound c.in-Some.is c.requires)
