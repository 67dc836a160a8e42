-- `latency_rule::cycle_of` meets its contract. Assumes nothing.
use Prim.Native.Nat.{◌*◌, ◌≤◌}
use native.Mathlib.Omega.{arith}
use Rattle.latency_rule.proofs.Hops.{times-byte}
use borrow.Author.Rules.{rules}
use Rattle.latency_rule.proofs.cycle_of.Goals as goal
use Rattle.latency_rule.proofs.cycle_of.Goals.{Start}

product : (s : Start) → s.args.k * s.args.timing.period ≤ 255000000
product s = times-byte s.args.k s.args.timing.period s.requires (omega arith)

pub overflow_mul-result : goal.overflow_mul-result
overflow_mul-result c = omega (arith, product (goal.at.overflow_mul-result c).Start)

pub overflow_add-result : goal.overflow_add-result
overflow_add-result c = omega (arith, product (goal.at.overflow_add-result c).Start)

pub returns : goal.returns
returns c = omega (arith, product (goal.at.returns c).Start)
