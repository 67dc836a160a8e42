-- `read_rule::number_at` meets its contract. Assumes nothing.
use native.Mathlib.Omega.{arith}
use borrow.Author.Rules.{rules}
use Rattle.read_rule.proofs.Searches.{small_product}
use Rattle.read_rule.proofs.number_at.Goals as goal

pub overflow_mul-result : goal.overflow_mul-result
overflow_mul-result c =
    let s = c in
    omega (arith, small_product s.args.index s.args.line.stride s.requires.1 s.requires.0.stride-small)

pub overflow_add-result : goal.overflow_add-result
overflow_add-result c =
    let s = c in
    omega (
      arith,
      small_product s.args.index s.args.line.stride s.requires.1 s.requires.0.stride-small,
      s.requires.0.origin-small,
    )
