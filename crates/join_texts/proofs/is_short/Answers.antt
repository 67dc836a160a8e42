-- `join_texts::is_short` meets its contract. Assumes nothing.
use Prim.Native.Nat.{ℕ}
use mathlib.Core.Path.{◌≡◌, refl, sym, ap}
use native.Mathlib.Omega.{arith}
use borrow.Author.Tests.{le-leb, lt-leb}
use Rattle.model.specs.Rules.Join.{parts_in, program_total}
use Rattle.model.specs.Rules.Search.{sum, table_from, table}
use Rattle.model.proofs.Basics.Outcomes.{sum_first, sum-next}
use Rattle.model.proofs.Joining.Lent.{number-inside}
use Rattle.join_texts.proofs.is_short.Invariants.{size}
use Rattle.join_texts.proofs.is_short.Goals as goal

pub loop-k-init : goal.loop-k-init
unfolding table table_from sum
loop-k-init c = (refl, omega arith, refl)

pub overflow_mul-at : goal.overflow_mul-at
overflow_mul-at c =
    let l = c.loop-k in
    omega (arith, number-inside c.args.numbers.now l.k 1 (omega (arith, l.invariant.0)) (omega arith))

pub overflow_add-at : goal.overflow_add-at
overflow_add-at c =
    let l = c.loop-k in
    omega (arith, number-inside c.args.numbers.now l.k 1 (omega (arith, l.invariant.0)) (omega arith))

pub offset_bounds-numbers-at : goal.offset_bounds-numbers-at
offset_bounds-numbers-at c =
    let l = c.loop-k in
    omega (arith, number-inside c.args.numbers.now l.k 1 (omega (arith, l.invariant.0)) (omega arith))

pub bounds-numbers-at : goal.bounds-numbers-at
bounds-numbers-at c =
    let l = c.loop-k in
    omega (arith, number-inside c.args.numbers.now l.k 1 (omega (arith, l.invariant.0)) (omega arith))

-- one program is too long
pub returns-then-left-size : goal.returns-then-left-size
unfolding program_total
returns-then-left-size c =
    let l = c.loop-k in
    let numbers = c.args.numbers.now in
    sym (lt-leb (sum (table (parts_in numbers) (size numbers))) 8192
    (omega (arith, l.invariant.2, sum_first l.k (parts_in numbers) (size numbers) (omega (arith, l.invariant.0)))))

pub loop-k-preserved : goal.loop-k-preserved
loop-k-preserved c =
    let l = c.loop-k in
    let numbers = c.args.numbers.now in
    (l.invariant.0, omega arith, omega (arith, l.invariant.2, sum-next l.k (size numbers)))

-- all fit
pub returns : goal.returns
unfolding program_total
returns c =
    let l = c.loop-k in
    let numbers = c.args.numbers.now in
    let e : l.k ≡ parts_in numbers = omega (arith, l.invariant.0, l.invariant.1) in
    sym (le-leb (sum (table (parts_in numbers) (size numbers))) 8192
    (omega (arith, l.invariant.2, ap (λ (n : ℕ). sum (table n (size numbers))) e)))
