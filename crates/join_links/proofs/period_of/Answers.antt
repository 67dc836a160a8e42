-- `join_links::period_of` meets its contract. Assumes nothing.
use Prim.Native.Nat.{ℕ}
use mathlib.Core.Path.{sym, ap, ◌∙◌}
use native.Mathlib.Omega.{arith}
use lib.ListN.{get_or}
use Rattle.model.specs.Rules.Join.{is_declared}
use Rattle.model.proofs.Basics.Outcomes.{not-true-false}
use Rattle.join_links.proofs.Right.{declared-inside}
use Rattle.join_links.proofs.period_of.Goals as goal

pub returns-then-part-ge8 : goal.returns-then-part-ge8
returns-then-part-ge8 c =
    let a = c.args in record {
      inside = (λ lt. absurd (omega arith));
      value = (λ parts t. sym (rw (not-true-false (is_declared parts a.part a.signal)
          (λ e. absurd (omega (arith, (declared-inside parts _ t a.part a.signal e).0, c.if-part-ge8.true))))));
    }

pub returns-then-signal-ge64 : goal.returns-then-signal-ge64
returns-then-signal-ge64 c =
    let a = c.args in record {
      inside = (λ lt. absurd (omega arith));
      value = (λ parts t. sym (rw (not-true-false (is_declared parts a.part a.signal)
          (λ e. absurd (omega (arith, (declared-inside parts _ t a.part a.signal e).1, c.if-signal-ge64.true))))));
    }

pub returns : goal.returns
returns c =
    let c4 = c in
    let a = c4.args in record {
      inside = (λ lt. (omega (arith, c4.if-part-ge8.false), omega (arith, c.if-signal-ge64.false)));
      value = (λ parts t.
          ap (λ (n : ℕ). get_or a.periods.now n 0)
          (omega (arith, c.from_byte-2.ensures.0, c.from_byte.ensures.0)) ∙
          t.each a.part a.signal (omega (arith, c4.if-part-ge8.false)) (omega (arith, c.if-signal-ge64.false)));
    }

pub overflow_mul-at : goal.overflow_mul-at
overflow_mul-at c = omega (arith, c.from_byte.ensures.1)

pub overflow_add-at : goal.overflow_add-at
overflow_add-at c = omega (arith, c.from_byte-2.ensures.1, c.from_byte.ensures.1)

pub bounds-periods-at : goal.bounds-periods-at
bounds-periods-at c = let w = c in
    omega (arith, c.from_byte-2.ensures.0, w.from_byte.ensures.0, w.if-signal-ge64.false, w.if-part-ge8.false)
