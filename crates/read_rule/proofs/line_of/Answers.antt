-- `read_rule::line_of` meets its contract. Assumes nothing.
use Prim.Native.Nat.{ℕ, ◌≤◌}
use mathlib.Core.Bool.{Bool, true, false, cond}
use native.Mathlib.Omega.{arith}
use borrow.Author.Rules.{rules}
use Rattle.read_rule.specs.Lines.{line_in}
use Rattle.read_rule.proofs.line_of.Goals as goal
use Rattle.read_rule.proofs.line_of.Goals.{After-either-ahead, After-either-cycle, After-either-period, After-either-start, After-either-step, After-either-stride, After-is_current-current}

stride-within : (plain : Bool) (period : ℕ) → cond plain 0 period ≤ cond plain 256 period
stride-within true period = omega arith
stride-within false period = omega arith

-- what the calls have made, and how small it is
module _ (c : After-either-ahead) where
  abbrev stride-at : After-either-stride
  stride-at = c.before.before.before

  abbrev step-at : After-either-step
  step-at = c.before.before.before.before

  abbrev cycle-at : After-either-cycle
  cycle-at = c.before.before.before.before.before

  abbrev start-at : After-either-start
  start-at = c.before.before.before.before.before.before.before.before

  abbrev period-at : After-either-period
  period-at = c.before.before.before.before.before.before.before.before.before.before.before

  abbrev flags-at : After-is_current-current
  flags-at = c.before.before.before.before.before.before.before.before.before.before.before.before.before.before

  period-small : period-at.either-period.result ≤ 256
  period-small =
      period-at.either-period.ensures.1 (omega (arith, period-at.from_byte.ensures.1))
      (omega (arith, period-at.from_byte-2.ensures.1))

  start_small : start-at.either-start.result ≤ 256
  start_small =
      start-at.either-start.ensures.1 (omega (arith, start-at.from_byte-3.ensures.1))
      (omega (arith, start-at.from_byte-4.ensures.1))

  cycle-small : cycle-at.either-cycle.result ≤ 256
  cycle-small =
      cycle-at.either-cycle.ensures.1 (omega (arith, cycle-at.from_byte-5.ensures.1))
      (omega (arith, cycle-at.from_byte-6.ensures.1))

  step_small : step-at.either-step.result ≤ 256
  step_small = step-at.either-step.ensures.1 (omega arith) period-small

  stride-small : stride-at.either-stride.result ≤ 256
  stride-small = stride-at.either-stride.ensures.1 (omega arith) period-small

  ahead_small : c.either-ahead.result ≤ 256
  ahead_small = c.either-ahead.ensures.1 (omega (arith, c.minus.ensures, step_small)) (omega arith)

pub returns : goal.returns
unfolding line_in
returns c =
    let l = stride-at c in
    let p = step-at c in
    let y = cycle-at c in
    let t = start-at c in
    let d = period-at c in
    let f = flags-at c in
    record {
      is =
          cc (
            c.either-ahead.ensures.0,
            c.minus.ensures,
            c.is_before.ensures,
            l.either-stride.ensures.0,
            p.either-step.ensures.0,
            y.either-cycle.ensures.0,
            y.from_byte-6.ensures.0,
            y.from_byte-5.ensures.0,
            t.either-start.ensures.0,
            t.from_byte-4.ensures.0,
            t.from_byte-3.ensures.0,
            d.either-period.ensures.0,
            d.from_byte-2.ensures.0,
            d.from_byte.ensures.0,
            f.is_current-current.ensures,
            f.is_plain-plain.ensures,
          );
      small =
          record {
            origin-small = omega (arith, start_small c, ahead_small c);
            stride-small = stride-small c;
            step_small = step_small c;
            cycle-small = cycle-small c;
            ahead_small = ahead_small c;
            within =
                omega (
                  arith,
                  l.either-stride.ensures.0,
                  p.either-step.ensures.0,
                  stride-within f.is_plain-plain.result d.either-period.result,
                );
          };
      read_byte = omega (arith, t.from_byte-4.ensures);
      reader-byte = omega (arith, t.from_byte-3.ensures);
    }

pub overflow_add-result : goal.overflow_add-result
overflow_add-result c = omega (arith, start_small c, ahead_small c)
