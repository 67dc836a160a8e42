-- `trial_step::next_line` meets its contract. Assumes nothing.
use Rattle.trial_step.proofs.Left.{left-some, left-none, lined, none_left}
use Rattle.machine.specs.Runnable.{Runnable}
use Rattle.trial_step.specs.Underway.{calls_left, sought_calls, Seeking, next_cycle, StepsOn}
use Rattle.trial_step.specs.Underway.{Sought}
use Rattle.trial_step.proofs.Seeks.{sought-is, within-run, after_run, stepped-cycle, stepped-none}
use Rattle.model.specs.Says.Calls.{cycle}
use lib.IntN.{ℤ}
use lib.ListN.{length}
use Prim.Native.Nat.{ℕ, ◌-◌}
use mathlib.Core.List.{List, ◌∷◌}
use mathlib.Core.Path.{◌≡◌, ap, ◌∙◌}
use native.Mathlib.Omega.{arith}
use Rattle.trial_step.proofs.next_line.Goals as goal
use Rattle.trial_step.proofs.next_line.Goals.{After-seek, In-Some, Start, Then-left-gt0}

-- within a RUN
abbrev run-start : Then-left-gt0 → Start
run-start t = (goal.at.Then-left-gt0 t).Start

run-calls : (t : Then-left-gt0) → let a = (run-start t).args in
    calls_left a.text.now a.progress.at a.progress.left a.samples.now ≡
    cycle a.samples.now ∷ calls_left a.text.now a.progress.at (a.progress.left - 1) a.samples.now
run-calls t =
    let a = (run-start t).args in
    left-some a.text.now a.progress.at a.samples.now a.progress.left t.if-left-gt0.true

-- at its end
abbrev seek-start : After-seek → Start
seek-start k = (goal.at.After-seek k).Start

sought-calls : (k : After-seek) → let a = (seek-start k).args in
    calls_left a.text.now a.progress.at a.progress.left a.samples.now ≡
    sought_calls a.text.now k.seek.new.samples k.seek.result
sought-calls k =
    let a = (seek-start k).args in
    let none : a.progress.left ≡ 0 = omega (arith, k.if-left-gt0.false) in
    ap (λ (n : ℕ). calls_left a.text.now a.progress.at n a.samples.now) none ∙
    left-none a.text.now a.progress.at a.samples.now ∙ k.seek.ensures.calls

-- the next cycle
sought-next : (k : After-seek) → let a = (seek-start k).args in
    next_cycle a.text.now a.progress a.samples.now ≡
    record { sought = k.seek.result; samples = k.seek.new.samples }
sought-next k =
    let a = (seek-start k).args in
    let none : a.progress.left ≡ 0 = omega (arith, k.if-left-gt0.false) in
    after_run a.text.now a.progress a.samples.now none ∙
    sought-is a.text.now a.progress.at a.samples.now k.seek.ensures.found k.seek.ensures.left

abbrev seeking : List ℤ → Sought → Seeking
seeking samples r = record { sought = r; samples = samples }

cycle-calls : (o : In-Some) → let k = (goal.at.In-Some o).After-seek in let a = (seek-start k).args in
    calls_left a.text.now a.progress.at a.progress.left a.samples.now ≡
    cycle k.seek.new.samples ∷ calls_left a.text.now o.in-Some.after o.in-Some.more
    k.seek.new.samples
cycle-calls o =
    let k = (goal.at.In-Some o).After-seek in
    sought-calls k ∙ ap (sought_calls (seek-start k).args.text.now k.seek.new.samples) o.in-Some.is

pub print_cycle-size-requires : goal.print_cycle-size-requires
print_cycle-size-requires c = (c.requires.0.runnable, c.requires.1)

pub overflow_add-next : goal.overflow_add-next
overflow_add-next c = let t = (goal.at.overflow_add-next c).Then-left-gt0 in
    omega (arith, (run-start t).requires.0.few, ap length (run-calls t))

pub returns-then-left-gt0 : goal.returns-then-left-gt0
unfolding StepsOn
returns-then-left-gt0 c =
    let t = (goal.at.returns-then-left-gt0 c).Then-left-gt0 in
    let a = c.args in
    let printed = c.print_cycle-size.ensures in record {
      steps = lined a.progress.at (a.progress.left - 1) c.requires.0 c.requires.0.runnable (run-calls t) printed;
      is = stepped-cycle a.image.now a.text.now a.progress a.samples.now a.state.now a.line.now
          a.progress.at (a.progress.left - 1)
          (within-run a.text.now a.progress a.samples.now t.if-left-gt0.true) printed;
    }

pub returns-in_default : goal.returns-in_default
unfolding StepsOn
returns-in_default c =
    let k = (goal.at.returns-in_default c).After-seek in
    let a = (seek-start k).args in record {
      steps = none_left a.image.now a.text.now a.progress a.samples.now a.state.now
          (sought-calls k ∙ ap (sought_calls a.text.now k.seek.new.samples) c.in_default.is);
      is = stepped-none a.image.now a.text.now a.progress a.samples.now a.state.now a.line.now
          (sought-next k ∙ ap (seeking k.seek.new.samples) c.in_default.is);
    }

-- the samples that were sought are as many
sought-runnable : (k : After-seek) → let a =
    (seek-start k).args in Runnable a.image.now a.state.now k.seek.new.samples
sought-runnable k =
    let r = (seek-start k).requires.0.runnable in
    record {
      formed = r.formed;
      long = r.long;
      position = r.position;
      enough = omega (arith, r.enough, k.seek.auto.samples);
    }

pub print_cycle-size-requires-2 : goal.print_cycle-size-requires-2
print_cycle-size-requires-2 c =
    let k = (goal.at.print_cycle-size-requires-2 c).After-seek in (sought-runnable k, (seek-start k).requires.1)

pub overflow_add-next-2 : goal.overflow_add-next-2
overflow_add-next-2 c = let o = (goal.at.overflow_add-next-2 c).In-Some in
    omega (arith, (seek-start (goal.at.In-Some o).After-seek).requires.0.few, ap length (cycle-calls o))

pub returns : goal.returns
unfolding StepsOn
returns c =
    let o = (goal.at.returns c).In-Some in
    let k = (goal.at.returns c).After-seek in
    let a = (seek-start k).args in record {
      steps = lined o.in-Some.after o.in-Some.more (seek-start k).requires.0 (sought-runnable k) (cycle-calls o)
          c.print_cycle-size-2.ensures;
      is = stepped-cycle a.image.now a.text.now a.progress a.samples.now a.state.now a.line.now
          o.in-Some.after o.in-Some.more
          (sought-next k ∙ ap (seeking k.seek.new.samples) o.in-Some.is) c.print_cycle-size-2.ensures;
    }
