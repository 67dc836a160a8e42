-- `trial_step::seek` meets its contract. Assumes nothing.
use Rattle.std.specs.Prelude.{None}
use Rattle.trial_step.proofs.Left.{seek-step, left-some, left-none}
use Rattle.trial_step.specs.Underway.{calls_left, nothing_sought, cycle_sought, seek_from, seek_of}
use Rattle.trial_step.proofs.Seeks.{seek-none, seek-past, seek-cycle, seek-on}
use Rattle.trial_script.proofs.Walk.{inside, actions-past, actions-here, calls-none}
use Rattle.trial_script.specs.Script.{action_width, cycles_made, altered}
use Rattle.model.specs.Rules.Script.{script_command_at, script_at, calls_from}
use lib.ListN.{length}
use Prim.Native.Nat.{ℕ, ◌+◌, ◌-◌, ◌≤◌, ◌<◌}
use mathlib.Core.List.{List}
use mathlib.Core.Path.{◌≡◌, refl, sym, ap, ◌∙◌}
use native.Mathlib.Omega.{arith}
use Rattle.trial_step.proofs.seek.Goals as goal
use Rattle.trial_step.proofs.seek.Goals.{After-action_width-width, After-cycles_made-runs, At-loop-at}

abbrev turn : After-action_width-width → At-loop-at
turn w = (goal.at.After-action_width-width w).At-loop-at

abbrev text : After-action_width-width → List ℕ
text w = (turn w).args.text.now

width : (w : After-action_width-width) → w.action_width-width.result ≡
    action_width (script_command_at (text w) (turn w).loop-at.at)
width w = w.action_width-width.ensures ∙ ap action_width w.script_command_at-command.ensures

within : (w : After-action_width-width) → (turn w).loop-at.at + w.action_width-width.result ≤ length (text w)
within w = inside (text w) (turn w).loop-at.at w.action_width-width.result (width w) w.loop-at-test.true

abbrev at_width : After-cycles_made-runs → After-action_width-width
at_width r = (goal.at.After-cycles_made-runs r).After-action_width-width

-- what is sought from here on
abbrev sought : (l : At-loop-at) → let a = l.args in
    (n : ℕ) × (length a.text.now ≤ n + l.loop-at.at) ×
    (seek_of a.text.now a.from a.samples.now ≡ seek_from n a.text.now l.loop-at.at l.loop-at.samples)
sought l = l.loop-at.invariant.2

ends : (l : At-loop-at) → let a = l.args in
    seek_from (sought l).0 a.text.now l.loop-at.at l.loop-at.samples ≡ nothing_sought l.loop-at.samples →
    (None ≡ (seek_of a.text.now a.from a.samples.now).sought) ×
    (l.loop-at.samples ≡ (seek_of a.text.now a.from a.samples.now).samples)
ends l e =
    let is = (sought l).2 ∙ e in (sym (ap (λ s. s.sought) is), sym (ap (λ s. s.samples) is))

-- the command of this turn
here : (r : After-cycles_made-runs) → let w = at_width r in let l = turn w in
    calls_from l.loop-at.samples (script_at (text w) l.loop-at.at).actions ≡
    calls_left (text w) (l.loop-at.at + w.action_width-width.result) r.cycles_made-runs.result r.alter.new.samples
here r =
    let w = at_width r in
    let l = turn w in
    let is = w.script_command_at-command.ensures in
    seek-step (text w) l.loop-at.at w.action_width-width.result r.cycles_made-runs.result l.loop-at.samples
    r.alter.new.samples (width w)
    (omega (arith, r.if-width-eq0.false))
    (r.alter.ensures ∙ ap (altered l.loop-at.samples) is)
    (r.cycles_made-runs.ensures ∙ ap cycles_made is)

cycles : (r : After-cycles_made-runs) → let w = at_width r in let l = turn w in
    0 < r.cycles_made-runs.result →
    seek_from (sought l).0 (text w) l.loop-at.at l.loop-at.samples ≡
    cycle_sought (l.loop-at.at + w.action_width-width.result) (r.cycles_made-runs.result - 1) r.alter.new.samples
cycles r some =
    let w = at_width r in
    let l = turn w in
    let is = w.script_command_at-command.ensures in
    seek-cycle (text w) l.loop-at.at l.loop-at.samples r.alter.new.samples w.action_width-width.result
    r.cycles_made-runs.result (width w)
    (omega (arith, r.if-width-eq0.false))
    (r.alter.ensures ∙ ap (altered l.loop-at.samples) is)
    (r.cycles_made-runs.ensures ∙ ap cycles_made is) (sought l).0 (sought l).1 w.loop-at-test.true some

on : (r : After-cycles_made-runs) → let w = at_width r in let l = turn w in
    r.cycles_made-runs.result ≡ 0 →
    (m : ℕ) × (length (text w) ≤ m + (l.loop-at.at + w.action_width-width.result)) ×
    (seek_from (sought l).0 (text w) l.loop-at.at l.loop-at.samples ≡
    seek_from m (text w) (l.loop-at.at + w.action_width-width.result) r.alter.new.samples)
on r none =
    let w = at_width r in
    let l = turn w in
    let is = w.script_command_at-command.ensures in
    seek-on (text w) l.loop-at.at l.loop-at.samples r.alter.new.samples w.action_width-width.result
    r.cycles_made-runs.result (width w)
    (omega (arith, r.if-width-eq0.false))
    (r.alter.ensures ∙ ap (altered l.loop-at.samples) is)
    (r.cycles_made-runs.ensures ∙ ap cycles_made is) (sought l).0 (sought l).1 w.loop-at-test.true none

pub returns-then-width-eq0 : goal.returns-then-width-eq0
returns-then-width-eq0 c = let w = (goal.at.returns-then-width-eq0 c).After-action_width-width in
    let l = (goal.at.returns-then-width-eq0 c).At-loop-at in
    let none = actions-here (text w) l.loop-at.at w.action_width-width.result (width w) c.if-width-eq0.true in
    let last = ends l (seek-none (text w) l.loop-at.at l.loop-at.samples (sought l).0 (sym (width w) ∙ c.if-width-eq0.true)) in
    record { calls = l.loop-at.invariant.0 ∙ calls-none l.loop-at.samples _ none; found = last.0; left = last.1 }

pub overflow_add-at : goal.overflow_add-at
overflow_add-at c = let w = (goal.at.overflow_add-at c).After-action_width-width in omega (arith, within w)

pub shape_of-samples-then-runs-gt0 : goal.shape_of-samples-then-runs-gt0
shape_of-samples-then-runs-gt0 c = c.alter.auto.samples ∙ c.loop-at.invariant.1

pub returns-then-runs-gt0 : goal.returns-then-runs-gt0
returns-then-runs-gt0 c = let r = (goal.at.returns-then-runs-gt0 c).After-cycles_made-runs in
    let w = (goal.at.returns-then-runs-gt0 c).After-action_width-width in
    let l = (goal.at.returns-then-runs-gt0 c).At-loop-at in
    let is = (sought l).2 ∙ cycles r c.if-runs-gt0.true in record {
      calls = l.loop-at.invariant.0 ∙ here r ∙
          left-some (text w) (l.loop-at.at + w.action_width-width.result) r.alter.new.samples r.cycles_made-runs.result
          c.if-runs-gt0.true;
      found = sym (ap (λ s. s.sought) is);
      left = sym (ap (λ s. s.samples) is);
    }

pub loop-at-smaller : goal.loop-at-smaller
loop-at-smaller c = let w = (goal.at.loop-at-smaller c).After-action_width-width in omega (arith, within w, c.if-width-eq0.false)

pub loop-at-preserved : goal.loop-at-preserved
loop-at-preserved c = let r = (goal.at.loop-at-preserved c).After-cycles_made-runs in
    let w = (goal.at.loop-at-preserved c).After-action_width-width in
    let l = (goal.at.loop-at-preserved c).At-loop-at in
    let none : r.cycles_made-runs.result ≡ 0 = omega (arith, c.if-runs-gt0.false) in (
      l.loop-at.invariant.0 ∙ here r ∙
          ap (λ (n : ℕ). calls_left (text w) (l.loop-at.at + w.action_width-width.result) n r.alter.new.samples) none ∙
          left-none (text w) (l.loop-at.at + w.action_width-width.result) r.alter.new.samples,
      r.alter.auto.samples ∙ l.loop-at.invariant.1,
      ((on r none).0, (on r none).1, (sought l).2 ∙ (on r none).2),
    )

pub returns : goal.returns
returns c = let l = (goal.at.returns c).At-loop-at in
    let text = l.args.text.now in
    let none = actions-past text l.loop-at.at (omega arith) in
    let last = ends l (seek-past text l.loop-at.at l.loop-at.samples (sought l).0 (omega arith)) in
    record { calls = l.loop-at.invariant.0 ∙ calls-none l.loop-at.samples _ none; found = last.0; left = last.1 }

pub loop-at-init : goal.loop-at-init
unfolding seek_of
loop-at-init c = (refl, refl, (length c.args.text.now, omega arith, refl))

pub shape_of-samples-then-width-eq0 : goal.shape_of-samples-then-width-eq0
shape_of-samples-then-width-eq0 c = c.loop-at.invariant.1

pub shape_of-samples : goal.shape_of-samples
shape_of-samples c = c.loop-at.invariant.1
