-- `trial_script::count_cycles` meets its contract. Assumes nothing.
use Rattle.trial_script.proofs.Walk.{inside, actions-past, actions-here, cycles-none, cycles-more}
use Rattle.trial_script.specs.Script.{action_width, cycles_made}
use Rattle.model.specs.Rules.Script.{script_command_at}
use lib.ListN.{length}
use Prim.Native.Nat.{ℕ, ◌+◌, ◌≤◌}
use mathlib.Core.List.{List}
use mathlib.Core.Path.{◌≡◌, ap, ◌∙◌}
use native.Mathlib.Omega.{arith}
use Rattle.trial_script.proofs.count_cycles.Goals as goal
use Rattle.trial_script.proofs.count_cycles.Goals.{After-action_width-width, At-loop-at}

abbrev turn : After-action_width-width → At-loop-at
turn w = (goal.at.After-action_width-width w).At-loop-at

abbrev text : After-action_width-width → List ℕ
text w = (turn w).args.text.now

width : (w : After-action_width-width) → w.action_width-width.result ≡
    action_width (script_command_at (text w) (turn w).loop-at.at)
width w = w.action_width-width.ensures ∙ ap action_width w.script_command_at-command.ensures

within : (w : After-action_width-width) → (turn w).loop-at.at + w.action_width-width.result ≤ length (text w)
within w = inside (text w) (turn w).loop-at.at w.action_width-width.result (width w) w.loop-at-test.true

pub returns-then-width-eq0 : goal.returns-then-width-eq0
returns-then-width-eq0 c = let w = (goal.at.returns-then-width-eq0 c).After-action_width-width in
    let none = cycles-none _ (actions-here (text w) c.loop-at.at w.action_width-width.result (width w) c.if-width-eq0.true) in
    (omega (arith, none, c.loop-at.invariant.0), omega (arith, c.loop-at.invariant.1, c.requires))

pub overflow_add-total : goal.overflow_add-total
overflow_add-total c =
    let w = (goal.at.overflow_add-total c).After-action_width-width in
    omega (arith, (turn w).loop-at.invariant.1, (turn w).requires, c.from_byte-total.ensures.1)

pub overflow_add-at : goal.overflow_add-at
overflow_add-at c = let w = (goal.at.overflow_add-at c).After-action_width-width in omega (arith, within w)

pub loop-at-smaller : goal.loop-at-smaller
loop-at-smaller c = let w = (goal.at.loop-at-smaller c).After-action_width-width in omega (arith, within w)

pub loop-at-preserved : goal.loop-at-preserved
loop-at-preserved c = let w = (goal.at.loop-at-preserved c).After-action_width-width in
    let runs : c.from_byte-total.result ≡ cycles_made (script_command_at (text w) c.loop-at.at) =
    c.from_byte-total.ensures.0 ∙ c.cycles_made.ensures ∙ ap cycles_made w.script_command_at-command.ensures in
    let more = cycles-more (text w) c.loop-at.at w.action_width-width.result (width w) (omega arith) in (
      omega (arith, runs, more, c.loop-at.invariant.0),
      omega (arith, c.from_byte-total.ensures.1, c.loop-at.invariant.1),
      within w,
    )

pub returns : goal.returns
returns c =
    let none = cycles-none _ (actions-past c.args.text.now c.loop-at.at (omega arith)) in
    (omega (arith, none, c.loop-at.invariant.0), omega (arith, c.loop-at.invariant.1, c.requires))

pub loop-at-init : goal.loop-at-init
loop-at-init c = (omega arith, omega arith, omega arith)
