-- `trial_script::read_script` meets its contract. Assumes nothing.
use Rattle.trial_script.proofs.Walk.{inside, ending-past, ending_here, ending-more}
use Rattle.trial_script.specs.Script.{ruled_of, action_width, ending_at}
use Rattle.model.specs.Rules.Script.{script_command_at}
use lib.ListN.{length}
use Prim.Native.Nat.{ℕ, ◌+◌, ◌≤◌}
use mathlib.Core.List.{List}
use mathlib.Core.Path.{◌≡◌, refl, sym, ap, ◌∙◌}
use native.Mathlib.Omega.{arith}
use Rattle.trial_script.proofs.read_script.Goals as goal
use Rattle.trial_script.proofs.read_script.Goals.{After-action_width-width, At-loop-at}

abbrev turn : After-action_width-width → At-loop-at
turn w = (goal.at.After-action_width-width w).At-loop-at

abbrev text : After-action_width-width → List ℕ
text w = (turn w).args.text.now

width : (w : After-action_width-width) → w.action_width-width.result ≡
    action_width (script_command_at (text w) (turn w).loop-at.at)
width w = w.action_width-width.ensures ∙ ap action_width w.script_command_at-command.ensures

within : (w : After-action_width-width) → (turn w).loop-at.at + w.action_width-width.result ≤ length (text w)
within w = inside (text w) (turn w).loop-at.at w.action_width-width.result (width w) w.loop-at-test.true

pub returns-then-width-eq0 : goal.returns-then-width-eq0
returns-then-width-eq0 c =
    let w = (goal.at.returns-then-width-eq0 c).After-action_width-width in
    c.ending_at.ensures ∙ ap (ending_at (text w) c.loop-at.at) w.script_command_at-command.ensures ∙
    sym (ending_here (text w) c.loop-at.at w.action_width-width.result (width w) c.if-width-eq0.true) ∙ sym c.loop-at.invariant.0

pub overflow_add-at : goal.overflow_add-at
overflow_add-at c = let w = (goal.at.overflow_add-at c).After-action_width-width in omega (arith, within w)

pub loop-at-smaller : goal.loop-at-smaller
loop-at-smaller c = let w = (goal.at.loop-at-smaller c).After-action_width-width in omega (arith, within w)

pub loop-at-preserved : goal.loop-at-preserved
loop-at-preserved c = let w = (goal.at.loop-at-preserved c).After-action_width-width in let l = c in
    (l.loop-at.invariant.0 ∙ ending-more (text w) l.loop-at.at w.action_width-width.result (width w) (omega arith), within w)

pub returns : goal.returns
returns c =
    ap ruled_of c.refuse.ensures ∙ sym (ending-past c.args.text.now c.loop-at.at (omega arith)) ∙
    sym c.loop-at.invariant.0

pub loop-at-init : goal.loop-at-init
loop-at-init c = (refl, omega arith)
