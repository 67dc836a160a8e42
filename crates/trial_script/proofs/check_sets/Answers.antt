-- `trial_script::check_sets` meets its contract. Assumes nothing.
use Rattle.trial_script.proofs.Walk.{inside, actions-past, actions-here, sets-none, sets-bad, sets_more}
use Rattle.trial_script.specs.Script.{ruled_of, action_width, may_stand}
use Rattle.model.specs.Rules.Script.{script_command_at}
use Rattle.trial_script.specs.Inputs.{marked}
use lib.ListN.{length}
use Prim.Native.Nat.{ℕ, ◌+◌, ◌≤◌}
use mathlib.Core.List.{List}
use mathlib.Core.Path.{◌≡◌, refl, sym, ap, ◌∙◌}
use mathlib.Core.Bool.{Bool}
use native.Mathlib.Omega.{arith}
use Rattle.trial_script.proofs.check_sets.Goals as goal
use Rattle.trial_script.proofs.check_sets.Goals.{After-action_width-width, After-may_stand, At-loop-at}

abbrev turn : After-action_width-width → At-loop-at
turn w = (goal.at.After-action_width-width w).At-loop-at

abbrev text : After-action_width-width → List ℕ
text w = (turn w).args.text.now

width : (w : After-action_width-width) → w.action_width-width.result ≡
    action_width (script_command_at (text w) (turn w).loop-at.at)
width w = w.action_width-width.ensures ∙ ap action_width w.script_command_at-command.ensures

within : (w : After-action_width-width) → (turn w).loop-at.at + w.action_width-width.result ≤ length (text w)
within w = inside (text w) (turn w).loop-at.at w.action_width-width.result (width w) w.loop-at-test.true

abbrev is_input : After-action_width-width → ℕ → Bool
is_input w = marked (turn w).args.inputs.now

stands : (m : After-may_stand) →
    let w = (goal.at.After-may_stand m).After-action_width-width in
    m.may_stand.result ≡ may_stand (is_input w) (script_command_at (text w) (turn w).loop-at.at)
stands m = let w = (goal.at.After-may_stand m).After-action_width-width in m.may_stand.ensures ∙
    ap (may_stand (is_input w)) w.script_command_at-command.ensures

pub returns-then-width-eq0 : goal.returns-then-width-eq0
returns-then-width-eq0 c = let w = (goal.at.returns-then-width-eq0 c).After-action_width-width in
    sym (c.loop-at.invariant.0 ∙ sets-none (is_input w) _
    (actions-here (text w) c.loop-at.at w.action_width-width.result (width w) c.if-width-eq0.true))

pub returns-then-not-may_stand : goal.returns-then-not-may_stand
returns-then-not-may_stand c =
    let w = (goal.at.returns-then-not-may_stand c).After-action_width-width in
    ap ruled_of c.refuse.ensures ∙
    sym (c.loop-at.invariant.0 ∙ sets-bad (text w) c.loop-at.at (is_input w)
    (sym (stands (goal.at.returns-then-not-may_stand c).After-may_stand) ∙ c.if-not-may_stand.true))

pub overflow_add-at : goal.overflow_add-at
overflow_add-at c = let w = (goal.at.overflow_add-at c).After-action_width-width in omega (arith, within w)

pub loop-at-smaller : goal.loop-at-smaller
loop-at-smaller c = let w = (goal.at.loop-at-smaller c).After-action_width-width in omega (arith, within w)

pub loop-at-preserved : goal.loop-at-preserved
loop-at-preserved c = let w = (goal.at.loop-at-preserved c).After-action_width-width in (
  c.loop-at.invariant.0 ∙ sets_more (text w) c.loop-at.at w.action_width-width.result (width w) (omega arith) (is_input w)
      (sym (stands (goal.at.loop-at-preserved c).After-may_stand) ∙ c.if-not-may_stand.false),
  within w,
)

pub returns : goal.returns
returns c =
    sym (c.loop-at.invariant.0 ∙ sets-none _ _ (actions-past c.args.text.now c.loop-at.at (omega arith)))

pub loop-at-init : goal.loop-at-init
loop-at-init c = (refl, omega arith)
