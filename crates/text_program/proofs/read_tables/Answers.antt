-- `text_program::read_tables` meets its contract. Assumes nothing.
use Prim.Native.Nat.{ℕ}
use mathlib.Core.List.{List}
use mathlib.Core.Path.{◌≡◌, refl, sym, ap, subst, ◌∙◌}
use native.Mathlib.Omega.{arith}
use Rattle.std.specs.Prelude.{Result, Ok}
use Rattle.std.proofs.lemmas.Result.{err_from_is_err_and}
use Rattle.model.specs.declared.Fault.{Fault}
use Rattle.text_program.specs.Steps.{Added, Stepped}
use Rattle.text_program.specs.Tables.{filled}
use Rattle.text_program.specs.declared.Step.{Step}
use Rattle.text_program.specs.declared.Walk.{Walk}
use Rattle.text_program.proofs.Tabled.{
  Reading,
  same_size,
  entry-fits,
  entry-next,
  lookups-next,
  program-refused,
  program-done,
  program-ends,
  starts-empty,
}
use Rattle.text_program.proofs.read_tables.Goals as goal
use Rattle.text_program.proofs.read_tables.Goals.{After-read_command, At-loop-walk, In-Adds}

-- where a command is read
module _ (c : After-read_command) where
  abbrev top : At-loop-walk
  top = (goal.at.After-read_command c).At-loop-walk

  abbrev least : ℕ
  least = c.args.least

  abbrev text : List ℕ
  text = c.args.text.now

  abbrev before : Walk
  before = c.loop-walk.walk

  reading : Reading least text c.loop-walk.reads c.loop-walk.tables before.at c.loop-walk.label before.reads before.code
  reading = c.loop-walk.invariant.2

  abbrev kept : List ℕ
  kept = c.read_command.new.reads

  stepped : {r : Result Step Fault} → c.read_command.result ≡ r →
      Stepped least text before.at c.loop-walk.label reading.program c.loop-walk.reads before.reads before.code
      c.loop-walk.tables.lookups kept r
  stepped e =
      subst
      (Stepped least text before.at c.loop-walk.label reading.program c.loop-walk.reads before.reads before.code
      c.loop-walk.tables.lookups kept)
      e (rw c.loop-walk.invariant.1 at c.read_command.ensures reading.program c.loop-walk.label reading.tables.counts)

-- where it adds an entry
module _ (c : In-Adds) where
  abbrev b : After-read_command
  b = (goal.at.In-Adds c).After-read_command

  added :
      Added (least b) (text b) (before b).at b.loop-walk.label (reading b).program c.in-Adds.entry b.loop-walk.reads
      (before b).reads (before b).code b.loop-walk.tables.lookups (kept b) c.in-Adds.next
  unfolding Stepped
  added = stepped b (c.in_ok-step.was ∙ ap Ok c.in-Adds.is)

pub loop-walk-init : goal.loop-walk-init
loop-walk-init c =
    let u = c.requires.2 in
    (refl, sym u.no-lookups, starts-empty _ _ _ _ c.requires.0 c.requires.1 u)

pub add-label-requires : goal.add-label-requires
add-label-requires c =
    let k = (goal.at.add-label-requires c).In-Adds in
    (omega (arith, c.loop-walk-test.true, c.requires.0), entry-fits (reading (b k)) c.loop-walk-test.true (added k))

pub loop-walk-preserved : goal.loop-walk-preserved
loop-walk-preserved c =
    let k = (goal.at.loop-walk-preserved c).In-Adds in
    let r = reading (b k) in
    let lt = c.loop-walk-test.true in
    rw (c.add-label.ensures.0, c.add-label.ensures.1) (
      same_size r lt (added k) ∙ c.loop-walk.invariant.0,
      lookups-next r lt (added k),
      entry-next r lt (added k),
    )

pub loop-walk-smaller : goal.loop-walk-smaller
loop-walk-smaller c =
    let k = (goal.at.loop-walk-smaller c).In-Adds in
    omega (arith, (added k).forward, c.loop-walk-test.true)

pub returns-in_err-step : goal.returns-in_err-step
returns-in_err-step c =
    let k = (goal.at.returns-in_err-step c).After-read_command in
    let p = err_from_is_err_and c.from_residual.result c.from_residual.ensures.1 in
    program-refused (reading k) c.loop-walk-test.true _ _ (stepped k c.in_err-step.was) _ (rw (p.1, p.2) refl)

pub returns-in_default : goal.returns-in_default
returns-in_default c =
    let k = (goal.at.returns-in_default c).After-read_command in
    program-done (reading k) c.loop-walk-test.true _ (stepped k (c.in_ok-step.was ∙ ap Ok c.in_default.is))

pub returns : goal.returns
returns c =
    program-ends c.loop-walk.invariant.2 c.loop-walk-test.false _ _ (ap (filled c.loop-walk.tables) c.refuse.ensures)
