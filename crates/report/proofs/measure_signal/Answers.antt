-- `report::measure_signal` meets its contract. Assumes nothing.
use Prim.Native.Nat.{ℕ, ◌+◌, ◌≤◌, ◌<◌}
use mathlib.Core.List.{List}
use mathlib.Core.Path.{◌≡◌, sym, ap}
use native.Mathlib.Omega.{arith}
use lib.ListN.{length}
use Rattle.model.specs.Rules.Program.{Signal}
use Rattle.model.specs.Rules.Report.{body_commands, body_height}
use Rattle.model.specs.Rules.Word.{byte_at}
use Rattle.model.specs.Says.Stands.{SpellsSignal}
use Rattle.image_code.proofs.Signals.{Equated, equated, sampled, place_inside}
use Rattle.report.specs.Measure.{Nests, Measures}
use Rattle.report.proofs.Operands.{small}
use borrow.Author.Rules.{rules}
use Rattle.report.proofs.measure_signal.Goals as goal
use Rattle.report.proofs.measure_signal.Goals.{After-measure_expression-value, Start, Then-text-place-eq17}

-- where the signal's declaration stands
inside : (s : Start) → let a = s.args in
    (a.place < length a.text.now) × (byte_at a.text.now a.place ≡ 0x11 → a.place + 8 ≤ length a.text.now)
inside s = let h = s.requires.0 in place_inside _ _ h.signal h.stands h.spelled

-- a signal with an equation
module _ (c : Then-text-place-eq17) where
  abbrev start : Start
  start = (goal.at.Then-text-place-eq17 c).Start

  abbrev text : List ℕ
  text = start.args.text.now

  abbrev place : ℕ
  place = start.args.place

  equation-of : (σ : Signal) → σ.place ≡ place → SpellsSignal text σ → Equated text place σ
  equation-of σ at h = equated _ _ σ at h c.if-text-place-eq17.true

  nests : Nests 16 text (place + 8)
  nests =
      let s = start.requires.0 in
      let q = equation-of s.signal s.stands s.spelled in
      record { expr = q.expr; next = q.next; spelled = q.spelled; deep = q.deep }

-- what measuring the expression tells
module _ (m : After-measure_expression-value) where
  abbrev there : Then-text-place-eq17
  there = (goal.at.After-measure_expression-value m).Then-text-place-eq17

  told : Measures (text there) (place there + 8) m.measure_expression-value.result
  told = rw m.in_program.ensures at m.measure_expression-value.ensures

  few : m.measure_expression-value.result.commands ≤ 8192
  few =
      let s = small (nests there) told in
      omega (arith, s.fits, s.within, (start there).requires.1)

pub overflow_add-place : goal.overflow_add-place
overflow_add-place c =
    let s = (goal.at.overflow_add-place c).Start in
    omega (arith, (inside s).1 c.if-text-place-eq17.true, s.requires.1)

pub measure_expression-value-requires : goal.measure_expression-value-requires
measure_expression-value-requires c = rw c.in_program.ensures (nests (goal.at.measure_expression-value-requires c).Then-text-place-eq17, (start (goal.at.measure_expression-value-requires c).Then-text-place-eq17).requires.1)

pub returns-then-text-place-eq17 : goal.returns-then-text-place-eq17
returns-then-text-place-eq17 c =
    let m = (goal.at.returns-then-text-place-eq17 c).After-measure_expression-value in
    record {
      commands = λ σ at h.
          let q = equation-of (goal.at.After-measure_expression-value m).Then-text-place-eq17 σ at h in
          omega (arith, ((told m).tells q.expr q.next q.spelled).commands, ap body_commands q.body);
      height = λ σ at h.
          let q = equation-of (goal.at.After-measure_expression-value m).Then-text-place-eq17 σ at h in
          omega (arith, ((told m).tells q.expr q.next q.spelled).height, ap body_height q.body);
    }

pub returns : goal.returns
returns c =
    record {
      commands = λ σ at h. sym (ap body_commands (sampled _ _ σ at h c.if-text-place-eq17.false));
      height = λ σ at h. sym (ap body_height (sampled _ _ σ at h c.if-text-place-eq17.false));
    }

pub bounds-text-place : goal.bounds-text-place
bounds-text-place c = (inside (goal.at.bounds-text-place c).Start).0

pub overflow_add-total : goal.overflow_add-total
overflow_add-total c = omega (arith, few (goal.at.overflow_add-total c).After-measure_expression-value)

pub overflow_cast-commands : goal.overflow_cast-commands
overflow_cast-commands c = omega (arith, few (goal.at.overflow_cast-commands c).After-measure_expression-value)
