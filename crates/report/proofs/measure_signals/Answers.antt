-- `report::measure_signals` meets its contract. Assumes nothing.
use Prim.Native.Nat.{ℕ, ◌-◌, ◌≤◌, ◌<◌, max}
use mathlib.Core.Path.{◌≡◌, refl, sym, ◌∙◌}
use native.Mathlib.Omega.{arith}
use lib.ListN.{length, get_or, drop, length-set}
use Rattle.model.specs.Rules.Program.{no_signal}
use Rattle.model.specs.Rules.Report.{body_commands, highest}
use Rattle.text_program.proofs.Filled.{filled}
use Rattle.image_write.specs.Codes.{declared_by}
use Rattle.report.proofs.Sums.{highest-next, highest-done}
use borrow.Author.Rules.{rules}
use Rattle.report.proofs.measure_signals.Goals as goal
use Rattle.report.proofs.measure_signals.Goals.{After-from_entry-place}

none : (y : ℕ) → y < 0 → ⊥
none y h = omega arith

pub loop-x-init : goal.loop-x-init
loop-x-init c = (omega arith, refl, omega arith, (λ y h. absurd (none y h)))

pub offset_bounds-places-x : goal.offset_bounds-places-x
offset_bounds-places-x c = omega (arith, c.requires.0.few)

pub bounds-places-x : goal.bounds-places-x
bounds-places-x c = omega (arith, c.requires.0.few)

-- where signal x is declared
stands : (w : After-from_entry-place) →
    let l = w in
    (get_or (declared_by l.args.text.now) l.loop-x.x no_signal).place ≡ w.from_entry-place.result
stands w =
    let l = w in
    l.requires.0.stands l.loop-x.x w.loop-x-test.true ∙ sym w.from_entry-place.ensures.0

pub measure_signal-work-requires : goal.measure_signal-work-requires
measure_signal-work-requires c =
    let s = c in
    let x = c.loop-x.x in (
      record {
        signal = get_or (declared_by s.args.text.now) x no_signal;
        stands = stands c;
        spelled = s.requires.0.spelled x (omega arith);
      },
      s.requires.1,
    )

pub offset_bounds-commands-x : goal.offset_bounds-commands-x
offset_bounds-commands-x c = omega (arith, c.requires.0.few)

pub bounds-commands-x : goal.bounds-commands-x
bounds-commands-x c = omega (arith, c.requires.0.few)

pub loop-x-preserved : goal.loop-x-preserved
loop-x-preserved c =
    let c5 = c in
    let c7 = c in
    let s = c in
    let l = c5.loop-x in
    let d = s.requires.0 in
    let g = declared_by s.args.text.now in
    let σ = get_or g l.x no_signal in
    let w = c.measure_signal-work.ensures in
    let here = stands (goal.at.loop-x-preserved c).After-from_entry-place in
    let spelled = d.spelled l.x (omega arith) in (
      omega arith,
      length-set l.commands l.x _ ∙ l.invariant.1,
      omega (arith, l.invariant.2, c.max-height.ensures, w.height σ here spelled, highest-next g l.x (omega (arith, d.count-is))),
      filled _ l.commands l.x _ (omega (arith, l.invariant.1, d.few)) (w.commands σ here spelled) l.invariant.3,
    )

pub returns : goal.returns
returns c =
    let s = c in
    let l = c.loop-x in
    let d = s.requires.0 in
    record {
      commands-are = λ x lt. l.invariant.3 x (omega (arith, d.count-is));
      highest-is = omega (arith, l.invariant.2, highest-done (declared_by s.args.text.now) l.x (omega (arith, d.count-is)));
    }
