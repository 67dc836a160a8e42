-- `board::cycle_place` meets its contract. Assumes nothing.
use Prim.Native.Nat.{ℕ, ◌+◌, ◌≤◌}
use mathlib.Core.Bool.{true}
use mathlib.Core.List.{List}
use mathlib.Core.Path.{◌≡◌, refl, sym, ap, ◌∙◌}
use native.Mathlib.Omega.{arith}
use borrow.Author.Tests.{lt-ltb}
use Rattle.std.proofs.lemmas.Result.{err_from_is_err_and}
use lib.IntN.{ℤ}
use lib.Dec.{leb}
use lib.ListN.{length}
use Rattle.model.specs.Rules.Machine.{count_of, well_formed, stretch, Effect, Does, cycle_of, cycled_of}
use Rattle.model.specs.Rules.Outcome.{Outcome}
use Rattle.board.specs.Board.{cycle_in}
use Rattle.machine.specs.Runnable.{Runnable}
use Rattle.machine.proofs.Machine.{gives-refusal, gives-done, cycle-image, cycle-position}
use Rattle.machine.proofs.Judging.{runs_done}
use Rattle.board.proofs.Stretch.{gives-effect, few-signals, outside-27, inside-runs}
use Rattle.board.proofs.cycle_place.Goals as goal
use Rattle.board.proofs.cycle_place.Goals.{Else-not-is_positioned, Else-not-well_formed, Start}

pub returns-in_err-lent : goal.returns-in_err-lent
returns-in_err-lent c =
    let p = err_from_is_err_and c.from_residual.result c.from_residual.ensures.1 in
    let e = c.in_err-lent.ensures.err in
    rw (p.1, p.2, e.1) (gives-effect (outside-27 _ _ _ _ _ e.0) refl refl)

-- what a cycle on the stretch answers and leaves
runs-there : (lent images : List ℕ) (start size : ℕ) (words samples : List ℤ) {answer : Outcome ℕ} {left : List ℤ} →
    (leb (start + size) (length images) ≡ true) × (lent ≡ stretch images start (start + size)) →
    Does (cycle_of lent words samples) answer left → Does (cycle_in images start size words samples) answer left
runs-there lent images start size words samples s g =
    let there = ap (λ (l : List ℕ). cycle_of l words samples) s.1 in
    gives-effect (inside-runs _ _ _ _ _ s.0) (g.0 ∙ ap (λ (e : Effect ℕ ℤ). e.answer) there)
    (g.1 ∙ ap (λ (e : Effect ℕ ℤ). e.left) there)

pub returns-then-not-well_formed : goal.returns-then-not-well_formed
returns-then-not-well_formed c =
    let ill = sym c.well_formed-2.ensures ∙ c.if-not-well_formed.true in
    runs-there _ _ _ _ _ _ c.in_ok-lent.ensures.ok
    (gives-refusal (cycle-image c.image_in-image.ensures _ _ ill) (ap cycled_of c.refuse.ensures))

-- where the image is well formed
module _ (e : Else-not-well_formed) where
  abbrev start : Start
  start = (goal.at.Else-not-well_formed e).Start

  abbrev image : List ℕ
  image = e.image_in-image.result.now

  well : well_formed image ≡ true
  well = sym e.well_formed-2.ensures ∙ e.if-not-well_formed.false

  few : count_of image ≤ 64
  few = few-signals image well

runnable : (p : Else-not-is_positioned) →
    let e = (goal.at.Else-not-is_positioned p).Else-not-well_formed in
    Runnable (image e) (start e).args.words.now (start e).args.samples.now
runnable p =
    let e = (goal.at.Else-not-is_positioned p).Else-not-well_formed in
    record {
      formed = well e;
      long = omega (arith, few e, (start e).requires.0);
      position = sym p.is_positioned.ensures ∙ p.if-not-is_positioned.false;
      enough = omega (arith, few e, (start e).requires.1);
    }

pub is_positioned-requires : goal.is_positioned-requires
is_positioned-requires c = (well c, omega (arith, (start c).requires.0))

pub returns-then-not-is_positioned : goal.returns-then-not-is_positioned
returns-then-not-is_positioned c =
    let e = (goal.at.returns-then-not-is_positioned c).Else-not-well_formed in
    let room = lt-ltb (count_of (image e)) (length (start e).args.words.now) (omega (arith, few e, (start e).requires.0)) in
    let none = sym c.is_positioned.ensures ∙ c.if-not-is_positioned.true in
    runs-there _ _ _ _ _ _ c.in_ok-lent.ensures.ok
    (gives-refusal (cycle-position e.image_in-image.ensures _ _ (well e) room none) (ap cycled_of c.refuse-then-not-is_positioned.ensures))

pub returns : goal.returns
returns c =
    let p = (goal.at.returns c).Else-not-is_positioned in
    let e = (goal.at.returns c).Else-not-well_formed in
    let runs = runs_done e.image_in-image.ensures (runnable p) in
    runs-there _ _ _ _ _ _ c.in_ok-lent.ensures.ok (gives-done runs c.run_cycle-total.ensures.count c.run_cycle-total.ensures.left)

pub run_cycle-total-requires : goal.run_cycle-total-requires
run_cycle-total-requires c = runnable (goal.at.run_cycle-total-requires c).Else-not-is_positioned
