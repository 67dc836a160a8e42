-- `moves::has_room` meets its contract. Assumes nothing.
use Prim.Native.Nat.{ℕ, ◌+◌, ◌-◌, ◌<◌}
use mathlib.Core.Bool.{true, false, false≢true}
use mathlib.Core.List.{List}
use mathlib.Core.Path.{◌≡◌, refl, sym, ap, ◌∙◌}
use native.Mathlib.Decide.{dec_lt}
use native.Mathlib.Omega.{arith}
use borrow.Author.Rules.{rules}
use borrow.Author.Tests.{le-ltb, ltb-false}
use lib.ListN.{get_or}
use lib.Dec.{ltb}
use Rattle.model.specs.Rules.Reads.{Rate, due}
use Rattle.runs.proofs.Runs.{due-first, due-next, due-before, due-between}
use Rattle.moves.proofs.has_room.Invariants.{rate}
use Rattle.moves.proofs.has_room.Goals as goal

-- One run more has been passed.
passed : (r : Rate) → r.phase < r.period → (loads : List ℕ) (limit weight t t' : ℕ) → t' ≡ t + r.period → due r t ≡ true →
    ((c : ℕ) → c < t → due r c ≡ true → ltb limit (get_or loads c 0 + weight) ≡ false) →
    ltb limit (get_or loads t 0 + weight) ≡ false →
    (c : ℕ) → c < t' → due r c ≡ true → ltb limit (get_or loads c 0 + weight) ≡ false
passed r v loads limit weight t t' e d h here c lt q = go (dec_lt c t) (dec_lt t c)
  where
    go : Dec (c < t) → Dec (t < c) → ltb limit (get_or loads c 0 + weight) ≡ false
    go (yes l) m = h c l q
    go (no l) (yes m) = absurd (false≢true (sym (due-between r v t c d m (omega arith)) ∙ q))
    go (no l) (no m) = let z : c ≡ t = omega arith in rw z here

pub loop-next-init : goal.loop-next-init
loop-next-init c =
    let a = c in
    let r = rate a.args.period a.args.phase in
    (due-first r a.requires.0, λ k lt d. absurd (false≢true (sym (due-before r a.requires.0 k lt) ∙ d)))

pub returns-then-most-load : goal.returns-then-most-load
returns-then-most-load c =
    let t = c in
    let l = t.loop-next in
    let a = t.args in (
      λ e. absurd (false≢true e),
      λ h.
          let most = ltb-false a.limit (get_or a.loads.now l.next 0 + a.weight) (h l.next t.loop-next-test.true
          l.invariant.0) in
          absurd (omega (arith, c.if-most-load.true, c.load_with-load.ensures, most)),
    )

pub loop-next-preserved : goal.loop-next-preserved
loop-next-preserved c =
    let t = c in
    let l = t.loop-next in
    let w = c in
    let a = c in
    let r = rate a.args.period a.args.phase in
    let step : l.next + w.from_byte-step.result ≡ l.next + a.args.period = ap (l.next +◌) w.from_byte-step.ensures.0 in (
      ap (due r) step ∙ due-next r a.requires.0 l.next l.invariant.0,
      passed r a.requires.0 a.args.loads.now a.args.limit a.args.weight l.next _ step l.invariant.0 l.invariant.1
          (le-ltb a.args.limit (get_or a.args.loads.now l.next 0 + a.args.weight)
          (omega (arith, c.if-most-load.false, c.load_with-load.ensures))),
    )

pub returns : goal.returns
returns c =
    let l = c.loop-next in
    (λ e k lt d. l.invariant.1 k (omega (arith, c.loop-next-test.false)) d, λ e. refl)

pub offset_bounds-loads-next : goal.offset_bounds-loads-next
offset_bounds-loads-next c = omega (arith, c.loop-next-test.true, c.requires.1)

pub bounds-loads-next : goal.bounds-loads-next
bounds-loads-next c = omega (arith, c.loop-next-test.true, c.requires.1)

pub overflow_add-next : goal.overflow_add-next
overflow_add-next c = let t = c in
    omega (arith, t.loop-next-test.true, t.requires.1, t.from_byte-step.ensures.1)

pub loop-next-smaller : goal.loop-next-smaller
loop-next-smaller c = let t = c in
    omega (arith, t.loop-next-test.true, t.requires.0, t.from_byte-step.ensures.0)
