-- `join_gather::add_rates` meets its contract. Assumes nothing.
use Prim.Native.Nat.{ℕ}
use mathlib.Core.Path.{◌≡◌, refl, sym, ap}
use native.Mathlib.Omega.{arith}
use lib.Dec.{eqb}
use Rattle.model.specs.Rules.Word.{byte_at}
use Rattle.join_gather.proofs.Fills.{fill_none, fill-next}
use Rattle.join_gather.proofs.Rated.{rates-next}
use Rattle.join_gather.proofs.add_rates.Goals as goal

pub loop-x-init : goal.loop-x-init
loop-x-init c = (λ e. fill_none _ _ _ _, λ e. fill_none _ _ _ _)

pub loop-x-preserved : goal.loop-x-preserved
loop-x-preserved c =
    let x = c.loop-x.x in
    let i = c.loop-x.invariant in (
      (λ e. fill-next _ _ _ x _ _ _ (i.0 e) (omega (arith, e, c.requires.0, c.requires.1, c.loop-x-test.true)) refl),
      (λ e.
          fill-next _ _ _ x _ _ _ (i.1 e) (omega (arith, e, c.requires.0, c.requires.1, c.loop-x-test.true))
          (ap (λ (n : ℕ). eqb (byte_at c.args.program.now n) 0x10) c.from_entry-place.ensures.0)),
    )

pub returns : goal.returns
returns c =
    let l = c.loop-x in
    λ parts a of e old.
    let x : l.x ≡ c.args.tables.now.signals = omega (arith, l.auto.x-end, c.loop-x-test.false) in
    rates-next parts a c.args.program.now c.args.tables.now _ l.periods _ l.inputs of old (omega (arith, e, c.requires.0))
    (rw (e, sym x) (l.invariant.0 old.room)) (rw (e, sym x) (l.invariant.1 old.long))

pub bounds-program-place : goal.bounds-program-place
bounds-program-place c = omega (arith, c.requires.2 c.loop-x.x c.loop-x-test.true, c.from_entry-place.ensures.0)
