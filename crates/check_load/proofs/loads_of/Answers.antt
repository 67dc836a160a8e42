-- `check_load::loads_of` meets its contract. Assumes nothing.
use Prim.Native.Nat.{ℕ, ◌*◌, ◌-◌, ◌≤◌, ◌<◌}
use mathlib.Core.Path.{◌≡◌, refl, sym, ap, ◌∙◌}
use native.Mathlib.Nat.{le_of_eq}
use native.Mathlib.Omega.{arith}
use lib.ListN.{length, get_or, get_or-replicate}
use Rattle.check_load.specs.Load.{load_in, LoadsOf}
use Rattle.check_load.proofs.Loads.{load-none, loads-more}
use Rattle.check_load.proofs.loads_of.Goals as goal

pub loop-x-init : goal.loop-x-init
loop-x-init c = (
  omega arith,
  c.requires.0,
  c.requires.1,
  c.requires.2,
  refl,
  (λ d lt. le_of_eq (get_or-replicate {A = ℕ} 240 d 0 0 (omega arith))),
  (λ d lt. get_or-replicate {A = ℕ} 240 d 0 0 (omega arith) ∙ sym (load-none _ _ _ d)),
)

pub add_runs-requires : goal.add_runs-requires
add_runs-requires c =
    let l = c.loop-x in
    let i = l.invariant in
    (i.3 l.x (omega arith), i.2, i.4, (λ d lt. omega (arith, i.5 d lt)))

pub loop-x-preserved : goal.loop-x-preserved
loop-x-preserved c =
    let c6 = c in
    let c7 = c in
    let l = c6.loop-x in
    let i = l.invariant in
    let a = c7.args in
    let r = c.add_runs.ensures in (
      omega arith,
      i.1,
      i.2,
      i.3,
      r.long,
      (λ d lt. omega (arith, r.bounded d lt, i.5 d lt)),
      loads-more a.periods.now a.phases.now a.weights.now l.x a.hypercycle l.loads _ i.6 r,
    )

pub returns : goal.returns
returns c d lt =
    let l = c.loop-x in
    let a = c.args in
    let e : l.x ≡ a.signals = omega arith in
    l.invariant.6 d lt ∙ ap (λ n. load_in a.periods.now a.phases.now a.weights.now n d) e
