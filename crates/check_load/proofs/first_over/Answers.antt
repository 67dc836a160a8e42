-- `check_load::first_over` meets its contract. Assumes nothing.
use Prim.Native.Nat.{◌-◌, ◌≤◌}
use mathlib.Core.Path.{◌≡◌, sym, ◌∙◌}
use native.Mathlib.Nat.{sub-zero}
use native.Mathlib.Omega.{arith}
use borrow.Author.Tests.{lt-ltb, le-ltb}
use lib.Dec.{ltb}
use lib.ListN.{get_or}
use Rattle.model.specs.Rules.Search.{first_below, first_from}
use Rattle.read_rule.proofs.Searches.{search-none, search-here, search-next}
use Rattle.check_load.proofs.first_over.Goals as goal

pub loop-cycle-init : goal.loop-cycle-init
unfolding first_below
loop-cycle-init c = (c.requires, rw sub-zero)

pub returns-then-limit-load : goal.returns-then-limit-load
returns-then-limit-load c =
    let l = c.loop-cycle in
    let a = c.args in
    sym (l.invariant.1 ∙ search-here _ l.cycle a.hypercycle c.loop-cycle-test.true (lt-ltb _ _ c.if-limit-load.true))

pub loop-cycle-preserved : goal.loop-cycle-preserved
loop-cycle-preserved c =
    let l = c.loop-cycle in
    let a = c.args in (
      l.invariant.0,
      l.invariant.1 ∙ search-next _ l.cycle a.hypercycle c.loop-cycle-test.true
          (le-ltb _ _ c.if-limit-load.false),
    )

pub returns : goal.returns
returns c =
    let l = c.loop-cycle in
    sym (l.invariant.1 ∙ search-none _ l.cycle c.args.hypercycle c.loop-cycle-test.false)
