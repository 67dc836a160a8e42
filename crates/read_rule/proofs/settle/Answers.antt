-- `read_rule::settle` meets its contract. Assumes nothing.
use Prim.Native.Nat.{◌-◌, ◌≤◌}
use mathlib.Core.Path.{◌≡◌, refl, sym, ◌∙◌}
use native.Mathlib.Omega.{arith}
use Rattle.model.specs.Rules.Search.{first_from}
use Rattle.read_rule.specs.Lines.{SmallLine, meets_at}
use Rattle.read_rule.proofs.Searches.{search-none, search-here, search-next}
use Rattle.read_rule.proofs.settle.Goals as goal

pub meets-requires : goal.meets-requires
meets-requires c = (c.loop-i.invariant.0, omega (arith, c.loop-i.invariant.1, c.if-to-i.false))

pub loop-i-preserved : goal.loop-i-preserved
loop-i-preserved c =
    let l = c.loop-i in (
      l.invariant.0,
      l.invariant.1,
      l.invariant.2 ∙ search-next _ _ _ c.if-to-i.false (sym c.meets.ensures ∙ c.if-meets.false),
    )

pub returns-then-to-i : goal.returns-then-to-i
returns-then-to-i c = sym (c.loop-i.invariant.2 ∙ search-none _ _ _ c.if-to-i.true)

pub returns-then-meets : goal.returns-then-meets
returns-then-meets c =
    sym (c.loop-i.invariant.2 ∙
    search-here _ _ _ c.if-to-i.false (sym c.meets.ensures ∙ c.if-meets.true))

pub loop-i-init : goal.loop-i-init
loop-i-init c = (c.requires.0, c.requires.1, refl)
