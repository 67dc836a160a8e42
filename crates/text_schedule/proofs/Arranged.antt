-- What a pair that has passed 2 to 13, 29 and 30 keeps, by its tables. Assumes nothing.
use Prim.Native.Nat.{ℕ, ◌≤◌, ◌<◌}
use mathlib.Core.List.{List}
use native.Mathlib.Omega.{arith}
use lib.ListN.{get_or}
use Rattle.model.specs.Rules.Program.{Program, count}
use Rattle.model.specs.Rules.Schedule.{Schedule}
use Rattle.model.specs.Says.Feasible.{Ordered}
use Rattle.model.proofs.Pairs.Hypercycle.{hypercycle-least}
use Rattle.model.proofs.Texts.Puts.{placed-ordered}
use Rattle.text_schedule.specs.Arranged.{Arranged}
use Rattle.text_schedule.specs.declared.PairTables.{PairTables}

module _ {text reads : List ℕ} {t : PairTables} {p : Program} {s : Schedule} (g : Arranged text reads t p s) where
  pub short-hypercycle : t.hypercycle ≤ 240
  short-hypercycle = ((hypercycle-least p t.hypercycle).0 g.hyper).bound

  pub ordered : Ordered p s
  ordered = (placed-ordered p g.puts s g.places).0

  pub phases-below : (x : ℕ) → x < t.tables.signals → get_or t.slots.phases x 0 < get_or t.tables.periods x 0
  phases-below x lt =
      let l : x < count p = omega (arith, g.stands.tables-are.counts.signals-are) in
      omega (arith, g.slots-are.phases-are x l, g.stands.tables-are.periods x l, ordered.phases x l)
