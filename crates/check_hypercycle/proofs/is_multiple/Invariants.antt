-- `check_hypercycle::is_multiple` meets its contract. Assumes nothing.
use Prim.Native.Nat.{◌+◌, ◌-◌, ◌%◌, ◌≤◌, ◌<◌}
use mathlib.Core.Bool.{◌&&◌}
use mathlib.Core.Path.{◌≡◌, refl, sym, ap, ◌∙◌}
use native.Mathlib.Omega.{arith}
use lib.Dec.{eqb}
use lib.ListN.{length, drop}
use borrow.Author.Rules.{rules}
use borrow.Author.Tests.{not-true, not-false}
use Rattle.model.specs.Rules.Program.{Program, signal_at}
use Rattle.model.specs.Rules.Rates.{is_multiple}
use Rattle.text_program.specs.Tables.{PeriodsOf}
use Rattle.check_hypercycle.proofs.Multiples.{multiple-here, multiple-over}
use Rattle.check_hypercycle.proofs.is_multiple.Given as goal

abbrev pub invariant-loop-s : goal.invariant-loop-s
invariant-loop-s l =
    (l.s ≤ l.count) ×
    ((p : Program) → length p.signals ≡ l.count → PeriodsOf p l.periods →
    is_multiple p.signals l.h ≡ is_multiple (drop l.s p.signals) l.h)
