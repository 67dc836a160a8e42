-- `check_hypercycle::check_hypercycle` meets its contract. Assumes nothing.
use Prim.Native.Nat.{◌-◌}
use mathlib.Core.Path.{◌≡◌}
use lib.ListN.{length}
use Rattle.model.specs.Rules.Program.{Program}
use Rattle.model.specs.Rules.Rates.{hypercycle_of, hypercycle}
use Rattle.text_program.specs.Tables.{PeriodsOf}
use Rattle.check_hypercycle.proofs.Multiples.{left_from}
use Rattle.check_hypercycle.proofs.check_hypercycle.Given as goal

abbrev pub invariant-loop-h : goal.invariant-loop-h
invariant-loop-h l =
    (p : Program) → length p.signals ≡ l.count → PeriodsOf p l.periods → hypercycle p ≡ hypercycle_of (left_from p (l.h - 1))
