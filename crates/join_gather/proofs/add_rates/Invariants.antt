-- `join_gather::add_rates` meets its contract. Assumes nothing.
use Prim.Native.Nat.{◌*◌}
use mathlib.Core.Bool.{false}
use mathlib.Core.Path.{◌≡◌}
use lib.Dec.{eqb}
use lib.ListN.{length, get_or}
use Rattle.model.specs.Rules.Word.{byte_at}
use Rattle.join_gather.specs.Rates.{Filled}
use Rattle.join_gather.proofs.add_rates.Given as goal

abbrev pub invariant-loop-x : goal.invariant-loop-x
invariant-loop-x l =
    (length l.initial.periods ≡ 512 → Filled 0 (λ y. get_or l.tables.periods y 0) (64 * l.part) l.x l.initial.periods l.periods) ×
    (length l.initial.inputs ≡ 512 →
    Filled false (λ y. eqb (byte_at l.program (get_or l.tables.places y 0)) 0x10) (64 * l.part) l.x l.initial.inputs l.inputs)
