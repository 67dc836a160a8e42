-- `text_program::read_tables` meets its contract. Assumes nothing.
use Prim.Native.Nat.{◌-◌}
use mathlib.Core.Path.{◌≡◌}
use lib.ListN.{length}
use Rattle.text_program.proofs.Tabled.{Reading}
use Rattle.text_program.proofs.read_tables.Given as goal

abbrev pub invariant-loop-walk : goal.invariant-loop-walk
invariant-loop-walk l =
    (length l.reads ≡ length l.initial.reads) × (l.walk.lookups ≡ l.tables.lookups) ×
    Reading l.least l.text l.reads l.tables l.walk.at l.label l.walk.reads l.walk.code

abbrev pub decreases-loop-walk : goal.decreases-loop-walk
decreases-loop-walk l = length l.text - l.walk.at
