-- `join_emit::sources_of` meets its contract. Assumes nothing.
use Prim.Native.Nat.{◌/◌}
use mathlib.Core.Path.{◌≡◌}
use lib.ListN.{length}
use Rattle.join_emit.specs.Sources.{wire_by}
use Rattle.join_emit.proofs.Sourced.{SourcesFrom}
use Rattle.join_emit.proofs.sources_of.Given as goal

abbrev pub invariant-loop-i : goal.invariant-loop-i
invariant-loop-i l =
    (length l.sources ≡ 64) × SourcesFrom (wire_by l.links l.bases) (length l.links / 4) l.i l.sources
