-- `image_write::emit_runs` meets its contract. Assumes nothing.
use Prim.Native.Nat.{ℕ}
use mathlib.Core.Bool.{true}
use mathlib.Core.List.{List}
use mathlib.Core.Path.{◌≡◌}
use lib.ListN.{length}
use Rattle.model.specs.Rules.Reads.{Rate, due}
use Rattle.image_write.specs.Cursors.{Pending, Splits}
use Rattle.image_write.proofs.Cursors.{mixed}
use Rattle.image_write.proofs.emit_runs.Given as goal

abbrev pub rate : ℕ → ℕ → Rate
rate period phase = record { period = period; phase = phase }

abbrev pub invariant-loop-c : goal.invariant-loop-c
invariant-loop-c v =
    (v.c-step ≡ v.period) × (length v.nexts ≡ 241) × (due (rate v.period v.phase) v.c ≡ true) ×
    ((all l : List ℕ) (after : ℕ → ℕ) (old new : ℕ → List ℕ) → Pending all l v.to v.h after old v.initial.out v.initial.nexts →
    Splits (rate v.period v.phase) v.x v.h old new → Pending all l v.to v.h after (mixed old new v.c) v.out v.nexts)
